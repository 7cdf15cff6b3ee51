-- What a table knows of its histories beside the store: their marks, how stamps are decided, and the headers.
use Rattle.std.specs.Prelude.{◌≡◌, ℕ, Bool, true, false, List, [], ◌∷◌, ◌++◌, Option, Some, None, reverse, if◌then◌else◌}
use Rattle.std.specs.FinMap as finite
use Rattle.pseudo_time.specs.StampParts.{StampParts}
use Rattle.pseudo_time.specs.TimeParts.{TimeParts}
use Rattle.value_form.specs.declared.objects.ObjectId.{ObjectId}
use Rattle.medium_port.specs.Image.{Image}
use Rattle.medium_port.specs.Moment.{Stage}
use Rattle.effect_form.specs.declared.effects.Effect.{Effect}
use Rattle.object_history.specs.declared.marks.Mark.{Mark}
use Rattle.object_history.specs.History.{floor_of}
use Rattle.object_history.specs.Kept.{Settled}
use Rattle.object_history.specs.Ranges.{AreMarks}
use Rattle.object_header.specs.Spans.{HeadParts}
use Rattle.object_header.specs.Heads.{Fits, Rising, IsHead, Headed, head_at}
use Rattle.repository_log.specs.Logs.{marks}
use Rattle.object_header.specs.Odd.{kept_of}

-- `log` is what stands in the store, oldest first; `late` are the marks that don't stand there yet, newest first
pub record LedgerParts : Type 0 where
  pub log : List Effect
  pub late : List Mark
  pub settles : Settled
  pub heads : Headed
  -- odd objects can be answered, by these marks, newest first
  pub whole : Bool
  pub kept : List Mark

abbrev pub stored : LedgerParts → List Mark
stored l = marks (reverse l.log)

-- the marks of the histories, newest first
abbrev pub content : LedgerParts → List Mark
content l = l.late ++ stored l

-- which objects are odd
abbrev pub odd_in : Headed → ObjectId → Bool
odd_in heads o = (head_at heads o).odd

abbrev pub is_odd : LedgerParts → ObjectId → Bool
is_odd l o = odd_in l.heads o

-- the header of each object that isn't odd is that of its versions, which rise
pub record IsIndexed (m : List Mark) (settled : Settled) (heads : Headed) : Type 0 where
  pub fits : Fits m settled
  pub objects : (o : ObjectId) → (head_at heads o).odd ≡ false → Rising settled o m × IsHead settled m o (head_at heads o)

pub record IsLedger (l : LedgerParts) : Type 0 where
  pub indexed : IsIndexed (content l) l.settles l.heads
  pub in_range : AreMarks l.late
  pub kept : l.whole ≡ true → l.kept ≡ kept_of (is_odd l) (stored l)
  pub kept_in_range : AreMarks l.kept

-- the greatest Floor of the marks is kept beside it
pub record IsFloored (l : LedgerParts) (floor : Option TimeParts) : Type 0 where
  pub ledger : IsLedger l
  pub floors : floor ≡ floor_of (content l)

-- what is seen of a medium: what it reads, and its stages so far
pub record MediumParts : Type 0 where
  pub reads : Image
  pub stages : List Stage

-- what lies below: the store's log, oldest first, the number of pages left, and what is seen of its medium, where that is told
pub record BeneathParts : Type 0 where
  pub log : List Effect
  pub left : ℕ
  pub medium : Option MediumParts

-- what is seen of a medium, where it tells its content
abbrev pub told_medium : Bool → Image → List Stage → Option MediumParts
told_medium true reads stages = Some (record { reads = reads; stages = stages })
told_medium false reads stages = None

-- that of a ledger over a medium with so many pages left
abbrev pub beneath : LedgerParts → ℕ → Option MediumParts → BeneathParts
beneath l left medium = record { log = l.log; left = left; medium = medium }
