-- What comes of retiring a repository at a mark, over its volumes as they were opened.
use Rattle.std.specs.Prelude.{◌≡◌, ◌⊎◌, ℕ, ◌<◌, false, IsTrue, List, [], ◌∷◌, ◌++◌, length, map, reverse, Option, Some, None, Result, Ok, Err, Vec}
use Rattle.std.specs.declared.alloc.Global.{Global}
use Rattle.std.specs.List.{AllZip}
use Rattle.pseudo_time.specs.TimeParts.{TimeParts}
use Rattle.pseudo_time.specs.declared.nodes.NodeId.{NodeId}
use Rattle.pseudo_time.specs.declared.down_causes.DownCause.{DownCause}
use Rattle.pseudo_time.specs.declared.down_causes.DownCause.TheVariants as down
use Rattle.stream_port.specs.Causes.{Rose}
use Rattle.value_form.specs.declared.objects.ObjectId.{ObjectId}
use Rattle.effect_form.specs.declared.effects.Effect.{Effect}
use Rattle.effect_form.specs.Effects.{AreEffects}
use Rattle.medium_port.specs.Image.{Image}
use Rattle.medium_port.specs.declared.shelves.MediumName.{MediumName}
use Rattle.version_store.specs.declared.stores.Store.{Store}
use Rattle.version_store.specs.Filling.{filling}
use Rattle.version_store.specs.Storage.{storage}
use Rattle.version_store.specs.StoreWords.{left_in, medium_of}
use Rattle.object_retirement.specs.Forward.{MayRetire, forward}
use Rattle.report_writer.specs.Reports.{down_text}
use Rattle.run_volumes.specs.Opening.{Opening}
use Rattle.run_volumes.specs.Opening.TheVariants.{Open, Shut}
use Rattle.run_volumes.specs.Media.{Media}
use Rattle.run_volumes.specs.Openings.{medium_in}
use Rattle.forward_copy.specs.Carried.{LeavesFront}
use Rattle.forward_copy.specs.Refusals.{IsFirstUndecided, IsOldMark}
use Rattle.forward_copy.specs.Sifted.{between, left_behind}
use Rattle.forward_copy.specs.Wholes.{has_whole}
use Rattle.forward_copy.specs.declared.copies.Forward.{Forward}
use Rattle.run_volumes.specs.Kept.{kept_under}
use Rattle.run_volumes.specs.Shelves.{IsLeft, ShelfSight, first_names}
use Rattle.run_volumes.specs.Standings.{HasShut, KeepsIts, WritesNothing}
use Rattle.forward_copy.specs.Currents.{node_log}
use Rattle.run_volumes.specs.Volumes.{AreOpen, AreVolumes, fresh, logs_of}
use Rattle.run_volumes.specs.declared.kept.Kept.{Kept}
use Rattle.forward_copy.specs.declared.faults.ForwardFault.{ForwardFault}
use Rattle.forward_copy.specs.declared.faults.ForwardFault.TheVariants as fault
use Rattle.retire_command.specs.declared.outcomes.Retired.{Retired}
use Rattle.retire_command.specs.declared.outcomes.Retired.TheVariants.{Done, Refused, Fallen, NoMemory}
use Rattle.report_writer.specs.Lines.{undecided_line}
use Rattle.retire_command.specs.Lines.{last_volume_line, old_mark_line, retired_line}

-- ---- why it isn't retired

module _ {M : Type 0} {g : _} (at : TimeParts) (openings : List (Opening M g)) where
  -- the repository's log, newest first
  abbrev pub newest_first : List Effect
  newest_first = reverse (node_log (logs_of openings))

  -- no volume is fresh; or one is, and the log can't be retired at the mark
  abbrev pub Refuses : List ℕ → Type 0
  Refuses line = ((fresh (logs_of openings) ≡ None) × (line ≡ last_volume_line))
      ⊎ (((v : ℕ) × (fresh (logs_of openings) ≡ Some v) × (floor : TimeParts) × IsOldMark newest_first at floor × (line ≡ old_mark_line floor))
      ⊎ ((v : ℕ) × (fresh (logs_of openings) ≡ Some v) × (o : ObjectId) × (x : TimeParts) × IsFirstUndecided newest_first at o x × (line ≡ undecided_line o x)))

-- why a volume doesn't take these effects: its medium failed, or they need more pages than are blank
abbrev pub StopsFor : {M : Type 0} (w : Media M) {g : _} → List Effect → Store M g → DownCause → M → Type 0
StopsFor w effects store down.Medium new = Rose (w.faults (medium_of store)) (w.faults new)
StopsFor w effects store (down.Damaged page) new = ⊥
StopsFor w effects store (down.Full pages) new = (pages ≡ w.page_count (medium_of store)) × (left_in store < length (filling effects))

-- ---- what is left of the volumes: those that aren't written to are handed back as they were opened

module _ {M : Type 0} (w : Media M) {g : _} where
  -- the last of the volumes was empty, and is written to: each image of it has P. Nothing is written to the others.
  pub record WritesLast (openings : List (Opening M g)) (left : List (Option M)) (P : Image → Type 0) : Type 0 where
    pub front : List (Opening M g)
    pub store : Store M g
    pub effects : Vec Effect Global
    pub is : openings ≡ front ++ Open store effects ∷ []
    pub empty : effects.items ≡ []
    pub others : List (Option M)
    pub medium : M
    pub is_left : left ≡ others ++ Some medium ∷ []
    pub unwritten : others ≡ map medium_in front
    pub keep : AllZip (KeepsIts w) front others
    pub images : IsTrue w.tells → (c : Image) → w.may_leave medium c → P c

  module _ (n : NodeId) (at : TimeParts) (openings : List (Opening M g)) (left : List (Option M)) where
    -- what the fresh volume gets
    abbrev pub carried : List Effect
    carried = forward (node_log (logs_of openings)) at

    -- the fresh volume, the last, has all that is carried forward, and the line tells so
    pub record IsRetired (text : List ℕ) : Type 0 where
      pub opened : AreOpen openings
      pub may : MayRetire (newest_first at openings) at
      pub volume : ℕ
      pub is_fresh : fresh (logs_of openings) ≡ Some volume
      pub wrote : WritesLast openings left (λ c. storage c ≡ Ok carried)
      pub is_last : volume ≡ length wrote.front
      pub kept : List Effect
      pub is_kept : between at kept ≡ carried
      pub is_text : text ≡ retired_line n.number volume at (length kept) (length (left_behind (node_log (logs_of openings)) at))

    -- it isn't retired, nothing is written, and the line says why
    pub record IsRefused (line : List ℕ) : Type 0 where
      pub opened : AreOpen openings
      pub unwritten : left ≡ map medium_in openings
      pub keep : WritesNothing w openings left
      pub why : Refuses at openings line

    -- a volume couldn't be opened, and nothing is written
    pub record IsShut (line : List ℕ) : Type 0 where
      pub front : List (Opening M g)
      pub medium : Option M
      pub cause : DownCause
      pub back : List (Opening M g)
      pub is : openings ≡ front ++ Shut medium cause ∷ back
      pub unwritten : left ≡ map medium_in openings
      pub keep : WritesNothing w openings left
      pub is_line : line ≡ down_text (record { node = n; cause = cause })

    -- the fresh volume has a prefix of what is carried forward, without its Whole unless it has all
    pub record IsCutOff (line : List ℕ) : Type 0 where
      pub opened : AreOpen openings
      pub may : MayRetire (newest_first at openings) at
      pub wrote : WritesLast openings left (LeavesFront carried)
      pub cause : DownCause
      pub why : StopsFor w carried wrote.store cause wrote.medium
      pub is_line : line ≡ down_text (record { node = n; cause = cause })

    -- nothing is lost: nothing is written; or all volumes were opened, the repository may be retired at the mark, and the fresh volume has a prefix of what is carried forward
    abbrev pub LosesNothing : Type 0
    LosesNothing = WritesNothing w openings left ⊎ (AreOpen openings × MayRetire (newest_first at openings) at × WritesLast openings left (LeavesFront carried))

    -- what came of it
    abbrev pub ComesTo : Retired → Type 0
    ComesTo (Done text) = IsRetired text
    ComesTo (Refused line) = IsRefused line
    ComesTo (Fallen line) = IsShut line ⊎ IsCutOff line
    ComesTo NoMemory = LosesNothing

-- ---- how far it was prepared

module _ {M : Type 0} {g : _} (openings : List (Opening M g)) where
  abbrev pub IsFresh : ℕ → Type 0
  IsFresh volume = fresh (logs_of openings) ≡ Some volume

module _ {M : Type 0} {g : _} (n : NodeId) (at : TimeParts) (openings : List (Opening M g)) where
  -- it is to be retired so
  pub record IsReady (forward_is : Forward) (line : List ℕ) : Type 0 where
    pub opened : AreOpen openings
    pub may : MayRetire (newest_first at openings) at
    pub volume : ℕ
    pub is_fresh : fresh (logs_of openings) ≡ Some volume
    pub is_kept : between at forward_is.kept.items ≡ forward (node_log (logs_of openings)) at
    pub in_range : AreEffects forward_is.kept.items
    pub no_whole : has_whole forward_is.kept.items ≡ false
    pub is_line : line ≡ retired_line n.number volume at (length forward_is.kept.items) (length (left_behind (node_log (logs_of openings)) at))

  -- why it isn't, before anything is written
  abbrev pub Stops : Retired → Type 0
  Stops (Done text) = ⊥
  Stops (Refused line) = AreOpen openings × Refuses at openings line
  Stops (Fallen line) = (cause : DownCause) × HasShut openings cause × (line ≡ down_text (record { node = n; cause = cause }))
  Stops NoMemory = Unit {0}

-- a refusal with a line, if it could be made
abbrev pub IsRefusal : {E : Type 0} → Result (List ℕ) E → Retired → Type 0
IsRefusal (Ok line) r = r ≡ Refused line
IsRefusal (Err e) r = r ≡ NoMemory

abbrev pub IsFall : {E : Type 0} → Result (List ℕ) E → Retired → Type 0
IsFall (Ok line) r = r ≡ Fallen line
IsFall (Err e) r = r ≡ NoMemory

-- the refusal for this fault, if its line could be made
abbrev pub RefusesFor : ForwardFault → Retired → Type 0
RefusesFor (fault.OldMark floor) r = (r ≡ NoMemory) ⊎ (r ≡ Refused (old_mark_line floor))
RefusesFor (fault.Undecided o x) r = (r ≡ NoMemory) ⊎ (r ≡ Refused (undecided_line o x))
RefusesFor fault.NoMemory r = r ≡ NoMemory

-- ---- what is written into the fresh volume

-- a fault stops it, with a line if that could be made
abbrev pub CutsOff : NodeId → Option DownCause → Retired → Type 0
CutsOff n None r = r ≡ NoMemory
CutsOff n (Some cause) r = (r ≡ NoMemory) ⊎ (r ≡ Fallen (down_text (record { node = n; cause = cause })))

module _ {M : Type 0} (w : Media M) {g : _} (n : NodeId) (effects : List Effect) (store : Store M g) (line : List ℕ) where
  -- a prefix of the effects is left
  abbrev pub HasFront : M → Type 0
  HasFront m = IsTrue w.tells → (c : Image) → w.may_leave m c → LeavesFront effects c

  -- what became of the effects
  abbrev pub Carries : Retired → M → Type 0
  Carries (Done text) m = (text ≡ line) × (IsTrue w.tells → (c : Image) → w.may_leave m c → storage c ≡ Ok effects)
  Carries (Refused text) m = ⊥
  Carries (Fallen text) m = HasFront m × ((cause : DownCause) × StopsFor w effects store cause m × (text ≡ down_text (record { node = n; cause = cause })))
  Carries NoMemory m = HasFront m

-- ---- the whole of it

module _ {M : Type 0} (w : Media M) (old new : ShelfSight) where
  -- Memory ran out before any medium was asked for.
  pub record TookNothing (kept : List (Kept M)) (r : Retired) : Type 0 where
    pub wanting : r ≡ NoMemory
    pub none : kept ≡ []
    pub unasked : new.asked ≡ old.asked
    pub left : (name : MediumName) → IsLeft w.tells old new name

  -- The repository's volumes were taken and opened, and this came of it. What is left of them is handed back.
  pub record RetiresOver (n : NodeId) (at : TimeParts) (kept : List (Kept M)) (r : Retired) : Type 0 where
    pub media : List (Option M)
    pub openings : List (Opening M w)
    pub volumes : AreVolumes w old new n media openings
    pub left : List (Option M)
    pub handed : kept ≡ kept_under (first_names n (length left)) left
    pub came : ComesTo w n at openings left r
