-- What a page shows, so that links lead to it.
use Rattle.std.specs.Prelude.{ℕ, Bool, List, ◌∷◌, [], codes, if◌then◌else◌}
use Rattle.std.specs.List.{list_any}
use Rattle.std.specs.BTreeMap.{is_at}
use Rattle.pseudo_time.specs.StampParts.{StampParts, stamp_cmp}
use Rattle.pseudo_time.specs.TimeParts.{TimeParts}
use Rattle.value_form.specs.declared.objects.ObjectId.{ObjectId}
use Rattle.value_form.specs.Objects.{object_cmp}
use Rattle.folder_look.specs.declared.choices.Choice.{Choice}
use Rattle.folder_look.specs.declared.shown.Shown.{Shown}
use Rattle.folder_look.specs.Touches.{Touched}
use Rattle.folder_look.specs.Pieces.{text_of, Words, Stamp, Time, Object}

pub record ShownParts : Type 0 where
  pub choice : Choice
  pub touched : Touched
  -- the objects that have a row
  pub objects : List ObjectId
  -- the attempts that have a row
  pub tries : List StampParts

abbrev pub parts_of : Shown → ShownParts
parts_of s = record { choice = s.choice; touched = s.touches; objects = s.objects.keys; tries = s.tries.keys }

abbrev pub has_row : ShownParts → ObjectId → Bool
has_row p o = list_any (is_at (object_cmp o)) p.objects

abbrev pub is_shown : ShownParts → StampParts → Bool
is_shown p s = list_any (is_at (stamp_cmp s)) p.tries

-- an object, which leads to its row if it has one
abbrev pub object_ref : ShownParts → ObjectId → List ℕ
object_ref p o =
    if has_row p o then text_of (Words (codes "<a href=\"#o") ∷ Object o ∷ Words (codes "\">") ∷ Object o ∷ Words (codes "</a>") ∷ [])
    else text_of (Object o ∷ [])

-- a stamp, which leads to its attempt if that is shown
abbrev pub stamp_ref : ShownParts → StampParts → List ℕ
stamp_ref p s =
    if is_shown p s then text_of (Words (codes "<a href=\"#t") ∷ Stamp s ∷ Words (codes "\">") ∷ Stamp s ∷ Words (codes "</a>") ∷ [])
    else text_of (Stamp s ∷ [])

-- so does a pseudotime
abbrev pub time_ref : ShownParts → TimeParts → List ℕ
time_ref p t =
    if is_shown p t.stamp then text_of (Words (codes "<a href=\"#t") ∷ Stamp t.stamp ∷ Words (codes "\">") ∷ Time t ∷ Words (codes "</a>") ∷ [])
    else text_of (Time t ∷ [])
