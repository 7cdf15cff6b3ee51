-- A history without the versions that a mark gives up.
use Rattle.std.specs.Prelude.{◌≡◌, ◌≢◌, ℕ, Bool, true, List, [], ◌∷◌, Option, Some, None, ◌&&◌, ◌||◌, not, if◌then◌else◌}
use Rattle.pseudo_time.specs.TimeParts.{TimeParts}
use Rattle.pseudo_time.specs.Order.{lt}
use Rattle.value_form.specs.declared.objects.ObjectId.{ObjectId}
use Rattle.object_history.specs.declared.marks.Mark.{Mark}
use Rattle.object_history.specs.declared.marks.Mark.TheVariants.{Put, Stretch, Settle, Floor}
use Rattle.object_history.specs.History.{Seen, settle_of, is_committed, version_count, scan, place_of, same_place, floor_of}
use Rattle.object_history.specs.Views.{Starts}

-- the committed version of the object with the greatest start below the mark
abbrev pub last_firm : List Mark → TimeParts → ObjectId → Option Seen
last_firm all at o = scan (λ x. lt x at && is_committed (settle_of all x.stamp)) o all

-- a version stays where it isn't below the mark, or is that one
abbrev pub stays_put : List Mark → TimeParts → ObjectId → TimeParts → ℕ → Bool
stays_put all at o x place = not (lt x at) || same_place (place_of (last_firm all at o)) (Some place)

-- what stays of a prefix of the marks, over the mark
unfoldable pub kept : List Mark → TimeParts → List Mark → List Mark
kept all at [] = Floor at ∷ []
kept all at (Put o x v ∷ m) = if stays_put all at o x (version_count o m) then Put o x v ∷ kept all at m else kept all at m
kept all at (Stretch o x ∷ m) = if lt at x then Stretch o x ∷ kept all at m else kept all at m
kept all at (Settle s c ∷ m) = Settle s c ∷ kept all at m
kept all at (Floor x ∷ m) = kept all at m

abbrev pub retired : List Mark → TimeParts → List Mark
retired m at = kept m at m

-- the floor lies below the mark, and no undecided version does
pub record MayRetire (m : List Mark) (at : TimeParts) : Type 0 where
  pub floor : (e : TimeParts) → floor_of m ≡ Some e → lt e at ≡ true
  pub decided : (o : ObjectId) → Starts (λ x. lt x at ≡ true → settle_of m x.stamp ≢ None) o m

-- the same start and value; the places may differ
abbrev pub Same : Option Seen → Option Seen → Type 0
Same None None = Unit {0}
Same (Some p) (Some q) = (p.start ≡ q.start) × (p.value ≡ q.value)
Same None (Some q) = ⊥
Same (Some p) None = ⊥

-- none of the object's versions below the mark is the reader's own
abbrev pub NoneOwn : List Mark → ObjectId → TimeParts → TimeParts → Type 0
NoneOwn m o at t = Starts (λ x. lt x at ≡ true → x.stamp ≢ t.stamp) o m
