-- Why a log isn't retired at a mark. Logs stand newest first.
use Rattle.std.specs.Prelude.{◌≡◌, true, false, List, Some, None}
use Rattle.std.specs.Ordering.{is_lt, ordering_then}
use Rattle.std.specs.Prelude.{Bool}
use Rattle.pseudo_time.specs.TimeParts.{TimeParts, time_cmp}
use Rattle.pseudo_time.specs.Lists.{Has}
use Rattle.pseudo_time.specs.Order.{lt}
use Rattle.value_form.specs.declared.objects.ObjectId.{ObjectId}
use Rattle.value_form.specs.declared.values.Value.{Value}
use Rattle.value_form.specs.Objects.{object_cmp}
use Rattle.effect_form.specs.declared.effects.Effect.{Effect}
use Rattle.effect_form.specs.declared.effects.Effect.TheVariants.{Put}
use Rattle.object_history.specs.History.{floor_of}
use Rattle.repository_log.specs.Logs.{marks, known}

-- the floor isn't below the mark
pub record IsOldMark (l : List Effect) (at floor : TimeParts) : Type 0 where
  pub stands : floor_of (marks l) ≡ Some floor
  pub reached : lt floor at ≡ false

-- the mark is above the floor
abbrev pub IsNewMark : List Effect → TimeParts → Type 0
IsNewMark l at = (e : TimeParts) → floor_of (marks l) ≡ Some e → lt e at ≡ true

-- an undecided version of the object has this start, which is below the mark
pub record IsUndecided (l : List Effect) (at : TimeParts) (o : ObjectId) (x : TimeParts) : Type 0 where
  pub value : Value
  pub stands : Has (Put o x value) l
  pub unknown : known l x.stamp ≡ None
  pub below : lt x at ≡ true

-- the one version comes before the other: by its object, then by its start
abbrev pub comes_before : ObjectId → TimeParts → ObjectId → TimeParts → Bool
comes_before a y o x = is_lt (ordering_then (object_cmp a o) (time_cmp y x))

-- the mark is above the floor, and this is the first of the undecided versions below the mark
pub record IsFirstUndecided (l : List Effect) (at : TimeParts) (o : ObjectId) (x : TimeParts) : Type 0 where
  pub above : IsNewMark l at
  pub undecided : IsUndecided l at o x
  pub first : (a : ObjectId) (y : TimeParts) → IsUndecided l at a y → comes_before a y o x ≡ false
