-- Which objects, versions and attempts are shown.
use Rattle.std.specs.Prelude.{ℕ, Bool, true, false, List, [], ◌∷◌, Option, Some, None, ◌==◌, ◌&&◌, ◌||◌, nat_le}
use Rattle.pseudo_time.specs.StampParts.{StampParts}
use Rattle.pseudo_time.specs.TimeParts.{TimeParts}
use Rattle.value_form.specs.declared.objects.ObjectId.{ObjectId}
use Rattle.effect_form.specs.declared.effects.Effect.{Effect}
use Rattle.effect_form.specs.declared.effects.Effect.TheVariants as effect
use Rattle.effect_form.specs.declared.outcomes.Outcome.{Outcome}
use Rattle.effect_form.specs.declared.outcomes.Outcome.TheVariants as outcome
use Rattle.folder_look.specs.declared.choices.Choice.{Choice}
use Rattle.folder_look.specs.declared.touches.Touch.{Touch}
use Rattle.folder_look.specs.Touches.{Touched, touch_at}

-- it is this one, where one is given
abbrev pub is_object : Option ObjectId → ObjectId → Bool
is_object None o = true
is_object (Some a) o = a.repository == o.repository && a.number == o.number

abbrev pub is_repository : Option ℕ → ℕ → Bool
is_repository None r = true
is_repository (Some a) r = a == r

abbrev pub has_object : Choice → ObjectId → Bool
has_object c o = is_object c.object o && is_repository c.repository o.repository

-- its clock isn't below the first nor above the last
abbrev pub has_stamp : Choice → StampParts → Bool
has_stamp c s = nat_le c.from s.clock && nat_le s.clock c.to

abbrev pub has_start : Choice → TimeParts → Bool
has_start c x = has_stamp c x.stamp

-- no object and no repository is given
abbrev pub none_given : Option ObjectId → Option ℕ → Bool
none_given None None = true
none_given None (Some r) = false
none_given (Some o) r = false

abbrev pub has_all : Choice → Bool
has_all c = none_given c.object c.repository

-- ---- attempts

abbrev pub has_touch : Choice → Option Touch → Bool
has_touch c None = false
has_touch c (Some t) = has_object c t.object

-- a refusal names its object
abbrev pub has_outcome : Choice → Outcome → Bool
has_outcome c outcome.Committed = false
has_outcome c (outcome.Withdrawn l) = false
has_outcome c (outcome.Failed l k) = false
has_outcome c (outcome.LaterRead o e) = has_object c o
has_outcome c (outcome.LaterVersion o x) = has_object c o
has_outcome c (outcome.Expired d m) = false
has_outcome c (outcome.Spent clock) = false

-- an attempt whose log goes on so touched an object that is chosen, or was refused for it
abbrev pub concerns : Choice → Touched → StampParts → List Effect → Bool
concerns c touched s [] = false
concerns c touched s (effect.Got k v ∷ es) = has_touch c (touch_at touched s k) || concerns c touched s es
concerns c touched s (effect.Acked k ∷ es) = has_touch c (touch_at touched s k) || concerns c touched s es
concerns c touched s (effect.End i o ∷ es) = has_outcome c o
concerns c touched s (effect.Run n ∷ es) = false
concerns c touched s (effect.Act i h t k x y ∷ es) = false
concerns c touched s (effect.Try i t ∷ es) = false
concerns c touched s (effect.Put o x v ∷ es) = concerns c touched s es
concerns c touched s (effect.Stretch o x ∷ es) = concerns c touched s es
concerns c touched s (effect.Mark at ∷ es) = concerns c touched s es
concerns c touched s (effect.Whole ∷ es) = concerns c touched s es
concerns c touched s (effect.Begin t d ∷ es) = concerns c touched s es
concerns c touched s (effect.Decide t d ∷ es) = concerns c touched s es
concerns c touched s (effect.Learn t d ∷ es) = concerns c touched s es

abbrev pub has_try : Choice → Touched → StampParts → List Effect → Bool
has_try c touched s es = has_stamp c s && (has_all c || concerns c touched s es)
