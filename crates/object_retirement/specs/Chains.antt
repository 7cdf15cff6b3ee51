-- A history and the older ones that it comes from.
use Rattle.std.specs.Prelude.{◌≡◌, ◌⊎◌, ◌≤◌, Bool, List, [], ◌∷◌, ◌++◌, Some}
use Rattle.pseudo_time.specs.StampParts.{StampParts}
use Rattle.pseudo_time.specs.TimeParts.{TimeParts}
use Rattle.pseudo_time.specs.Lists.{Has}
use Rattle.value_form.specs.declared.objects.ObjectId.{ObjectId}
use Rattle.value_form.specs.declared.values.Value.{Value}
use Rattle.object_history.specs.declared.marks.Mark.{Mark}
use Rattle.object_history.specs.declared.marks.Mark.TheVariants.{Put}
use Rattle.object_history.specs.History.{settle_of}
use Rattle.object_history.specs.Views.{Distinct, Fits, IsOnFloor, Viewed}
use Rattle.object_retirement.specs.Retired.{retired, MayRetire}

-- each of these marks fits those below it
abbrev pub Grows : List Mark → List Mark → Type 0
Grows m [] = Unit {0}
Grows m (f ∷ fresh) = Grows m fresh × Fits (fresh ++ m) f

-- the history grew from the older one, or from what a retirement left of it
pub record Follows_on (old m : List Mark) : Type 0 where
  pub fresh : List Mark
  pub base : List Mark
  pub is : m ≡ fresh ++ base
  pub grew : Grows base fresh
  pub came : (base ≡ old) ⊎ ((at : TimeParts) × (at.step ≡ 1) × MayRetire old at × (base ≡ retired old at))

-- the older histories, the latest first
abbrev pub Chain : List (List Mark) → List Mark → Type 0
Chain [] m = Grows [] m
Chain (old ∷ olds) m = Chain olds old × Follows_on old m

-- P holds of one of them
abbrev pub SomeOf : (List Mark → Type 0) → List (List Mark) → Type 0
SomeOf P [] = ⊥
SomeOf P (m ∷ more) = P m ⊎ SomeOf P more

-- in one of these histories the reader was answered so
abbrev pub WasViewed : List (List Mark) → ObjectId → TimeParts → Value → Type 0
WasViewed ms o t v = SomeOf (λ m. IsOnFloor m t × Viewed m o t v) ms

-- all versions that ever stood, in whatever order, each once
pub record AllOf (olds : List (List Mark)) (m all : List Mark) (o : ObjectId) : Type 0 where
  pub distinct : Distinct all
  pub each : (x : TimeParts) (w : Value) → SomeOf (λ l. Has (Put o x w) l) (m ∷ olds) → Has (Put o x w) all
  pub none : (x : TimeParts) (w : Value) → Has (Put o x w) all → SomeOf (λ l. Has (Put o x w) l) (m ∷ olds)
  pub settles : (s : StampParts) (c : Bool) → settle_of m s ≡ Some c → settle_of all s ≡ Some c
  pub steps : (x : TimeParts) (w : Value) → Has (Put o x w) all → 1 ≤ x.step
