-- What a reader may rely on: its view of an object, which later marks leave as it is.
use Rattle.std.specs.Prelude.{◌≡◌, ◌≢◌, Bool, true, false, List, [], ◌∷◌, Option, Some, None, ◌&&◌, ◌||◌, ◌⊎◌}
use Rattle.pseudo_time.specs.TimeParts.{TimeParts}
use Rattle.pseudo_time.specs.Order.{same_stamp, lt}
use Rattle.value_form.specs.declared.objects.ObjectId.{ObjectId}
use Rattle.value_form.specs.declared.values.Value.{Value}
use Rattle.value_form.specs.declared.values.Value.TheVariants.{Nothing}
use Rattle.object_history.specs.declared.marks.Mark.{Mark}
use Rattle.object_history.specs.declared.marks.Mark.TheVariants.{Put, Stretch, Settle, Floor}
use Rattle.object_history.specs.declared.steps.WriteStep.TheVariants as write
use Rattle.object_history.specs.History.{Seen, settle_of, alive, version_count, scan, floor_of, reach}
use Rattle.object_history.specs.Answers.{write_step}

-- ---- the versions of an object

-- the start of each version of the object has P
abbrev pub Starts : (TimeParts → Type 0) → ObjectId → List Mark → Type 0
Starts P o [] = Unit {0}
Starts P o (Put a x v ∷ m) = (a ≡ o → P x) × Starts P o m
Starts P o (Stretch a x ∷ m) = Starts P o m
Starts P o (Settle s c ∷ m) = Starts P o m
Starts P o (Floor z ∷ m) = Starts P o m

-- the start of some version of the object has P
abbrev pub HasPut : (TimeParts → Type 0) → ObjectId → List Mark → Type 0
HasPut P o [] = ⊥
HasPut P o (Put a x v ∷ m) = ((a ≡ o) × P x) ⊎ HasPut P o m
HasPut P o (Stretch a x ∷ m) = HasPut P o m
HasPut P o (Settle s c ∷ m) = HasPut P o m
HasPut P o (Floor z ∷ m) = HasPut P o m

-- this is a version of the object
abbrev pub IsVersion : ObjectId → List Mark → Seen → Type 0
IsVersion o [] q = ⊥
IsVersion o (Put a x v ∷ m) q = ((a ≡ o) × (record { place = version_count o m; start = x; value = v } ≡ q)) ⊎ IsVersion o m q
IsVersion o (Stretch a x ∷ m) q = IsVersion o m q
IsVersion o (Settle s c ∷ m) q = IsVersion o m q
IsVersion o (Floor z ∷ m) q = IsVersion o m q

-- no two versions of an object have one start
abbrev pub Distinct : List Mark → Type 0
Distinct [] = Unit {0}
Distinct (Put o x v ∷ m) = Starts (λ y. y ≢ x) o m × Distinct m
Distinct (Stretch o x ∷ m) = Distinct m
Distinct (Settle s c ∷ m) = Distinct m
Distinct (Floor z ∷ m) = Distinct m

-- ---- the reader's view

-- what a reader at t may see: its own versions count as alive
abbrev pub shows : List Mark → TimeParts → TimeParts → Bool
shows m t x = lt x t && (alive m x || same_stamp x.stamp t.stamp)

-- the reader's view at t
abbrev pub views : List Mark → ObjectId → TimeParts → Option Seen
views m o t = scan (λ x. shows m t x) o m

-- the end is at or above t
abbrev pub Covers : Option TimeParts → TimeParts → Type 0
Covers None t = ⊥
Covers (Some e) t = lt e t ≡ false

-- what is seen is the reader's own, or committed
abbrev pub Firm : List Mark → TimeParts → Option Seen → Type 0
Firm m t None = Unit {0}
Firm m t (Some q) = (q.start.stamp ≡ t.stamp) ⊎ (settle_of m q.start.stamp ≡ Some true)

-- no write between what is seen and t is accepted any more: the reach covers t, or a committed version stands at t or above
abbrev pub Shut : List Mark → ObjectId → TimeParts → Option Seen → Type 0
Shut m o t r = Covers (reach m o r) t ⊎ HasPut (λ y. (settle_of m y.stamp ≡ Some true) × (lt y t ≡ false)) o m

abbrev pub value_of : Option Seen → Value
value_of None = Nothing
value_of (Some q) = q.value

-- a reader at t isn't below the floor
abbrev pub IsOnFloor : List Mark → TimeParts → Type 0
IsOnFloor m t = (e : TimeParts) → floor_of m ≡ Some e → lt t e ≡ false

-- the reader's view at t has this value, and is firm and shut
abbrev pub Viewed : List Mark → ObjectId → TimeParts → Value → Type 0
Viewed m o t v = (value_of (views m o t) ≡ v) × Firm m t (views m o t) × Shut m o t (views m o t)

-- the mark fits the marks below it: an accepted write of an attempt that isn't decided, or a first Settle, or any Stretch
abbrev pub Fits : List Mark → Mark → Type 0
Fits m (Put o x v) = (settle_of m x.stamp ≡ None) × (write_step m o x v ≡ write.Put)
Fits m (Stretch o x) = Unit {0}
Fits m (Settle s c) = settle_of m s ≡ None
Fits m (Floor z) = ⊥

-- each mark fits those below it
abbrev pub Grown : List Mark → Type 0
Grown [] = Unit {0}
Grown (f ∷ m) = Fits m f × Grown m
