-- Histories of versions (Reed 1978): which versions are dead, what a read sees, and how far a
-- version was read. A history is a list of marks, newest first.
use Rattle.std.specs.Prelude.{ℕ, ◌+◌, Bool, true, false, List, [], ◌∷◌, Option, Some, None, ◌==◌, ◌&&◌, not, if◌then◌else◌}
use Rattle.pseudo_time.specs.StampParts.{StampParts}
use Rattle.pseudo_time.specs.TimeParts.{TimeParts}
use Rattle.pseudo_time.specs.Order.{same_stamp, lt}
use Rattle.value_form.specs.declared.objects.ObjectId.{ObjectId}
use Rattle.value_form.specs.declared.values.Value.{Value}
use Rattle.object_history.specs.declared.marks.Mark.{Mark}
use Rattle.object_history.specs.declared.marks.Mark.TheVariants.{Put, Stretch, Settle, Floor}
use Rattle.object_history.specs.Objects.{same_object}

-- ---- one mark

-- what a Put makes, by this rule, of what is said below it; the other marks leave that as it is
abbrev pub at_put : {A : Type 0} → (ObjectId → TimeParts → Value → A → A) → Mark → A → A
at_put rule (Put o x v) below = rule o x v below
at_put rule (Stretch o x) below = below
at_put rule (Settle s c) below = below
at_put rule (Floor z) below = below

-- ---- decided stamps

abbrev pub or_else : {A : Type 0} → Option A → A → Option A
or_else None c = Some c
or_else (Some d) c = Some d

-- how a stamp was decided: its first Settle counts
unfoldable pub settle_of : List Mark → StampParts → Option Bool
settle_of [] s = None
settle_of (Put o x v ∷ m) s = settle_of m s
settle_of (Stretch o x ∷ m) s = settle_of m s
settle_of (Settle p c ∷ m) s = if same_stamp p s then or_else (settle_of m s) c else settle_of m s
settle_of (Floor z ∷ m) s = settle_of m s

abbrev pub is_alive : Option Bool → Bool
is_alive None = true
is_alive (Some c) = c

abbrev pub is_settled : Option Bool → Bool
is_settled None = false
is_settled (Some c) = true

abbrev pub is_committed : Option Bool → Bool
is_committed None = false
is_committed (Some c) = c

-- a put with this start isn't dead: its stamp wasn't decided as aborted
abbrev pub alive : List Mark → TimeParts → Bool
alive m x = is_alive (settle_of m x.stamp)

-- ---- versions

-- how many versions the object has, dead or not
unfoldable pub version_count : ObjectId → List Mark → ℕ
version_count o [] = 0
version_count o (f ∷ m) = at_put (λ a x v below. if same_object a o then below + 1 else below) f (version_count o m)

-- a version, with its place: how many versions of its object were put before it
pub record Seen : Type 0 where
  pub place : ℕ
  pub start : TimeParts
  pub value : Value

abbrev pub starts_above : Option Seen → TimeParts → Bool
starts_above None x = false
starts_above (Some q) x = lt x q.start

-- p where it passes and the other doesn't start above it
unfoldable pub pick : Bool → Seen → Option Seen → Option Seen
pick passes p other = if passes && not (starts_above other p.start) then Some p else other

-- of the object's versions whose start passes the test, that with the greatest start; of equal starts the newest
unfoldable pub scan : (TimeParts → Bool) → ObjectId → List Mark → Option Seen
scan ok o [] = None
scan ok o (f ∷ m) =
    at_put (λ a x v below. pick (same_object a o && ok x) (record { place = version_count o m; start = x; value = v }) below) f (scan ok o m)

-- what a read at t sees: the last version below t that isn't dead, or the origin
abbrev pub sees : List Mark → ObjectId → TimeParts → Option Seen
sees m o t = scan (λ x. lt x t && alive m x) o m

-- the last version that isn't dead, or the origin
abbrev pub newest : List Mark → ObjectId → Option Seen
newest m o = scan (λ x. alive m x) o m

-- ---- how far a version was read

abbrev pub place_of : Option Seen → Option ℕ
place_of None = None
place_of (Some q) = Some q.place

abbrev pub same_place : Option ℕ → Option ℕ → Bool
same_place None None = true
same_place (Some p) (Some q) = p == q
same_place None (Some q) = false
same_place (Some p) None = false

-- the later of two times
abbrev pub top : TimeParts → Option TimeParts → Option TimeParts
top x None = Some x
top x (Some y) = if lt x y then Some y else Some x

-- the last Stretch that fell on the version at this place, or on the origin: it falls on what a read at its time saw when it was added
unfoldable pub stretched : List Mark → ObjectId → Option ℕ → Option TimeParts
stretched [] o p = None
stretched (Put a x v ∷ m) o p = stretched m o p
stretched (Settle s c ∷ m) o p = stretched m o p
stretched (Floor z ∷ m) o p = stretched m o p
stretched (Stretch a x ∷ m) o p = if same_object a o && same_place (place_of (sees m o x)) p then top x (stretched m o p) else stretched m o p

-- the greatest Floor
unfoldable pub floor_of : List Mark → Option TimeParts
floor_of [] = None
floor_of (Put o x v ∷ m) = floor_of m
floor_of (Stretch o x ∷ m) = floor_of m
floor_of (Settle s c ∷ m) = floor_of m
floor_of (Floor x ∷ m) = top x (floor_of m)

abbrev pub latest : Option TimeParts → Option TimeParts → Option TimeParts
latest None e = e
latest (Some x) e = top x e

-- how far a version was read, which is at least its start, or the origin
abbrev pub read_to : List Mark → ObjectId → Option Seen → Option TimeParts
read_to m o None = stretched m o None
read_to m o (Some q) = top q.start (stretched m o (Some q.place))

-- the reach of a version, or of the origin: how far it was read, and at least the floor
abbrev pub reach : List Mark → ObjectId → Option Seen → Option TimeParts
reach m o r = latest (floor_of m) (read_to m o r)
