-- Lists of objects that moved: each object once, in rising order.
use Rattle.std.specs.Prelude.{◌≡◌, Bool, true, List, [], ◌∷◌, ◌++◌, Option, Some, None, if◌then◌else◌}
use Rattle.std.specs.Ordering.{is_lt}
use Rattle.std.specs.declared.cmp.Ordering.{Ordering}
use Rattle.std.specs.declared.cmp.Ordering.TheVariants.{Less, Equal, Greater}
use Rattle.pseudo_time.specs.Lists.{Every}
use Rattle.pseudo_time.specs.TimeParts.{TimeParts}
use Rattle.value_form.specs.declared.objects.ObjectId.{ObjectId}
use Rattle.value_form.specs.Objects.{object_cmp}
use Rattle.object_history.specs.Objects.{same_object}
use Rattle.commit_watch.specs.declared.moved.Moved.{Moved}

-- the first comes before the second
abbrev pub object_lt : ObjectId → ObjectId → Bool
object_lt a b = is_lt (object_cmp a b)

-- what the list has of the object
unfoldable pub moved_at : {T : Type 0} → ObjectId → List (Moved T) → Option (Moved T)
moved_at o [] = None
moved_at o (w ∷ ws) = if same_object w.object o then Some w else moved_at o ws

-- each object comes before those behind it
abbrev pub AreRising : {T : Type 0} → List (Moved T) → Type 0
AreRising [] = Unit {0}
AreRising (w ∷ ws) = Every (λ v. object_lt w.object v.object ≡ true) ws × AreRising ws

abbrev pub by_order : {A : Type 0} → Ordering → A → A → A → A
by_order Less a b c = a
by_order Equal a b c = b
by_order Greater a b c = c

-- a rising list with this for its object
unfoldable pub with_moved : {T : Type 0} → Moved T → List (Moved T) → List (Moved T)
with_moved w [] = w ∷ []
with_moved w (v ∷ vs) = by_order (object_cmp w.object v.object) (w ∷ v ∷ vs) (w ∷ vs) (v ∷ with_moved w vs)

-- and with each of these, one after another
unfoldable pub with_all : {T : Type 0} → List (Moved T) → List (Moved T) → List (Moved T)
with_all [] ws = ws
with_all (c ∷ cs) ws = with_all cs (with_moved c ws)

-- how far an object was folded
abbrev pub cursor_of : {T : Type 0} → Option (Moved T) → Option TimeParts
cursor_of None = None
cursor_of (Some w) = Some w.cursor

-- its total, and the first one where it has none yet
abbrev pub total_of : {T : Type 0} → T → Option (Moved T) → T
total_of first None = first
total_of first (Some w) = w.total

-- the last that is there
abbrev pub or_before : {A : Type 0} → Option A → Option A → Option A
or_before None before = before
or_before (Some a) before = Some a

-- with one more at the end, where there is one
abbrev pub with_change : {A : Type 0} → Option A → List A → List A
with_change None cs = cs
with_change (Some c) cs = cs ++ c ∷ []
