-- The map as of a pseudotime: of each object the last committed version below it. Marks stand newest first.
use Rattle.std.specs.Prelude.{◌≡◌, Bool, true, false, List, Option, Some, None, ◌&&◌, ◌||◌, not}
use Rattle.pseudo_time.specs.TimeParts.{TimeParts}
use Rattle.pseudo_time.specs.Order.{lt}
use Rattle.value_form.specs.declared.objects.ObjectId.{ObjectId}
use Rattle.value_form.specs.declared.values.Value.{Value}
use Rattle.object_history.specs.declared.marks.Mark.{Mark}
use Rattle.object_history.specs.History.{Seen, settle_of, is_settled, is_committed, scan}
use Rattle.object_history.specs.Answers.{some_put}
use Rattle.commit_watch.specs.declared.moved.Moved.{Moved}
use Rattle.commit_watch.specs.declared.faults.WatchFault.{WatchFault}
use Rattle.commit_watch.specs.declared.faults.WatchFault.TheVariants as fault
use Rattle.commit_watch.specs.Lists.{object_lt}

-- the last committed version of the object below t
abbrev pub last_below : List Mark → ObjectId → TimeParts → Option Seen
last_below m o t = scan (λ x. lt x t && is_committed (settle_of m x.stamp)) o m

abbrev pub entry_of : ObjectId → Option Seen → Option (Moved Value)
entry_of o None = None
entry_of o (Some q) = Some (record { object = o; cursor = q.start; total = q.value })

-- an undecided version of the object stands below t, and passes
abbrev pub is_open : List Mark → ObjectId → TimeParts → (TimeParts → Bool) → Bool
is_open m o t ok = some_put (λ x. (lt x t && not (is_settled (settle_of m x.stamp))) && ok x) o m

-- the least object with an undecided version below t, and the first start of one
pub record IsFirstOpen (m : List Mark) (t : TimeParts) (object : ObjectId) (start : TimeParts) : Type 0 where
  pub stands : is_open m object t (λ x. not (lt x start || lt start x)) ≡ true
  pub first : is_open m object t (λ x. lt x start) ≡ false
  pub least : (o : ObjectId) → object_lt o object ≡ true → is_open m o t (λ x. true) ≡ false

-- memory ran out
abbrev pub is_wanting : WatchFault → Bool
is_wanting fault.NoMemory = true
is_wanting (fault.Retired o e) = false
is_wanting (fault.Overflow o x) = false
