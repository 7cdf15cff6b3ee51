-- What a read and a write answer, and what they add to the marks.
use Rattle.std.specs.Prelude.{Bool, true, false, List, [], ◌∷◌, Option, Some, None, ◌&&◌, ◌||◌, not, if◌then◌else◌}
use Rattle.pseudo_time.specs.TimeParts.{TimeParts}
use Rattle.pseudo_time.specs.Order.{same_stamp, same_time, lt}
use Rattle.value_form.specs.declared.objects.ObjectId.{ObjectId}
use Rattle.value_form.specs.declared.values.Value.{Value}
use Rattle.value_form.specs.declared.values.Value.TheVariants.{Nothing}
use Rattle.object_history.specs.declared.marks.Mark.{Mark}
use Rattle.object_history.specs.declared.marks.Mark.TheVariants as mark
use Rattle.object_history.specs.declared.steps.ReadStep.{ReadStep}
use Rattle.object_history.specs.declared.steps.ReadStep.TheVariants as read
use Rattle.object_history.specs.declared.steps.WriteStep.{WriteStep}
use Rattle.object_history.specs.declared.steps.WriteStep.TheVariants as write
use Rattle.object_history.specs.Objects.{same_object, same_value}
use Rattle.object_history.specs.History.{Seen, at_put, settle_of, is_settled, is_committed, alive, sees, newest, floor_of, reach}

-- ---- reads

abbrev pub is_above : TimeParts → Option TimeParts → Bool
is_above t None = true
is_above t (Some e) = lt e t

abbrev pub is_over : Option Seen → TimeParts → Bool
is_over None y = true
is_over (Some q) y = lt q.start y

-- the object has a version whose start passes
unfoldable pub some_put : (TimeParts → Bool) → ObjectId → List Mark → Bool
some_put ok o [] = false
some_put ok o (f ∷ m) = at_put (λ a x v below. (same_object a o && ok x) || below) f (some_put ok o m)

-- a committed version starts above what is seen
abbrev pub settled_over : List Mark → ObjectId → Option Seen → Bool
settled_over m o r = some_put (λ y. is_committed (settle_of m y.stamp) && is_over r y) o m

-- the read has to stretch what it sees: else a write below it could still come between
abbrev pub needs_stretch : List Mark → ObjectId → TimeParts → Option Seen → Bool
needs_stretch m o t r = is_above t (reach m o r) && not (settled_over m o r)

-- an undecided version of another attempt is waited for
abbrev pub read_seen : List Mark → ObjectId → TimeParts → Option Seen → ReadStep
read_seen m o t None = read.Answer Nothing (needs_stretch m o t None)
read_seen m o t (Some q) =
    if same_stamp q.start.stamp t.stamp || is_settled (settle_of m q.start.stamp)
    then read.Answer q.value (needs_stretch m o t (Some q)) else read.Wait q.start.stamp

-- the same, over this floor
abbrev pub read_from : Option TimeParts → List Mark → ObjectId → TimeParts → ReadStep
read_from None m o t = read_seen m o t (sees m o t)
read_from (Some e) m o t = if lt t e then read.LaterRead e else read_seen m o t (sees m o t)

-- what a read at t answers: below the floor it is refused
abbrev pub read_step : List Mark → ObjectId → TimeParts → ReadStep
read_step m o t = read_from (floor_of m) m o t

-- the marks after a read that is answered so
abbrev pub after_read : List Mark → ObjectId → TimeParts → ReadStep → List Mark
after_read m o t (read.Answer v stretch) = if stretch then mark.Stretch o t ∷ m else m
after_read m o t (read.Wait s) = m
after_read m o t (read.LaterRead e) = m

-- ---- writes

unfoldable pub has_put : ObjectId → TimeParts → Value → List Mark → Bool
has_put o t v [] = false
has_put o t v (f ∷ m) = at_put (λ a x w below. (same_object a o && (same_time x t && same_value w v)) || below) f (has_put o t v m)

-- a version that isn't dead has this start and value
abbrev pub stands_written : List Mark → ObjectId → TimeParts → Value → Bool
stands_written m o t v = alive m t && has_put o t v m

abbrev pub write_reach : TimeParts → Option TimeParts → WriteStep
write_reach t None = write.Put
write_reach t (Some e) = if lt t e then write.LaterRead e else write.Put

abbrev pub write_newest : TimeParts → Option Seen → Option TimeParts → WriteStep
write_newest t None e = write_reach t e
write_newest t (Some q) e = if lt q.start t then write_reach t e else write.LaterVersion q.start

-- what a write at t answers: it stands already; or a version isn't below it; or the newest was read beyond it; or it is put
abbrev pub write_step : List Mark → ObjectId → TimeParts → Value → WriteStep
write_step m o t v = if stands_written m o t v then write.Again else write_newest t (newest m o) (reach m o (newest m o))

-- the marks after a write that is answered so
abbrev pub after_write : List Mark → ObjectId → TimeParts → Value → WriteStep → List Mark
after_write m o t v write.Put = mark.Put o t v ∷ m
after_write m o t v write.Again = m
after_write m o t v (write.LaterVersion x) = m
after_write m o t v (write.LaterRead e) = m
