-- A past worked by hand: a run of three acts, a retirement at 3.1.1/1, and a run of one act more. The definitions compute what they come to.
use Rattle.archive_law.proofs.Names.{repository, lt, same_stamp, same_time, StampParts, TimeParts, ObjectId, Value, Nothing, Effect, Mark, some_put, floor_of, scan, settle_of, version_count, same_object, insert, listed, value_of, forwarded, Moved, advanced, moved_over, all_firsts, firsts, has_start, last_log, met_after, last_below, first_open, in_plan, Call, log_left, own_reading, Running, Retiring, archive, log_after, volumes_left, ◌≡◌, ℕ, true, List, [], ◌∷◌, ◌++◌, reverse, if◌then◌else◌, refl, ◌∙◌, ap, Some, None, ℤ, pos, Ok, Number, pick, first_among}
use Rattle.pseudo_time.specs.declared.decisions.Decision.TheVariants.{Committed}
use Rattle.effect_form.specs.declared.effects.Effect.TheVariants as effect
use Rattle.object_history.specs.declared.marks.Mark.TheVariants as mark
use Rattle.commit_watch.specs.Rules.{sum_next}

-- the stamp c.1.1, and its first pseudotime
abbrev stamp : ℕ → StampParts
stamp c = record { clock = c; broker = 1; home = 1 }

abbrev first : ℕ → TimeParts
first c = record { stamp = stamp c; step = 1 }

abbrev object : ℕ → ObjectId
object n = record { repository = 1; number = n }

abbrev int : ℕ → Value
int n = Number (pos n)

-- ---- the logs, newest effect first

-- 1.1 becomes 1 and then 2, and 1.2 becomes 5
abbrev three : List Effect
three =
    effect.Decide (stamp 3) Committed ∷ effect.Put (object 2) (first 3) (int 5) ∷ effect.Begin (stamp 3) 8 ∷ effect.Decide (stamp 2) Committed ∷ effect.Put (object 1) (first 2) (int 2) ∷ effect.Begin (stamp 2) 8 ∷
    effect.Decide (stamp 1) Committed ∷ effect.Put (object 1) (first 1) (int 1) ∷ effect.Begin (stamp 1) 8 ∷ []

-- what the retirement leaves of them
abbrev carried_on : List Effect
carried_on =
    effect.Whole ∷ effect.Decide (stamp 3) Committed ∷ effect.Put (object 2) (first 3) (int 5) ∷ effect.Begin (stamp 3) 8 ∷ effect.Decide (stamp 2) Committed ∷ effect.Put (object 1) (first 2) (int 2) ∷ effect.Begin (stamp 2) 8 ∷
    effect.Decide (stamp 1) Committed ∷ effect.Begin (stamp 1) 8 ∷ effect.Mark (first 3) ∷ []

-- then 1.1 becomes 9
abbrev four : List Effect
four = effect.Decide (stamp 4) Committed ∷ effect.Put (object 1) (first 4) (int 9) ∷ effect.Begin (stamp 4) 12 ∷ carried_on

three-forwarded : forwarded three (first 3) ≡ carried_on
unfolding scan pick settle_of version_count same_object same_stamp lt
three-forwarded = refl

-- ---- the volumes

module _ (a b : Call) (inside-a : in_plan a.plan (repository 1) ≡ true) (inside-b : in_plan b.plan (repository 1) ≡ true)
    (left-a : log_left own_reading a (repository 1) ≡ reverse three) (left-b : log_left own_reading b (repository 1) ≡ reverse four) where
  run-left : log_after (Running a ∷ []) (repository 1) ≡ reverse three
  run-left = ap (λ t. if t then log_left own_reading a (repository 1) else []) inside-a ∙ left-a

  -- volume 0 has the first run's log, and volume 1 what was carried forward and the second run's
  two-volumes : volumes_left (Running b ∷ (Retiring 1 (first 3) ∷ (Running a ∷ []))) 1 ≡ reverse three ∷ reverse four ∷ []
  two-volumes = λ i. reverse ((ap (λ log. log ∷ []) run-left) i) ++ last i ∷ []
    where
      last : log_after (Running b ∷ (Retiring 1 (first 3) ∷ (Running a ∷ []))) (repository 1) ≡ reverse four
      last = ap (λ t. if t then log_left own_reading b (repository 1) else log_after (Retiring 1 (first 3) ∷ (Running a ∷ [])) (repository 1)) inside-b ∙ left-b

-- ---- the archive: the version that was given up is there once more, at the end, and the floor isn't

abbrev joined_marks : List Mark
joined_marks =
    mark.Settle (stamp 4) true ∷ mark.Put (object 1) (first 4) (int 9) ∷ mark.Settle (stamp 3) true ∷ mark.Put (object 2) (first 3) (int 5) ∷
    mark.Settle (stamp 2) true ∷ mark.Put (object 1) (first 2) (int 2) ∷ mark.Settle (stamp 1) true ∷ mark.Put (object 1) (first 1) (int 1) ∷ []

archive-worked : archive (reverse three ∷ reverse four ∷ []) ≡ joined_marks
unfolding last_log all_firsts firsts met_after has_start floor_of same_object same_time lt
archive-worked = refl

-- of the last volume alone it lacks that version
alone-worked : archive (reverse four ∷ []) ≡
    mark.Settle (stamp 4) true ∷ mark.Put (object 1) (first 4) (int 9) ∷ mark.Settle (stamp 3) true ∷ mark.Put (object 2) (first 3) (int 5) ∷
    mark.Settle (stamp 2) true ∷ mark.Put (object 1) (first 2) (int 2) ∷ mark.Settle (stamp 1) true ∷ []
unfolding last_log all_firsts firsts met_after has_start floor_of same_object same_time lt
alone-worked = refl

-- ---- the map as of clocks 1, 2, 4 and 5

none-open : first_open joined_marks (first 4) ≡ None
unfolding first_among settle_of same_stamp lt
none-open = refl

as-of-one : value_of (last_below joined_marks (object 1) (first 1)) ≡ Nothing
unfolding scan pick settle_of version_count same_object same_stamp lt
as-of-one = refl

as-of-two : value_of (last_below joined_marks (object 1) (first 2)) ≡ int 1
unfolding scan pick settle_of version_count same_object same_stamp lt
as-of-two = refl

as-of-four : value_of (last_below joined_marks (object 1) (first 4)) ≡ int 2
unfolding scan pick settle_of version_count same_object same_stamp lt
as-of-four = refl

other-four : value_of (last_below joined_marks (object 2) (first 4)) ≡ int 5
unfolding scan pick settle_of version_count same_object same_stamp lt
other-four = refl

as-of-five : value_of (last_below joined_marks (object 1) (first 5)) ≡ int 9
unfolding scan pick settle_of version_count same_object same_stamp lt
as-of-five = refl

-- ---- the sum of 1.1: of all its versions, whether a watch came before the retirement or not

abbrev sum_at : ℕ → ℕ → Moved ℤ
sum_at c n = record { object = object 1; cursor = first c; total = pos n }

sum-at-once : advanced (pos 0) sum_next (object 1) joined_marks None None ≡ Ok (Some (sum_at 4 12))
unfolding moved_over listed insert some_put floor_of settle_of version_count same_object same_stamp lt
sum-at-once = refl

sum-early : advanced (pos 0) sum_next (object 1) (archive (reverse three ∷ [])) None None ≡ Ok (Some (sum_at 2 3))
unfolding last_log all_firsts firsts met_after has_start same_time moved_over listed insert some_put floor_of settle_of version_count same_object same_stamp lt
sum-early = refl

sum-later : advanced (pos 0) sum_next (object 1) joined_marks None (Some (sum_at 2 3)) ≡ Ok (Some (sum_at 4 12))
unfolding moved_over listed insert some_put floor_of settle_of version_count same_object same_stamp lt
sum-later = refl

-- over the last volume alone it would be another
sum-alone : advanced (pos 0) sum_next (object 1) (archive (reverse four ∷ [])) None None ≡ Ok (Some (sum_at 4 11))
unfolding last_log all_firsts firsts met_after has_start same_time moved_over listed insert some_put floor_of settle_of version_count same_object same_stamp lt
sum-alone = refl
