-- Three acts, a retirement, and a run after it, worked by hand: the definitions compute what they come to. Logs stand newest first.
use Rattle.std.specs.FinMap as finite
use Rattle.serial_law.proofs.Names.{same_stamp, stamp_lt, lt, NodeId, NodeKind, Repository, Broker, Objects, value_at, Effect, pick, scan, settle_of, version_count, same_object, value_of, has_start, knows, Got, Stored, Tree, Ends, Reads, Writes, talked, talked_alone, book, Try, RunLogs, Version, has_commit, committed, put_in, puts_of, puts_to, find, stamp_in, stamp_if, put_stamps, log_stamps, try_stamps, all_deeds, before, finals, lines_written, marks_at, last_put, PutsStand, whole_log, whole_run, with_puts, wrote, ◌≡◌, ℕ, List, [], ◌∷◌, refl, sym, ◌∙◌, ap, Some, inl, inr, ◌==◌, if◌then◌else◌, same_time, floor_of, forwarded}
use Rattle.pseudo_time.specs.declared.decisions.Decision.TheVariants as decision
use Rattle.value_form.specs.declared.endings.Ending.TheVariants as ending
use Rattle.effect_form.specs.declared.effects.Effect.TheVariants as effect
use Rattle.effect_form.specs.declared.outcomes.Outcome.TheVariants as outcome
use Rattle.value_form.specs.declared.transcripts.Line.TheVariants as line
use Rattle.serial_law.proofs.Own.{value-insert}
use Rattle.serial_law.proofs.Attempts.{booked_tries}
use Rattle.serial_law.proofs.WorkedRuns.{act, at_one, at_two, booked_of, int, object, one, pick_log, plan, stamp, time}

-- 1.1 becomes 1 and then 2, and 1.2 becomes 5; a reader of 1.1
abbrev scripts : List ℕ → Tree
scripts [] = Ends ending.Finished
scripts (t ∷ ts) = if t == 1 then Writes (object 1 1) (int 1) (Ends ending.Finished) else (if t == 2 then Writes (object 1 1) (int 2) (Ends ending.Finished)
    else (if t == 3 then Writes (object 1 2) (int 5) (Ends ending.Finished) else Reads (object 1 1) (λ x. Ends ending.Finished)))

abbrev three : List Effect
three =
    effect.Decide (stamp 3 1 1) decision.Committed ∷ effect.Put (object 1 2) (time (stamp 3 1 1) 1) (int 5) ∷ effect.Begin (stamp 3 1 1) 8 ∷
    effect.Decide (stamp 2 1 1) decision.Committed ∷ effect.Put (object 1 1) (time (stamp 2 1 1) 1) (int 2) ∷ effect.Begin (stamp 2 1 1) 8 ∷
    effect.Decide (stamp 1 1 1) decision.Committed ∷ effect.Put (object 1 1) (time (stamp 1 1 1) 1) (int 1) ∷ effect.Begin (stamp 1 1 1) 8 ∷ []

-- what the retirement at 3.1.1/1 leaves of their log
abbrev retired : List Effect
retired = forwarded three (time (stamp 3 1 1) 1)

-- a read below the floor is refused and changes nothing; the next one, above it, sees what was kept
abbrev standing : List Effect
standing =
    effect.Decide (stamp 4 2 1) decision.Committed ∷ effect.Stretch (object 1 1) (time (stamp 4 2 1) 1) ∷ effect.Begin (stamp 4 2 1) 12 ∷
    effect.Decide (stamp 1 2 1) decision.Withdrawn ∷ effect.Begin (stamp 1 2 1) 9 ∷ retired

abbrev writers : List Effect
writers =
    effect.End 3 outcome.Committed ∷ effect.Acked 1 ∷ effect.Try 3 (stamp 3 1 1) ∷ act 3 3 ∷ effect.End 2 outcome.Committed ∷ effect.Acked 1 ∷ effect.Try 2 (stamp 2 1 1) ∷ act 2 2 ∷
    effect.End 1 outcome.Committed ∷ effect.Acked 1 ∷ effect.Try 1 (stamp 1 1 1) ∷ act 1 1 ∷ effect.Run 1 ∷ []

abbrev reader : List Effect
reader =
    effect.End 1 outcome.Committed ∷ effect.Got 1 (int 2) ∷ effect.Try 1 (stamp 4 2 1) ∷ effect.End 1 (outcome.LaterRead (object 1 1) (time (stamp 3 1 1) 1)) ∷
    effect.Try 1 (stamp 1 2 1) ∷ act 1 4 ∷ effect.Run 2 ∷ []

-- the log of the three acts is the only one that was replaced
abbrev by_kind : NodeKind → List (List Effect)
by_kind Repository = three ∷ []
by_kind Broker = []

abbrev replaced : NodeId → List (List Effect)
replaced n = by_kind n.kind

-- ---- the run after the retirement

abbrev later_run : RunLogs
later_run = booked_of scripts (plan 2 1 2) (λ n. pick_log n.kind n.number (at_one standing) (at_two writers reader))

abbrev later_whole : RunLogs
later_whole = whole_run replaced later_run

later-tries : later_run.tries ≡
    record { stamp = stamp 4 2 1; script = scripts (4 ∷ []); answers = Got (int 2) ∷ []; ended = Some outcome.Committed } ∷
    record { stamp = stamp 1 2 1; script = scripts (4 ∷ []); answers = []; ended = Some (outcome.LaterRead (object 1 1) (time (stamp 3 1 1) 1)) } ∷ []
unfolding booked_tries book
later-tries = refl

-- the version that was given up is there once more, and once
pub whole-worked : whole_log (three ∷ []) standing ≡ effect.Put (object 1 1) (time (stamp 1 1 1) 1) (int 1) ∷ standing
unfolding with_puts has_start same_object same_time scan pick settle_of version_count same_stamp lt
whole-worked = refl

-- so the first attempt's map has it, and that of the second the later ones
first-before : before later_whole (stamp 1 2 1) ≡ one (object 1 1) (int 1)
unfolding with_puts has_start same_object same_time scan pick settle_of version_count before all_deeds log_stamps put_stamps try_stamps stamp_if stamp_in committed has_commit knows booked_tries find puts_to puts_of put_in book same_stamp stamp_lt lt
first-before = refl

abbrev second_map : Objects
second_map = finite.insert (finite.insert (one (object 1 1) (int 1)) (object 1 1) (int 2)) (object 1 2) (int 5)

second-before : before later_whole (stamp 4 2 1) ≡ second_map
unfolding with_puts has_start same_object same_time scan pick settle_of version_count before all_deeds log_stamps put_stamps try_stamps stamp_if stamp_in committed has_commit knows booked_tries find puts_to puts_of put_in book same_stamp stamp_lt lt
second-before = refl

second-value : value_at second_map (object 1 1) ≡ int 2
unfolding same_object
second-value = value-insert (finite.insert (one (object 1 1) (int 1)) (object 1 1) (int 2)) (object 1 2) (object 1 1) (int 5) ∙ value-insert (one (object 1 1) (int 1)) (object 1 1) (object 1 1) (int 2)

-- over that map the script alone reads what the second attempt was answered
second-reader : (talked_alone (scripts (4 ∷ [])) second_map).lines ≡ (talked (scripts (4 ∷ [])) (Got (int 2) ∷ [])).lines
second-reader = ap (λ x. line.Read (object 1 1) x ∷ []) second-value

-- and all committed deeds leave that map too
whole-finals : finals later_whole ≡ second_map
unfolding with_puts has_start same_object same_time scan pick settle_of version_count finals all_deeds log_stamps put_stamps try_stamps stamp_if stamp_in committed has_commit knows booked_tries find puts_to puts_of put_in book same_stamp stamp_lt lt
whole-finals = refl

-- the logs as they stand lack it, and would begin the first attempt over nothing
standing-before : before later_run (stamp 1 2 1) ≡ finite.empty
unfolding scan pick settle_of version_count same_object before all_deeds log_stamps put_stamps try_stamps stamp_if stamp_in committed has_commit knows booked_tries find puts_to puts_of put_in book same_stamp stamp_lt lt
standing-before = refl

-- but of what objects hold they tell all
first-final : value_of (last_put later_run (object 1 1)) ≡ int 2
unfolding scan pick settle_of version_count same_object committed has_commit knows same_stamp lt
first-final = refl

second-final : value_of (last_put later_run (object 1 2)) ≡ int 5
unfolding scan pick settle_of version_count same_object committed has_commit knows same_stamp lt
second-final = refl

-- ---- the three acts, told by the logs as they stand

abbrev early_run : RunLogs
early_run = booked_of scripts (plan 1 1 1) (λ n. pick_log n.kind n.number (at_one retired) (at_one writers))

abbrev wrote_one : Try
wrote_one = record { stamp = stamp 1 1 1; script = scripts (1 ∷ []); answers = Stored ∷ []; ended = Some outcome.Committed }

abbrev version_one : Version
version_one = record { object = object 1 1; start = time (stamp 1 1 1) 1; value = int 1 }

one-line : wrote wrote_one ≡ version_one ∷ []
unfolding lines_written
one-line = refl

-- its put doesn't stand: the floor is 3.1.1/1, and the second act's put lies between
pub one-stands : PutsStand early_run wrote_one
unfolding lines_written marks_at puts_to puts_of put_in floor_of scan pick settle_of version_count same_object same_stamp lt
one-stands = record { lines = tt; puts = (inr (time (stamp 3 1 1) 1, refl, refl, inr (inl (refl, (refl, refl, refl)))), tt) }

-- ---- what is refused

-- a log without the put and without a floor
abbrev unfloored : RunLogs
unfloored = booked_of scripts (plan 1 1 1) (λ n. pick_log n.kind n.number (at_one (effect.Decide (stamp 1 1 1) decision.Committed ∷ effect.Begin (stamp 1 1 1) 8 ∷ [])) (at_one writers))

not-unfloored : PutsStand unfloored wrote_one → ⊥
unfolding lines_written marks_at puts_to puts_of put_in floor_of settle_of same_stamp lt
not-unfloored s = elim s.puts.0 [ inl h ↦ h | inr g ↦ absurd (cc g.1) ]

-- a put that is no line of the attempt
abbrev other_put : RunLogs
other_put = booked_of scripts (plan 1 1 1)
    (λ n. pick_log n.kind n.number (at_one (effect.Decide (stamp 1 1 1) decision.Committed ∷ effect.Put (object 1 1) (time (stamp 1 1 1) 1) (int 7) ∷ effect.Begin (stamp 1 1 1) 8 ∷ [])) (at_one writers))

not-other-put : PutsStand other_put wrote_one → ⊥
unfolding lines_written puts_to puts_of put_in same_stamp lt
not-other-put s = elim s.lines.0 [ inl e ↦ (let k : int 1 ≡ int 7 = ap (λ (v : Version). v.value) e in absurd (cc k)) | inr h ↦ h ]

-- finals by the older log alone, where the run after the retirement wrote on
abbrev wrote_on : List Effect
wrote_on = effect.Decide (stamp 4 2 1) decision.Committed ∷ effect.Put (object 1 1) (time (stamp 4 2 1) 1) (int 9) ∷ effect.Begin (stamp 4 2 1) 12 ∷ retired

abbrev on_run : RunLogs
on_run = booked_of scripts (plan 2 1 2) (λ n. pick_log n.kind n.number (at_one wrote_on) (at_two writers []))

abbrev older_run : RunLogs
older_run = booked_of scripts (plan 2 1 2) (λ n. pick_log n.kind n.number (at_one three) (at_two writers []))

on-finals : value_of (last_put on_run (object 1 1)) ≡ int 9
unfolding scan pick settle_of version_count same_object committed has_commit knows same_stamp lt
on-finals = refl

older-finals : value_of (last_put older_run (object 1 1)) ≡ int 2
unfolding scan pick settle_of version_count same_object committed has_commit knows same_stamp lt
older-finals = refl

pub not-older-finals : value_of (last_put older_run (object 1 1)) ≡ value_of (last_put on_run (object 1 1)) → ⊥
not-older-finals e = let k : int 2 ≡ int 9 = sym older-finals ∙ e ∙ on-finals in absurd (cc k)
