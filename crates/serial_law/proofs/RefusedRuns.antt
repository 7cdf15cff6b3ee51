-- What Serial refuses: the run over two repositories with one thing wrong, and a plan without the object's repository.
use Rattle.serial_law.proofs.Names.{same_stamp, stamp_lt, lt, Line, Value, Nothing, value_at, Effect, Outcome, Answer, Got, Stored, book, knows, Try, RunLogs, Version, has_commit, committed, put_in, puts_of, puts_to, find, stamp_in, stamp_if, put_stamps, log_stamps, try_stamps, all_deeds, before, lines_written, Serial, ◌≡◌, Bool, true, false, List, [], ◌∷◌, refl, sym, ◌∙◌, ap, Option, Some, None, inl, inr, false≢true, true≢false}
use Rattle.value_form.specs.declared.transcripts.Line.TheVariants as line
use Rattle.effect_form.specs.declared.effects.Effect.TheVariants as effect
use Rattle.effect_form.specs.declared.outcomes.Outcome.TheVariants as outcome
use Rattle.serial_law.proofs.Attempts.{booked_tries}
use Rattle.serial_law.proofs.WorkedRuns.{booked_of, stamp, time, object, int, plan, one, elsewhere_script, elsewhere_home, elsewhere_other, elsewhere_broker, at_one, at_two, pick_log, value-one}

abbrev elsewhere_with : List Effect → List Effect → List Try → RunLogs
elsewhere_with home other tries = record { repositories = 2; logs = λ n. pick_log n.kind n.number (at_two home other) (at_one elsewhere_broker); tries = tries }

abbrev writer : List Answer → Option Outcome → Try
writer ans end = record { stamp = stamp 1 1 1; script = elsewhere_script (1 ∷ []); answers = ans; ended = end }

abbrev reader : List Answer → Option Outcome → Try
reader ans end = record { stamp = stamp 2 1 1; script = elsewhere_script (2 ∷ []); answers = ans; ended = end }

-- an open try that read nothing where its map has 4
abbrev read_nothing : RunLogs
read_nothing = elsewhere_with elsewhere_home elsewhere_other (reader (Got Nothing ∷ []) None ∷ writer (Stored ∷ []) (Some outcome.Committed) ∷ [])

read_value : List Line → Value
read_value (line.Read o v ∷ ls) = v
read_value _ = int 0

read_nothing-before : before read_nothing (stamp 2 1 1) ≡ one (object 2 1) (int 4)
unfolding before all_deeds log_stamps put_stamps try_stamps stamp_if stamp_in committed has_commit knows find puts_to puts_of put_in same_stamp stamp_lt lt
read_nothing-before = refl

no-read_nothing : Serial read_nothing → ⊥
unfolding read_value
no-read_nothing s =
    let p = (s (reader (Got Nothing ∷ []) None) (inl refl)).front in
    let e : value_at (before read_nothing (stamp 2 1 1)) (object 2 1) ≡ Nothing = sym (ap (λ ls. read_value ls) p.1) in
    let k : int 4 ≡ Nothing = sym (value-one (object 2 1) (int 4)) ∙ ap (λ m. value_at m (object 2 1)) (sym read_nothing-before) ∙ e in absurd (cc k)

-- a committed try with an answer missing
abbrev answer_missing : RunLogs
answer_missing = elsewhere_with elsewhere_home elsewhere_other (reader [] None ∷ writer (Stored ∷ []) (Some outcome.Committed) ∷ [])

no-answer_missing : Serial answer_missing → ⊥
unfolding committed has_commit knows same_stamp
no-answer_missing s = let w = (s (reader [] None) (inl refl)).finished refl in let o = w.over in cc o

-- an End Committed of a stamp that no log commits, and another End of one that is committed
abbrev committed_by_no_log : RunLogs
committed_by_no_log = elsewhere_with [] elsewhere_other (writer (Stored ∷ []) (Some outcome.Committed) ∷ [])

no-committed_by_no_log : Serial committed_by_no_log → ⊥
unfolding committed has_commit knows same_stamp
no-committed_by_no_log s = false≢true ((s (writer (Stored ∷ []) (Some outcome.Committed)) (inl refl)).sure refl)

abbrev expired_though_committed : RunLogs
expired_though_committed = elsewhere_with elsewhere_home elsewhere_other (writer (Stored ∷ []) (Some (outcome.Expired 5 6)) ∷ [])

no-expired_though_committed : Serial expired_though_committed → ⊥
unfolding committed has_commit knows same_stamp
no-expired_though_committed s = true≢false ((s (writer (Stored ∷ []) (Some (outcome.Expired 5 6))) (inl refl)).other (outcome.Expired 5 6) refl (λ e. cc e))

-- a put is missing, or stands twice
is_none : List Version → Bool
is_none [] = true
is_none (v ∷ vs) = false

is_one : List Version → Bool
is_one [] = false
is_one (v ∷ []) = true
is_one (v ∷ w ∷ vs) = false

abbrev put_missing : RunLogs
put_missing = elsewhere_with elsewhere_home [] (writer (Stored ∷ []) (Some outcome.Committed) ∷ [])

no-put_missing : Serial put_missing → ⊥
unfolding is_none committed has_commit knows same_stamp puts_to puts_of put_in lt lines_written
no-put_missing s = true≢false (ap (λ vs. is_none vs) ((s (writer (Stored ∷ []) (Some outcome.Committed)) (inl refl)).puts refl))

abbrev put_twice : RunLogs
put_twice =
    elsewhere_with elsewhere_home (effect.Put (object 2 1) (time (stamp 1 1 1) 1) (int 4) ∷ effect.Put (object 2 1) (time (stamp 1 1 1) 1) (int 4) ∷ [])
    (writer (Stored ∷ []) (Some outcome.Committed) ∷ [])

no-put_twice : Serial put_twice → ⊥
unfolding is_one committed has_commit knows same_stamp puts_to puts_of put_in lt lines_written
no-put_twice s = false≢true (ap (λ vs. is_one vs) ((s (writer (Stored ∷ []) (Some outcome.Committed)) (inl refl)).puts refl))

-- those logs under the same plan with one repository: the write's object isn't of the run
abbrev outside_plan : RunLogs
outside_plan = booked_of elsewhere_script (plan 1 1 1) (λ n. pick_log n.kind n.number (at_two elsewhere_home elsewhere_other) (at_one elsewhere_broker))

no-outside_plan : Serial outside_plan → ⊥
unfolding is_none committed has_commit knows same_stamp puts_to puts_of put_in lt lines_written booked_tries book
no-outside_plan s = true≢false (ap (λ vs. is_none vs) ((s (writer (Stored ∷ []) (Some outcome.Committed)) (inr (inl refl))).puts refl))
