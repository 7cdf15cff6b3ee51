-- Runs worked by hand: the definitions compute what they come to. Logs stand newest first.
use Rattle.serial_law.proofs.Names.{same_object-of, StampParts, TimeParts, NodeKind, Repository, Broker, same_stamp, stamp_lt, lt, ObjectId, Line, Value, Nothing, Objects, object_cmp, value_at, Effect, Got, Stored, ToRead, Asks, Over, Tree, Ends, Says, Reads, Writes, talked, talked_alone, left_by, NodeId, Plan, book, knows, Try, RunLogs, some_of, has_commit, has_learned, committed, put_in, puts_of, puts_to, written, find, stamp_in, stamp_if, put_stamps, log_stamps, try_stamps, all_deeds, before, finals, lines_written, ◌≡◌, ℕ, true, false, List, [], ◌∷◌, refl, ◌∙◌, ap, Some, ◌==◌, if◌then◌else◌, pos, unwrap_or, Number}
use Rattle.serial_law.proofs.Own.{value-insert}
use Rattle.std.specs.FinMap as finite
use Rattle.pseudo_time.specs.declared.decisions.Decision.TheVariants as decision
use Rattle.value_form.specs.declared.endings.Ending.TheVariants as ending
use Rattle.value_form.specs.declared.transcripts.Line.TheVariants as line
use Rattle.effect_form.specs.declared.effects.Effect.TheVariants as effect
use Rattle.effect_form.specs.declared.outcomes.Outcome.TheVariants as outcome
use Rattle.serial_law.proofs.Attempts.{booked_tries}

abbrev pub plan : ℕ → ℕ → ℕ → Plan
plan run repositories brokers = record { run = run; repositories = repositories; brokers = brokers; acts = [] }

-- the map of one object
abbrev pub one : ObjectId → Value → Objects
one o v = finite.insert finite.empty o v

pub value-one : (o : ObjectId) (v : Value) → value_at (one o v) o ≡ v
value-one o v = value-insert finite.empty o o v ∙ ap (λ b. if b then v else value_at finite.empty o) (same_object-of o o refl)

value-none : (o : ObjectId) → value_at finite.empty o ≡ Nothing
value-none o = ap (λ r. unwrap_or r Nothing) (finite.get-empty object_cmp o)

abbrev pub stamp : ℕ → ℕ → ℕ → StampParts
stamp c b h = record { clock = c; broker = b; home = h }

abbrev pub time : StampParts → ℕ → TimeParts
time s n = record { stamp = s; step = n }

abbrev pub object : ℕ → ℕ → ObjectId
object r n = record { repository = r; number = n }

abbrev pub int : ℕ → Value
int n = Number (pos n)

-- logs by kind and number
abbrev pub pick_log : NodeKind → ℕ → (ℕ → List Effect) → (ℕ → List Effect) → List Effect
pick_log Repository n repos broks = repos n
pick_log Broker n repos broks = broks n

abbrev pub at_one : List Effect → ℕ → List Effect
at_one a n = if n == 1 then a else []

abbrev pub at_two : List Effect → List Effect → ℕ → List Effect
at_two a b n = if n == 1 then a else (if n == 2 then b else [])

abbrev pub act : ℕ → ℕ → Effect
act i text = effect.Act i 1 5 3 0 (text ∷ [])

-- the run of these logs, of which all counts
abbrev pub booked_of : (List ℕ → Tree) → Plan → (NodeId → List Effect) → RunLogs
booked_of script p logs = record { repositories = p.repositories; logs = logs; tries = booked_tries script p.run logs p.brokers }

-- one attempt writes and reads
abbrev pub alone_script : Tree
alone_script = Writes (object 1 7) (int 10) (Reads (object 1 7) (λ x. Says x (Ends ending.Finished)))

abbrev pub alone_repository : List Effect
alone_repository =
    effect.Decide (stamp 1 1 1) decision.Committed ∷ effect.Stretch (object 1 7) (time (stamp 1 1 1) 2) ∷
    effect.Put (object 1 7) (time (stamp 1 1 1) 1) (int 10) ∷ effect.Begin (stamp 1 1 1) 5 ∷ []

abbrev pub alone_broker : List Effect
alone_broker = effect.End 1 outcome.Committed ∷ effect.Got 2 (int 10) ∷ effect.Acked 1 ∷ effect.Try 1 (stamp 1 1 1) ∷ act 1 1 ∷ effect.Run 1 ∷ []

abbrev pub alone_run : RunLogs
alone_run = booked_of (λ text. alone_script) (plan 1 1 1) (λ n. pick_log n.kind n.number (at_one alone_repository) (at_one alone_broker))

abbrev pub alone_try : Try
alone_try = record { stamp = stamp 1 1 1; script = alone_script; answers = Stored ∷ Got (int 10) ∷ []; ended = Some outcome.Committed }

abbrev pub alone_lines : List Line
alone_lines = line.Wrote (object 1 7) (int 10) ∷ line.Read (object 1 7) (int 10) ∷ line.Print (int 10) ∷ []

alone-tries : booked_tries (λ text. alone_script) 1 (λ n. pick_log n.kind n.number (at_one alone_repository) (at_one alone_broker)) 1 ≡ alone_try ∷ []
unfolding booked_tries book
alone-tries = refl

alone-talked : talked alone_script (Stored ∷ Got (int 10) ∷ []) ≡ record { lines = alone_lines; stop = Over ending.Finished }
alone-talked = refl

-- with one answer the talked stops at the read
alone-open : talked alone_script (Stored ∷ []) ≡ record { lines = line.Wrote (object 1 7) (int 10) ∷ []; stop = Asks (ToRead (object 1 7)) }
alone-open = refl

alone-alone : talked_alone alone_script finite.empty ≡ record { lines = alone_lines; stop = Over ending.Finished }
alone-alone = ap (λ x. record { lines = line.Wrote (object 1 7) (int 10) ∷ line.Read (object 1 7) x ∷ line.Print x ∷ []; stop = Over ending.Finished }) (value-one (object 1 7) (int 10))

alone-left : left_by alone_script finite.empty ≡ one (object 1 7) (int 10)
alone-left = refl

alone-committed : committed alone_run (stamp 1 1 1) ≡ true
unfolding committed has_commit knows same_stamp
alone-committed = refl

alone-before : before alone_run (stamp 1 1 1) ≡ finite.empty
unfolding before all_deeds log_stamps put_stamps try_stamps stamp_if stamp_in committed has_commit knows booked_tries find puts_to puts_of put_in book same_stamp stamp_lt lt
alone-before = refl

alone-finals : finals alone_run ≡ one (object 1 7) (int 10)
unfolding finals all_deeds log_stamps put_stamps try_stamps stamp_if stamp_in committed has_commit knows booked_tries find puts_to puts_of put_in book same_stamp stamp_lt lt
alone-finals = refl

alone-puts : written alone_run (stamp 1 1 1) ≡ lines_written (stamp 1 1 1) 1 alone_lines
unfolding puts_to puts_of put_in lines_written same_stamp lt
alone-puts = refl

-- these media under a plan with no acts: the put is a given write
abbrev pub given_run : RunLogs
given_run = booked_of (λ text. alone_script) (plan 2 1 1) (λ n. pick_log n.kind n.number (at_one alone_repository) (at_one alone_broker))

alone-given : finals given_run ≡ one (object 1 7) (int 10)
unfolding finals all_deeds log_stamps put_stamps try_stamps stamp_if stamp_in committed has_commit knows booked_tries find puts_to puts_of put_in book same_stamp stamp_lt lt
alone-given = refl

-- a refused write, tried again after the reader
abbrev pub retried_script : List ℕ → Tree
retried_script [] = Ends ending.Finished
retried_script (t ∷ ts) = if t == 1 then Writes (object 1 1) (int 5) (Ends ending.Finished) else Reads (object 1 1) (λ x. Ends ending.Finished)

abbrev pub retried_repository : List Effect
retried_repository =
    effect.Decide (stamp 2 1 1) decision.Committed ∷ effect.Put (object 1 1) (time (stamp 2 1 1) 1) (int 5) ∷ effect.Begin (stamp 2 1 1) 6 ∷
    effect.Decide (stamp 1 1 1) decision.Withdrawn ∷ effect.Decide (stamp 1 2 1) decision.Committed ∷
    effect.Stretch (object 1 1) (time (stamp 1 2 1) 1) ∷ effect.Begin (stamp 1 2 1) 5 ∷ effect.Begin (stamp 1 1 1) 5 ∷ []

abbrev pub retried_writer : List Effect
retried_writer =
    effect.End 1 outcome.Committed ∷ effect.Acked 1 ∷ effect.Try 1 (stamp 2 1 1) ∷ effect.End 1 (outcome.LaterRead (object 1 1) (time (stamp 1 2 1) 1)) ∷
    effect.Try 1 (stamp 1 1 1) ∷ act 1 1 ∷ effect.Run 1 ∷ []

abbrev pub retried_reader : List Effect
retried_reader = effect.End 2 outcome.Committed ∷ effect.Got 1 Nothing ∷ effect.Try 2 (stamp 1 2 1) ∷ act 2 2 ∷ effect.Run 1 ∷ []

abbrev pub retried_run : RunLogs
retried_run = booked_of retried_script (plan 1 1 2) (λ n. pick_log n.kind n.number (at_one retried_repository) (at_two retried_writer retried_reader))

retried-tries : retried_run.tries ≡
    record { stamp = stamp 2 1 1; script = retried_script (1 ∷ []); answers = Stored ∷ []; ended = Some outcome.Committed } ∷
    record { stamp = stamp 1 1 1; script = retried_script (1 ∷ []); answers = []; ended = Some (outcome.LaterRead (object 1 1) (time (stamp 1 2 1) 1)) } ∷
    record { stamp = stamp 1 2 1; script = retried_script (2 ∷ []); answers = Got Nothing ∷ []; ended = Some outcome.Committed } ∷ []
unfolding booked_tries book
retried-tries = refl

retried-refused : committed retried_run (stamp 1 1 1) ≡ false
unfolding committed has_commit knows same_stamp
retried-refused = refl

-- the reader's map is empty, though the object has a committed put later
retried-before : before retried_run (stamp 1 2 1) ≡ finite.empty
unfolding before all_deeds log_stamps put_stamps try_stamps stamp_if stamp_in committed has_commit knows booked_tries find puts_to puts_of put_in book same_stamp stamp_lt lt
retried-before = refl

retried-reader : talked_alone (retried_script (2 ∷ [])) finite.empty ≡ record { lines = line.Read (object 1 1) Nothing ∷ []; stop = Over ending.Finished }
retried-reader = ap (λ x. record { lines = line.Read (object 1 1) x ∷ []; stop = Over ending.Finished }) (value-none (object 1 1))

retried-finals : finals retried_run ≡ one (object 1 1) (int 5)
unfolding finals all_deeds log_stamps put_stamps try_stamps stamp_if stamp_in committed has_commit knows booked_tries find puts_to puts_of put_in book same_stamp stamp_lt lt
retried-finals = refl

-- a write at another repository than the home; the second try reads it
abbrev pub elsewhere_script : List ℕ → Tree
elsewhere_script [] = Ends ending.Finished
elsewhere_script (t ∷ ts) = if t == 1 then Writes (object 2 1) (int 4) (Ends ending.Finished) else Reads (object 2 1) (λ x. Ends ending.Finished)

abbrev pub elsewhere_home : List Effect
elsewhere_home =
    effect.Decide (stamp 2 1 1) decision.Committed ∷ effect.Begin (stamp 2 1 1) 5 ∷ effect.Decide (stamp 1 1 1) decision.Committed ∷
    effect.Begin (stamp 1 1 1) 5 ∷ []

abbrev pub elsewhere_other : List Effect
elsewhere_other = effect.Stretch (object 2 1) (time (stamp 2 1 1) 1) ∷ effect.Learn (stamp 1 1 1) true ∷ effect.Put (object 2 1) (time (stamp 1 1 1) 1) (int 4) ∷ []

abbrev pub elsewhere_broker : List Effect
elsewhere_broker =
    effect.End 2 outcome.Committed ∷ effect.Got 1 (int 4) ∷ effect.Try 2 (stamp 2 1 1) ∷ act 2 2 ∷
    effect.End 1 outcome.Committed ∷ effect.Acked 1 ∷ effect.Try 1 (stamp 1 1 1) ∷ act 1 1 ∷ effect.Run 1 ∷ []

abbrev pub elsewhere_run : RunLogs
elsewhere_run = booked_of elsewhere_script (plan 1 2 1) (λ n. pick_log n.kind n.number (at_two elsewhere_home elsewhere_other) (at_one elsewhere_broker))

elsewhere-before : before elsewhere_run (stamp 2 1 1) ≡ one (object 2 1) (int 4)
unfolding before all_deeds log_stamps put_stamps try_stamps stamp_if stamp_in committed has_commit knows booked_tries find puts_to puts_of put_in book same_stamp stamp_lt lt
elsewhere-before = refl

elsewhere-reader : (talked_alone (elsewhere_script (2 ∷ [])) (one (object 2 1) (int 4))).lines ≡ (talked (elsewhere_script (2 ∷ [])) (Got (int 4) ∷ [])).lines
elsewhere-reader = ap (λ x. line.Read (object 2 1) x ∷ []) (value-one (object 2 1) (int 4))

elsewhere-finals : finals elsewhere_run ≡ one (object 2 1) (int 4)
unfolding finals all_deeds log_stamps put_stamps try_stamps stamp_if stamp_in committed has_commit knows booked_tries find puts_to puts_of put_in book same_stamp stamp_lt lt
elsewhere-finals = refl

-- repository 2 alone, its stamps' home outside the run: committed as learned there
abbrev pub part_run : RunLogs
part_run = record { repositories = 1; logs = λ n. pick_log n.kind n.number (at_one (effect.Learn (stamp 1 1 2) true ∷ effect.Put (object 1 1) (time (stamp 1 1 2) 1) (int 4) ∷ [])) (at_one []); tries = [] }

elsewhere-part : finals part_run ≡ one (object 1 1) (int 4)
unfolding finals all_deeds log_stamps put_stamps try_stamps stamp_if stamp_in committed has_commit knows some_of has_learned find puts_to puts_of put_in same_stamp stamp_lt lt
elsewhere-part = refl

-- a withdrawn try leaves nothing
abbrev pub withdrawn_script : List ℕ → Tree
withdrawn_script [] = Ends ending.Finished
withdrawn_script (t ∷ ts) = if t == 1 then Writes (object 2 1) (int 7) (Ends (ending.Withdrawn 2)) else Reads (object 2 1) (λ x. Ends ending.Finished)

abbrev pub withdrawn_home : List Effect
withdrawn_home =
    effect.Decide (stamp 2 1 1) decision.Committed ∷ effect.Begin (stamp 2 1 1) 5 ∷ effect.Decide (stamp 1 1 1) decision.Withdrawn ∷
    effect.Begin (stamp 1 1 1) 5 ∷ []

abbrev pub withdrawn_other : List Effect
withdrawn_other = effect.Stretch (object 2 1) (time (stamp 2 1 1) 1) ∷ effect.Learn (stamp 1 1 1) false ∷ effect.Put (object 2 1) (time (stamp 1 1 1) 1) (int 7) ∷ []

abbrev pub withdrawn_broker : List Effect
withdrawn_broker =
    effect.End 2 outcome.Committed ∷ effect.Got 1 Nothing ∷ effect.Try 2 (stamp 2 1 1) ∷ act 2 2 ∷
    effect.End 1 (outcome.Withdrawn 2) ∷ effect.Acked 1 ∷ effect.Try 1 (stamp 1 1 1) ∷ act 1 1 ∷ effect.Run 1 ∷ []

abbrev pub withdrawn_run : RunLogs
withdrawn_run = booked_of withdrawn_script (plan 1 2 1) (λ n. pick_log n.kind n.number (at_two withdrawn_home withdrawn_other) (at_one withdrawn_broker))

withdrawn-talked : talked (withdrawn_script (1 ∷ [])) (Stored ∷ []) ≡ record { lines = line.Wrote (object 2 1) (int 7) ∷ []; stop = Over (ending.Withdrawn 2) }
withdrawn-talked = refl

withdrawn-alone : (talked_alone (withdrawn_script (1 ∷ [])) finite.empty).stop ≡ Over (ending.Withdrawn 2)
withdrawn-alone = refl

withdrawn-before : before withdrawn_run (stamp 2 1 1) ≡ finite.empty
unfolding before all_deeds log_stamps put_stamps try_stamps stamp_if stamp_in committed has_commit knows booked_tries find puts_to puts_of put_in book same_stamp stamp_lt lt
withdrawn-before = refl

withdrawn-finals : finals withdrawn_run ≡ finite.empty
unfolding finals all_deeds log_stamps put_stamps try_stamps stamp_if stamp_in committed has_commit knows booked_tries find puts_to puts_of put_in book same_stamp stamp_lt lt
withdrawn-finals = refl
