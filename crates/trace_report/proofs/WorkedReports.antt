-- Reports worked by hand: the definitions compute what brokers' logs, entries and messages tell. Logs stand oldest first.
use Rattle.std.specs.Fmt.{digits}
use Rattle.trace_report.proofs.Names.{StampParts, TimeParts, lt, same_stamp, NodeId, Repository, Broker, ObjectId, Nothing, Effect, pick, scan, version_count, same_object, value_of, knows, Plan, book, keep, reading, committed, has_commit, Down, Tick, Trace, TryReport, ActReport, report_text, acts_shown, last_put, downs_shown, run_over, wire_shown, ◌≡◌, ℕ, List, [], ◌∷◌, ◌++◌, refl, Some, None, codes, pos, Number, Crash}
use Rattle.pseudo_time.specs.declared.decisions.Decision.TheVariants as decision
use Rattle.pseudo_time.specs.declared.nodes.NodeKind.{NodeKind}
use Rattle.pseudo_time.specs.declared.down_causes.DownCause.TheVariants as cause
use Rattle.effect_form.specs.declared.effects.Effect.TheVariants as effect
use Rattle.effect_form.specs.declared.outcomes.Outcome.TheVariants as ended
use Rattle.message_form.specs.declared.messages.Message.TheVariants as message
use Rattle.world_core.specs.declared.traces.Sent.{Sent}
use Rattle.trace_logs.proofs.WorkedTraces.{home, desk, stamp, lone_act, prompt}
use Rattle.report_writer.specs.declared.records.TryOutcome.TheVariants as outcome

-- one act without a statement
abbrev plan : ℕ → Plan
plan run = record { run = run; repositories = 1; brokers = 1; acts = lone_act ∷ [] }

-- only the broker has a log
abbrev of_kind : List Effect → NodeKind → List Effect
of_kind log Repository = []
of_kind log Broker = log

abbrev logs : List Effect → NodeId → List Effect
logs log n = of_kind log n.kind

abbrev later : StampParts
later = record { clock = 2; broker = 1; home = 1 }

-- the act's attempt is committed in run 1
abbrev one_run : List Effect
one_run = effect.Run 1 ∷ effect.Act 1 1 5 3 1 [] ∷ effect.Try 1 stamp ∷ effect.End 1 ended.Committed ∷ []

abbrev shown : List TryReport → ActReport
shown tries = record { index = 1; broker = 1; home = 1; allowed = 3; tries = tries; spent = None }

abbrev tried : TryReport
tried = record { stamp = stamp; outcome = outcome.Committed; lines = [] }

pub committed-shown : acts_shown (plan 1) (logs one_run) ≡ shown (tried ∷ []) ∷ []
unfolding reading keep book
committed-shown = refl

-- a try behind the outcome doesn't count
pub unfit-passed : acts_shown (plan 1) (logs (one_run ++ effect.Try 1 later ∷ [])) ≡ shown (tried ∷ []) ∷ []
unfolding reading keep book
unfit-passed = refl

-- what an earlier run did isn't shown
pub earlier-hidden : acts_shown (plan 2) (logs one_run) ≡ shown [] ∷ []
unfolding reading keep book
earlier-hidden = refl

-- a second run begins the act anew
pub anew-shown : acts_shown (plan 2) (logs (one_run ++ effect.Run 2 ∷ effect.Act 1 1 5 3 1 [] ∷ effect.Try 1 later ∷ [])) ≡ shown (record { stamp = later; outcome = outcome.Open; lines = [] } ∷ []) ∷ []
unfolding reading keep book
anew-shown = refl

-- an act that is spent has no try line for it
pub spent-shown : acts_shown (plan 1) (logs (effect.Run 1 ∷ effect.Act 1 1 5 3 1 [] ∷ effect.End 1 (ended.Spent 9) ∷ [])) ≡ record { index = 1; broker = 1; home = 1; allowed = 3; tries = []; spent = Some 9 } ∷ []
unfolding reading keep book
spent-shown = refl

abbrev asked : Sent
asked = record { number = 1; from = home; to = home; message = message.Ask stamp; fate = prompt }

abbrev trace : Trace
trace = record { start = 0; opened = []; sent = asked ∷ []; entries = Tick 3 ∷ Crash home 0 ∷ Down desk cause.Medium ∷ Down home (cause.Damaged 2) ∷ [] }

-- repositories stand before brokers, whichever went down first
pub downs-worked : downs_shown (plan 1) trace ≡ record { node = home; cause = cause.Damaged 2 } ∷ record { node = desk; cause = cause.Medium } ∷ []
downs-worked = refl

pub text-worked : report_text (record { run = 1; acts = acts_shown (plan 1) (logs one_run); finals = []; downs = downs_shown (plan 1) trace; wire = Some (wire_shown trace) })
    ≡ codes "swallow report 1\nrun 1\nact 1 broker 1 home 1\ntry 1.1.1 committed\ndown repository 1 damaged 2\ndown broker 1 medium\ntotals acts 1 committed 1 withdrawn 0 failed 0 refused 0 expired 0 spent 0 open 0\nwire messages 1 asks 1 ticks 1 crashes 1\n"
unfolding digits reading keep book
text-worked = refl

-- an object holds its committed version with the greatest start; one that was withdrawn doesn't count
abbrev object : ObjectId
object = record { repository = 1; number = 7 }

abbrev first_of : StampParts → TimeParts
first_of s = record { stamp = s; step = 1 }

abbrev last : StampParts
last = record { clock = 3; broker = 1; home = 1 }

abbrev three_puts : List Effect
three_puts =
    effect.Put object (first_of stamp) (Number (pos 10)) ∷ effect.Decide stamp decision.Committed ∷ effect.Put object (first_of later) (Number (pos 20)) ∷ effect.Decide later decision.Committed ∷
    effect.Put object (first_of last) (Number (pos 30)) ∷ effect.Decide last decision.Withdrawn ∷ []

-- only the repository has a log
abbrev of_repository : List Effect → NodeKind → List Effect
of_repository log Repository = log
of_repository log Broker = []

pub held-worked : value_of (last_put (run_over (plan 1) (λ n. of_repository three_puts n.kind)) object) ≡ Number (pos 20)
unfolding scan pick version_count same_object committed has_commit knows same_stamp lt
held-worked = refl

pub none-held : value_of (last_put (run_over (plan 1) (λ n. of_repository three_puts n.kind)) (record { repository = 1; number = 8 })) ≡ Nothing
unfolding scan pick version_count same_object committed has_commit knows same_stamp lt
none-held = refl
