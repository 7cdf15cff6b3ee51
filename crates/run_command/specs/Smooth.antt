-- Runs in which nothing fails, is lost or is held, over blank media that are large enough; and what they come to.
use Rattle.std.specs.Prelude.{◌≡◌, ℕ, ◌+◌, ◌*◌, ◌≤◌, ◌<◌, true, List, length, Option, Some}
use Rattle.pseudo_time.specs.Lists.{Every}
use Rattle.pseudo_time.specs.declared.nodes.NodeId.{NodeId}
use Rattle.pseudo_time.specs.declared.nodes.NodeKind.{NodeKind}
use Rattle.pseudo_time.specs.declared.nodes.NodeKind.TheVariants.{Repository, Broker}
use Rattle.value_form.specs.declared.acts.ActSpec.{ActSpec}
use Rattle.stream_port.specs.Causes.{Rose}
use Rattle.medium_port.specs.Image.{IsBlankImage}
use Rattle.plan_form.specs.declared.plans.Plan.{Plan}
use Rattle.broker_core.specs.Readings.{reading}
use Rattle.broker_core.specs.Tasks.{task_of}
use Rattle.world_core.specs.declared.traces.Trace.{Trace}
use Rattle.world_core.specs.Legal.{fates_of, in_plan, is_within}
use Rattle.world_core.specs.Readings.{gated_log, world_after}
use Rattle.report_writer.specs.declared.records.ActReport.{ActReport}
use Rattle.report_writer.specs.declared.records.TryReport.{TryReport}
use Rattle.report_writer.specs.declared.records.TryOutcome.{TryOutcome}
use Rattle.report_writer.specs.declared.records.TryOutcome.TheVariants as outcome
use Rattle.report_writer.specs.declared.records.ActOutcome.{ActOutcome}
use Rattle.report_writer.specs.declared.records.ActOutcome.TheVariants as standing
use Rattle.report_writer.specs.Standings.{standing_of}
use Rattle.run_rounds.specs.Acts.{acts_shown}
use Rattle.run_rounds.specs.Ends.{IsSettled}
use Rattle.plan_volumes.specs.Media.{Media}
use Rattle.run_rounds.specs.Media.{Became, medium_at}
use Rattle.complete_law.specs.Calm.{AsksAtMost, IsPlain, IsUnstopped, tries_in}

-- ---- what a run wants

-- no script of the plan makes more requests, whatever they are answered
abbrev pub AskAtMost : Plan → ℕ → Type 0
AskAtMost plan most = Every (λ (a : ActSpec). AsksAtMost most (reading plan.acts (task_of a).script)) plan.acts

-- so many pages are enough for each node of a plan whose scripts make at most so many requests, though each effect may fill 17
abbrev pub pages_for : Plan → ℕ → ℕ
pages_for plan most = 1 + 17 * (tries_in plan.acts * (most + 3))

-- and no more messages than these are sent
abbrev pub messages_for : Plan → ℕ → ℕ
messages_for plan most = tries_in plan.acts * (4 * most + 4)

-- how many volumes of a node are taken where they are blank: a repository's volume 1 is found empty behind its volume 0
abbrev pub volumes_of_blank : NodeKind → ℕ
volumes_of_blank Repository = 2
volumes_of_blank Broker = 1

-- Scripts of the plan make at most so many requests. The nodes' media were blank and have enough pages, and no count of theirs rose.
-- Fewer messages are sent than those at which the run ends, each as one copy without a hold.
pub record IsSmoothRun {M : Type 0} (w : Media M) (most enough : ℕ) (plan : Plan) (t : Trace) (media left : List (Option M)) : Type 0 where
  pub asks : AskAtMost plan most
  pub had : (n : NodeId) → in_plan plan n ≡ true → (old : M) × (medium_at plan media n ≡ Some old)
  pub blank : (n : NodeId) (old : M) → in_plan plan n ≡ true → medium_at plan media n ≡ Some old → IsBlankImage (w.reads old)
  pub faultless : (n : NodeId) (old new : M) → in_plan plan n ≡ true → Became plan media left n old new → Rose (w.faults old) (w.faults new) → ⊥
  pub large : (n : NodeId) (old : M) → in_plan plan n ≡ true → medium_at plan media n ≡ Some old → pages_for plan most ≤ length (w.reads old)
  pub few : messages_for plan most < enough
  pub plain : Every IsPlain (fates_of t.sent)

-- ---- what it comes to

-- the act has its outcome, and not for want of time
abbrev pub IsFinal : ActOutcome → Type 0
IsFinal standing.Committed = Unit {0}
IsFinal standing.Withdrawn = Unit {0}
IsFinal standing.Failed = Unit {0}
IsFinal standing.Refused = Unit {0}
IsFinal standing.Spent = Unit {0}
IsFinal standing.Expired = ⊥
IsFinal standing.Open = ⊥

abbrev pub IsFinished : ActReport → Type 0
IsFinished a = IsFinal (standing_of a)

-- a write of the attempt was refused
abbrev pub WasRefused : TryOutcome → Type 0
WasRefused (outcome.LaterRead o e) = Unit {0}
WasRefused (outcome.LaterVersion o x) = Unit {0}
WasRefused _ = ⊥

abbrev pub IsUnrefused : ActReport → Type 0
IsUnrefused a = Every (λ (t : TryReport). WasRefused t.outcome → ⊥) a.tries

-- No version of a repository is left in doubt whose home, of this run, has decided its attempt.
abbrev pub LeavesNoDoubt : Plan → Trace → Type 0
LeavesNoDoubt plan t = (r : ℕ) → is_within r plan.repositories ≡ true → IsSettled plan (world_after plan t) r

-- Time stood still, and no node stopped. Each act was committed, withdrawn, failed or spent, or its last allowed attempt was refused. With one broker none was. Unless no
-- Tick was allowed at all, nothing that was decided is left in doubt.
pub record WentSmoothly (most_ticks : ℕ) (plan : Plan) (t : Trace) : Type 0 where
  pub settled : 1 ≤ most_ticks → LeavesNoDoubt plan t
  pub quiet : Every IsUnstopped t.entries
  pub acts : Every IsFinished (acts_shown plan (gated_log plan t))
  pub one : plan.brokers ≡ 1 → Every IsUnrefused (acts_shown plan (gated_log plan t))
