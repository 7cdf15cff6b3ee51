-- What an attempt sees of what was committed before its run.
use Rattle.std.specs.Prelude.{◌≡◌, ℕ, ◌≤◌, ◌<◌, true, List, reverse}
use Rattle.pseudo_time.specs.Lists.{Every, Has}
use Rattle.pseudo_time.specs.Nodes.{repository}
use Rattle.pseudo_time.specs.Order.{stamp_lt}
use Rattle.pseudo_time.specs.StampParts.{StampParts}
use Rattle.pseudo_time.specs.declared.nodes.NodeId.{NodeId}
use Rattle.value_form.specs.declared.acts.ActSpec.{ActSpec}
use Rattle.effect_form.specs.declared.effects.Effect.{Effect}
use Rattle.plan_form.specs.declared.plans.Plan.{Plan}
use Rattle.world_core.specs.declared.traces.Trace.{Trace}
use Rattle.world_core.specs.Deeds.{RunLogs, Try, before, committed, has_commit}
use Rattle.world_core.specs.Legal.{in_plan}
use Rattle.world_core.specs.Pasts.{OpenedWith}
use Rattle.world_facts.specs.Earlier.{WereLeftOrRetired}
use Rattle.serial_law.specs.Serial.{HoldsBefore}
use Rattle.serial_law.specs.Serials.{run_in, whole_in}

-- its home is of the plan, and by these logs it had committed the attempt
pub record WasCommitted (plan : Plan) (logs : NodeId → List Effect) (s : StampParts) : Type 0 where
  pub home : in_plan plan (repository s.home) ≡ true
  pub decided : has_commit s (reverse (logs (repository s.home))) ≡ true

-- The map over which the attempt is carried out alone has, of each object, the committed put with the greatest start below the attempt's stamp. What was committed by the logs
-- before the run counts as committed. If all acts of the plan have a clock of at least c, each stamp with a lesser clock lies before the attempt.
pub record SeesCommitted (plan : Plan) (logs : NodeId → List Effect) (k : RunLogs) (try : Try) : Type 0 where
  pub holds : HoldsBefore k try.stamp (before k try.stamp)
  pub stays : (s : StampParts) → WasCommitted plan logs s → committed k s ≡ true
  pub late : (c : ℕ) → Every (λ (a : ActSpec). c ≤ a.clock) plan.acts → (s : StampParts) → s.clock < c → stamp_lt s try.stamp ≡ true

-- So it is of each attempt over logs that earlier calls left: it sees what finished runs committed below its stamp, and all of it if the clocks of its plan are above theirs.
abbrev pub SeeFinishedRuns : Plan → Trace → Type 0
SeeFinishedRuns plan t = (logs : NodeId → List Effect) (left : WereLeftOrRetired logs) → OpenedWith t.opened logs → (try : Try) → Has try (run_in plan t).tries → SeesCommitted plan logs (whole_in left.0 plan t) try
