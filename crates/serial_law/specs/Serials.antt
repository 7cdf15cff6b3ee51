-- A run by its plan and its trace, over logs that earlier runs left, and retirements.
use Rattle.std.specs.Prelude.{◌≡◌, ◌≤◌, ℕ, List, map, reverse}
use Rattle.pseudo_time.specs.Lists.{Every, Has}
use Rattle.pseudo_time.specs.declared.nodes.NodeId.{NodeId}
use Rattle.value_form.specs.declared.acts.ActSpec.{ActSpec}
use Rattle.value_form.specs.declared.objects.ObjectId.{ObjectId}
use Rattle.value_form.specs.Objects.{value_at}
use Rattle.effect_form.specs.declared.effects.Effect.{Effect}
use Rattle.plan_form.specs.declared.plans.Plan.{Plan}
use Rattle.world_core.specs.declared.traces.Trace.{Trace}
use Rattle.world_core.specs.Deeds.{RunLogs, Try, finals}
use Rattle.world_core.specs.Pasts.{OpenedWith, own_reading}
use Rattle.world_core.specs.Readings.{gated_log}
use Rattle.world_facts.specs.Earlier.{Earlier, WereLeftOrRetired, replaced}
use Rattle.serial_law.specs.Serial.{Serial}
use Rattle.serial_law.specs.Wholes.{KeepsPuts, whole_run}
use Rattle.trace_report.specs.Finals.{last_values}
use Rattle.trace_report.specs.Reports.{run_over}

-- the run at the end of the trace: the durable logs as they stand, and the attempts that they tell
abbrev pub run_in : Plan → Trace → RunLogs
run_in plan t = run_over plan (gated_log plan t)

-- the logs of a node that retirements among these calls replaced, the last one first
abbrev pub olds_in : List Earlier → NodeId → List (List Effect)
olds_in cs n = map reverse (replaced own_reading cs n)

-- the run with all versions that ever stood, also in those logs
abbrev pub whole_in : List Earlier → Plan → Trace → RunLogs
whole_in cs plan t = whole_run (olds_in cs) (run_in plan t)

-- Over logs that earlier calls left every attempt reads, writes and ends as its script does alone, after all committed deeds before its stamp.
-- Of each committed one the puts stand, but for what a retirement gave up.
abbrev pub IsSerialOver : Plan → Trace → Type 0
IsSerialOver plan t = (logs : NodeId → List Effect) (left : WereLeftOrRetired logs) → OpenedWith t.opened logs → Serial (whole_in left.0 plan t) × KeepsPuts (run_in plan t)

-- And what objects hold by the logs as they stand, which a report shows, is what all committed deeds leave.
abbrev pub HoldsFinals : Plan → Trace → Type 0
HoldsFinals plan t = (logs : NodeId → List Effect) (left : WereLeftOrRetired logs) → OpenedWith t.opened logs → (o : ObjectId) →
    value_at (last_values (run_in plan t)) o ≡ value_at (finals (whole_in left.0 plan t)) o

-- The stamp of each attempt has at least a clock that all acts of the plan have. So if that is above the clocks of all that stood in the logs, the attempt lies after it in the serial order,
-- and reads what finished runs committed.
abbrev pub AreLate : Plan → Trace → Type 0
AreLate plan t = (logs : NodeId → List Effect) (left : WereLeftOrRetired logs) → OpenedWith t.opened logs → (c : ℕ) → Every (λ (a : ActSpec). c ≤ a.clock) plan.acts → (try : Try) → Has try (run_in plan t).tries → c ≤ try.stamp.clock
