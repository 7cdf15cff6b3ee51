-- Why the Ends of a run stand, by its plan and its trace, over logs that earlier calls left.
use Rattle.std.proofs.Common.{append-nil, sym}
use Rattle.std.specs.Prelude.{◌≡◌, ◌⊎◌, ℕ, List, [], ◌∷◌, ◌++◌}
use Rattle.pseudo_time.specs.TimeParts.{TimeParts}
use Rattle.pseudo_time.specs.declared.nodes.NodeId.{NodeId}
use Rattle.value_form.specs.declared.objects.ObjectId.{ObjectId}
use Rattle.value_form.specs.declared.values.Value.{Value}
use Rattle.effect_form.specs.declared.effects.Effect.{Effect}
use Rattle.effect_form.specs.declared.effects.Effect.TheVariants as effect
use Rattle.effect_form.specs.declared.outcomes.Outcome.{Outcome}
use Rattle.stream_port.specs.declared.fates.Asked.{Asked}
use Rattle.pseudo_time.specs.Nodes.{broker}
use Rattle.object_history.specs.declared.steps.WriteStep.{WriteStep}
use Rattle.plan_form.specs.declared.plans.Plan.{Plan}
use Rattle.broker_core.specs.Readings.{reading}
use Rattle.world_core.specs.declared.traces.Trace.{Trace}
use Rattle.world_core.specs.Answered.{WasAnswered, WasRefused}
use Rattle.world_core.specs.Legal.{base_of}
use Rattle.world_core.specs.Pasts.{OpenedWith, own_reading}
use Rattle.world_core.specs.Readings.{IsLegal}
use Rattle.world_facts.specs.AnyRules.{log_before}
use Rattle.world_facts.specs.Earlier.{Earlier, TickedBy, WereLeftOrRetired}
use Rattle.serial_law.specs.Added.{AnyPlace, any_log, EndCause}
use Rattle.serial_law.specs.Causes.{Causes, Happened}
use Rattle.serial_law.specs.Runs.{InSome}
use Rattle.serial_law.specs.Serials.{olds_in, run_in}

-- in this run, or in one of these calls before it
abbrev pub AnsweredBy : Plan → Trace → List Earlier → TimeParts → ObjectId → Value → WriteStep → Type 0
AnsweredBy plan t cs x o v step = WasAnswered (base_of (reading plan.acts) plan t) t.entries x o v step ⊎ InSome own_reading (λ b es. WasAnswered b es x o v step) cs

abbrev pub RefusedBy : Plan → Trace → List Earlier → TimeParts → ObjectId → TimeParts → Type 0
RefusedBy plan t cs x o e = WasRefused (base_of (reading plan.acts) plan t) t.entries x o e ⊎ InSome own_reading (λ b es. WasRefused b es x o e) cs

abbrev pub happened_by : Plan → Trace → List Earlier → Happened
happened_by plan t cs = record { Ticked = TickedBy cs t.entries; Answered = AnsweredBy plan t cs; Refused = RefusedBy plan t cs }

-- Over logs that earlier calls left each End of the run has its cause: what stands in the logs, or stood in the retired ones, a moment that was ticked and a
-- refusal that was answered, in this run or in one of those calls.
abbrev pub HaveReasons : Plan → Trace → Type 0
HaveReasons plan t = (logs : NodeId → List Effect) (left : WereLeftOrRetired logs) → OpenedWith t.opened logs → Causes (run_in plan t) (olds_in left.0) (happened_by plan t left.0)

-- the end of a legal trace, as a place of it
abbrev pub end_of : (plan : Plan) (asked : List Asked) (t : Trace) → IsLegal plan asked t → AnyPlace
end_of plan asked t legal = record { script = reading plan.acts; plan = plan; asked = asked; trace = t; front = t.entries; rest = []; here = sym (append-nil t.entries); legal = legal }

-- Over whatever logs each End that the trace added to a broker's log has its cause.
abbrev pub AddedHaveReasons : Plan → List Asked → Trace → Type 0
AddedHaveReasons plan asked t = (legal : IsLegal plan asked t) (b i : ℕ) (o : Outcome) (late early : List Effect) →
    any_log (end_of plan asked t legal) (broker b) ≡ late ++ (effect.End i o ∷ (early ++ log_before t (broker b))) → EndCause (end_of plan asked t legal) b (early ++ log_before t (broker b)) i o
