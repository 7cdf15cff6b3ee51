-- What follows for a batch whose run and clocks are above the logs of its openings.
use Rattle.std.specs.Prelude.{◌≡◌, ℕ, ◌<◌, true, List, Option, Some, slice_get}
use Rattle.pseudo_time.specs.Lists.{Has}
use Rattle.pseudo_time.specs.declared.nodes.NodeId.{NodeId}
use Rattle.effect_form.specs.declared.effects.Effect.{Effect}
use Rattle.plan_form.specs.declared.plans.Plan.{Plan}
use Rattle.session_form.specs.declared.heights.Heights.{Heights}
use Rattle.session_form.specs.Heights.{Covers}
use Rattle.world_core.specs.declared.traces.Trace.{Trace}
use Rattle.world_core.specs.Deeds.{Try}
use Rattle.world_core.specs.Legal.{in_plan}
use Rattle.world_core.specs.Pasts.{OpenedWith, WasNotOpened}
use Rattle.world_core.specs.Walks.{opened_log}
use Rattle.world_facts.specs.Earlier.{WereLeftOrRetired}
use Rattle.complete_law.specs.Serials.{run_in}
use Rattle.plan_volumes.specs.Media.{Media}
use Rattle.plan_volumes.specs.Opening.{Opening}
use Rattle.plan_volumes.specs.Openings.{IsOpen}
use Rattle.plan_volumes.specs.Places.{place_of}
use Rattle.session_command.specs.Above.{reached}

-- Each node of the plan whose volume could be opened was opened with a log that these openings' heights cover.
abbrev pub CoversOpened : {M : Type 0} {w : Media M} → Plan → List (Opening M w) → Trace → Type 0
CoversOpened {M} {w} plan openings t = (n : NodeId) (o : Opening M w) (log : List Effect) → in_plan plan n ≡ true → (WasNotOpened t.entries n → ⊥) → slice_get openings (place_of plan n) ≡ Some o → IsOpen o
    → opened_log t.opened n ≡ Some log → Covers (reached openings) log

-- From a past, each attempt of the run lies above these heights.
abbrev pub LiesAbove : Heights → Plan → Trace → Type 0
LiesAbove h plan t = (logs : NodeId → List Effect) (left : WereLeftOrRetired logs) → OpenedWith t.opened logs → (try : Try) → Has try (run_in plan t).tries → h.clock < try.stamp.clock
