-- What a run without brokers comes to: it sends no message, and what is due at its last Tick expires. Logs are lists with the oldest effect first.
use Rattle.std.specs.Prelude.{◌≡◌, ℕ, ◌<◌, true, List, reverse, Option, Some}
use Rattle.pseudo_time.specs.StampParts.{StampParts}
use Rattle.pseudo_time.specs.Nodes.{repository}
use Rattle.commit_record.specs.declared.states.RecordState.TheVariants as state
use Rattle.effect_form.specs.declared.effects.Effect.{Effect}
use Rattle.plan_form.specs.declared.plans.Plan.{Plan}
use Rattle.repository_log.specs.Logs.{record_of}
use Rattle.world_core.specs.Readings.{world_after}
use Rattle.world_core.specs.Legal.{Idle, fates_of, is_within}
use Rattle.world_core.specs.declared.traces.Trace.{Trace}

-- no record of the log is unknown at this moment or later than its deadline
abbrev pub NoneDue : ℕ → List Effect → Type 0
NoneDue moment log = (s : StampParts) (deadline : ℕ) → record_of (reverse log) s ≡ Some (state.Unknown deadline) → moment < deadline

-- If no node that is up has anything to do, nothing is due at the last Tick in the durable log of a repository that is up.
abbrev pub AllExpired : Plan → Trace → Type 0
AllExpired plan t = Idle (fates_of t.sent) (world_after plan t) → (moment : ℕ) → (world_after plan t).last ≡ Some moment → (r : ℕ) → is_within r plan.repositories ≡ true
    → ((world_after plan t).flags (repository r)).up ≡ true → NoneDue moment ((world_after plan t).life (repository r)).gated
