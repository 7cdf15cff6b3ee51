-- What the brokers of a plan have begun, as the code reads it off their logs. Acts stand newest first.
use Rattle.std.specs.Prelude.{ℕ, zero, suc, ◌-◌, Bool, true, false, List, [], ◌∷◌, ◌++◌}
use Rattle.pseudo_time.specs.declared.nodes.NodeId.{NodeId}
use Rattle.effect_form.specs.declared.effects.Effect.{Effect}
use Rattle.plan_form.specs.declared.plans.Plan.{Plan}
use Rattle.broker_core.specs.Book.{Act}
use Rattle.trace_report.specs.Acts.{begun_acts}
use Rattle.trace_report.specs.Begun.{ActParts, entered}

-- an effect that counts is read, another passed over
abbrev pub entered_if : Bool → Effect → List ActParts → List ActParts
entered_if true f acts = entered f acts
entered_if false f acts = acts

-- the effects that count are read, the last one of the list first
abbrev pub read_off : List Bool → List Effect → List ActParts
read_off (c ∷ flags) (f ∷ log) = entered_if c f (read_off flags log)
read_off _ _ = []

-- the acts that brokers 1 to this number have begun
abbrev pub begun_to : Plan → (NodeId → List Effect) → ℕ → List Act
begun_to plan logs zero = []
begun_to plan logs (suc b) = begun_to plan logs b ++ begun_acts plan logs (suc b)

-- those that the last so many of the brokers 1 to `most` have begun
abbrev pub begun_last : Plan → (NodeId → List Effect) → (most count : ℕ) → List Act
begun_last plan logs most zero = []
begun_last plan logs most (suc k) = begun_acts plan logs (most - k) ++ begun_last plan logs most k
