-- Which records of a log expire at a moment. Logs stand newest first.
use Rattle.std.specs.Prelude.{ℕ, nat_le, Bool, false, List, Option, Some, None, map}
use Rattle.std.specs.List.{filter}
use Rattle.pseudo_time.specs.StampParts.{StampParts}
use Rattle.pseudo_time.specs.declared.decisions.Decision.{Decision}
use Rattle.pseudo_time.specs.declared.decisions.Decision.TheVariants as decision
use Rattle.effect_form.specs.declared.effects.Effect.{Effect}
use Rattle.commit_record.specs.declared.states.RecordState.{RecordState}
use Rattle.commit_record.specs.declared.states.RecordState.TheVariants as state
use Rattle.repository_log.specs.Logs.{record_of, begun}

-- a record that is unknown expires at the first moment that isn't below its deadline
abbrev pub is_due : ℕ → Option RecordState → Bool
is_due m None = false
is_due m (Some (state.Unknown t)) = nat_le t m
is_due m (Some (state.Decided d)) = false

-- the attempts whose records expire at this moment, in the order of their stamps
abbrev pub due : ℕ → List Effect → List StampParts
due m l = filter (λ s. is_due m (record_of l s)) (begun l)

-- by what decision a record expires at this moment
abbrev pub expiry_of : ℕ → Option RecordState → Decision
expiry_of m None = decision.Withdrawn
expiry_of m (Some (state.Unknown t)) = decision.Expired t m
expiry_of m (Some (state.Decided d)) = d

-- those attempts, each with the decision by which it expires
abbrev pub expiries : ℕ → List Effect → List (StampParts × Decision)
expiries m l = map (λ s. (s, expiry_of m (record_of l s))) (due m l)
