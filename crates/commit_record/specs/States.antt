-- What is known of attempts, and what the calls make of it.
use Rattle.std.specs.Prelude.{◌≡◌, ℕ, nat_le, List, [], ◌∷◌, Option, Some, None, if◌then◌else◌}
use Rattle.std.specs.FinMap as finite
use Rattle.std.specs.Map.{lookup}
use Rattle.std.specs.BTreeMap.{is_at}
use Rattle.pseudo_time.specs.StampParts.{StampParts, stamp_cmp}
use Rattle.pseudo_time.specs.declared.decisions.Decision.{Decision}
use Rattle.pseudo_time.specs.declared.decisions.Decision.TheVariants as decision
use Rattle.commit_record.specs.declared.states.RecordState.{RecordState}
use Rattle.commit_record.specs.declared.states.RecordState.TheVariants as state
use Rattle.commit_record.specs.declared.states.BeginStep.{BeginStep}
use Rattle.commit_record.specs.declared.states.BeginStep.TheVariants as begins
use Rattle.commit_record.specs.declared.states.DecideStep.{DecideStep}
use Rattle.commit_record.specs.declared.states.DecideStep.TheVariants as decides

-- a finite map from stamps to what is known of them
abbrev pub States : Type 0
States = finite.FinMap stamp_cmp RecordState

-- ---- a new record

abbrev pub begin_step : Option RecordState → BeginStep
begin_step None = begins.New
begin_step (Some (state.Unknown d)) = begins.Unknown
begin_step (Some (state.Decided x)) = begins.Decided x

abbrev pub begun_at : Option RecordState → States → StampParts → ℕ → States
begun_at None m s deadline = finite.insert m s (state.Unknown deadline)
begun_at (Some r) m s deadline = m

-- a record is added only where there is none
abbrev pub begun : States → StampParts → ℕ → States
begun m s deadline = begun_at (finite.get m s) m s deadline

-- ---- a decision

abbrev pub decide_step : Option RecordState → Decision → Option DecideStep
decide_step None x = None
decide_step (Some (state.Unknown d)) x = Some (decides.Now x)
decide_step (Some (state.Decided y)) x = Some (decides.Before y)

abbrev pub settled_at : Option RecordState → States → StampParts → Decision → States
settled_at None m s x = m
settled_at (Some (state.Unknown d)) m s x = finite.insert m s (state.Decided x)
settled_at (Some (state.Decided y)) m s x = m

-- only an unknown record is decided
abbrev pub settled : States → StampParts → Decision → States
settled m s x = settled_at (finite.get m s) m s x

-- ---- a moment heard

-- the decision of an unknown record whose deadline is at most the moment
abbrev pub expiry : ℕ → Option RecordState → Option Decision
expiry moment None = None
expiry moment (Some (state.Unknown d)) = if nat_le d moment then Some (decision.Expired d moment) else None
expiry moment (Some (state.Decided x)) = None

-- what is known once the moment is heard
abbrev pub heard : ℕ → Option RecordState → Option RecordState
heard moment None = None
heard moment (Some (state.Unknown d)) = if nat_le d moment then Some (state.Decided (decision.Expired d moment)) else Some (state.Unknown d)
heard moment (Some (state.Decided x)) = Some (state.Decided x)

-- the decision that a list has for a stamp
abbrev pub listed_at : List (StampParts × Decision) → StampParts → Option Decision
listed_at es q = lookup (is_at (stamp_cmp q)) es

-- ---- the deadlines of the unknown records

abbrev pub deadline_of : Option RecordState → Option ℕ
deadline_of None = None
deadline_of (Some (state.Unknown d)) = Some d
deadline_of (Some (state.Decided x)) = None

pub record AreDeadlines (deadlines : List (StampParts × ℕ)) (states : List (StampParts × RecordState)) : Type 0 where
  pub by : (q : StampParts) → lookup (is_at (stamp_cmp q)) deadlines ≡ deadline_of (lookup (is_at (stamp_cmp q)) states)

-- those of the deadlines that are at most the moment, as decisions
abbrev pub expiring : ℕ → List (StampParts × ℕ) → List (StampParts × Decision)
expiring moment [] = []
expiring moment (e ∷ es) = if nat_le e.1 moment then (e.0, decision.Expired e.1 moment) ∷ expiring moment es else expiring moment es
