-- How many faults of its medium a node's entries cost.
use Rattle.std.specs.Prelude.{ℕ, ◌+◌, List, [], ◌∷◌}
use Rattle.stream_port.specs.Causes.{RoseBy}
use Rattle.pseudo_time.specs.declared.down_causes.DownCause.{DownCause}
use Rattle.pseudo_time.specs.declared.down_causes.DownCause.TheVariants as down
use Rattle.world_core.specs.declared.entries.Entry.{Entry}
use Rattle.world_core.specs.declared.entries.Entry.TheVariants.{Crash, Down}

-- a node that its medium brought down: two, for the fault and for that of opening it anew
abbrev pub cost_of_cause : DownCause → ℕ
cost_of_cause cause = elim cause [ down.Medium ↦ 2 | _ ↦ 0 ]

-- a crash: one
abbrev pub cost_of : Entry → ℕ
cost_of e = elim e [ Crash node kept ↦ 1 | Down node cause ↦ cost_of_cause cause | _ ↦ 0 ]

abbrev pub costs : List Entry → ℕ
costs [] = 0
costs (e ∷ es) = cost_of e + costs es

-- What the entries cost went up by no more than the count rose, whatever was counted before.
abbrev pub PaysFor : ℕ → ℕ → ℕ → ℕ → Type 0
PaysFor cost count new_cost new_count = (first : ℕ) → RoseBy cost first count → RoseBy new_cost first new_count
