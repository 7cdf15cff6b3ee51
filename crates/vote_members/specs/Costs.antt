-- How often a medium failed at least, by the entries of its node.
use Rattle.std.specs.Prelude.{ℕ, ◌+◌, List, [], ◌∷◌}
use Rattle.pseudo_time.specs.declared.down_causes.DownCause.TheVariants as down
use Rattle.world_core.specs.declared.entries.Entry.{Entry}
use Rattle.world_core.specs.declared.entries.Entry.TheVariants.{Crash, Down}

-- once for a Crash, and twice for a Down where the medium failed
abbrev pub cost_of : Entry → ℕ
cost_of e = elim e [ Crash node kept ↦ 1 | Down node cause ↦ elim cause [ down.Medium ↦ 2 | _ ↦ 0 ] | _ ↦ 0 ]

abbrev pub costs : List Entry → ℕ
costs [] = 0
costs (e ∷ es) = cost_of e + costs es
