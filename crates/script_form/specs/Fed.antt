-- What feeding a row gives.
use Rattle.std.specs.Prelude.{◌≡◌, [], ◌∷◌, ◌++◌, Result, Ok, Err}
use Rattle.script_form.specs.declared.buildings.Building.{Building}
use Rattle.script_form.specs.declared.block_faults.BlockFault.{BlockFault}
use Rattle.script_form.specs.declared.block_faults.BlockFault.TheVariants.{Block, Depth, NoMemory}
use Rattle.script_form.specs.Rows.{Numbered}
use Rattle.script_form.specs.Begins.{Begins, BeginsShallow}
use Rattle.script_form.specs.Building.{rows_so_far}

-- The rows so far have one more, and begin a script whose blocks are no deeper than 16. Block comes only where with this row they begin no script,
-- and Depth only where they begin none but deeper ones.
abbrev pub Fed : Building → Numbered → Result Building BlockFault → Type 0
Fed old row (Ok new) = (rows_so_far old ++ row ∷ [] ≡ rows_so_far new) × BeginsShallow (rows_so_far new)
Fed old row (Err Block) = Begins (rows_so_far old ++ row ∷ []) → ⊥
Fed old row (Err Depth) = Begins (rows_so_far old ++ row ∷ []) × (BeginsShallow (rows_so_far old ++ row ∷ []) → ⊥)
Fed old row (Err NoMemory) = Unit {0}
