-- Which rows begin a script.
use Rattle.std.specs.Prelude.{◌≡◌, ◌≤◌, List, ◌++◌}
use Rattle.value_form.specs.Mirror.{Block}
use Rattle.script_form.specs.Rows.{Numbered, rows, block_depth}

-- with more rows they are those of some script
pub record Begins (xs : List Numbered) : Type 0 where
  pub more : List Numbered
  pub script : Block
  pub is : xs ++ more ≡ rows script

-- with more rows they are those of a script whose blocks are no deeper than 16
pub record BeginsShallow (xs : List Numbered) : Type 0 where
  pub more : List Numbered
  pub script : Block
  pub is : xs ++ more ≡ rows script
  pub shallow : block_depth script ≤ 16
