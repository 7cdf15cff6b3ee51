-- What a reader knows of the lines that it has read.
use Rattle.std.specs.Prelude.{◌≡◌, ℕ, ◌≤◌, List, length}
use Rattle.script_form.specs.Rows.{Numbered}
use Rattle.script_form.specs.Begins.{BeginsShallow}
use Rattle.script_form.specs.RowTexts.{rows_text, next_line}
use Rattle.script_form.specs.Scripts.{LinesRows, ShallowRows}

-- The lines begin a script; xs are their rows, count is their number, next the line after the last row, and size the bytes of their canonical text.
pub record Holds (greatest : ℕ) (lines : List (List ℕ)) (xs : List Numbered) (count next size : ℕ) : Type 0 where
  pub rows : LinesRows greatest 1 lines xs
  pub shallow : ShallowRows xs
  pub begins : BeginsShallow xs
  pub count_is : count ≡ length lines
  pub next_is : next ≡ next_line 1 xs
  pub size_is : size ≡ length (rows_text 1 xs)
  pub few : count ≤ 200
  pub small : size ≤ 3900
