-- Which scripts the language has.
use Rattle.std.specs.Prelude.{ℕ, ◌+◌, ◌≤◌, List, [], ◌∷◌, length}
use Rattle.value_form.specs.Mirror.{Block}
use Rattle.script_form.specs.Rows.{Numbered, rows, block_depth}
use Rattle.script_form.specs.RowTexts.{RowInLimits, RowUpTo, next_line, script_text}
use Rattle.script_form.specs.Scripts.{ShallowRows}

-- each row stands on a later line than the row before
abbrev pub Rising : ℕ → List Numbered → Type 0
Rising next [] = Unit {0}
Rising next (x ∷ xs) = (next ≤ x.line) × Rising (x.line + 1) xs

-- numbers, texts, names and objects are in their limits, with repositories up to the greatest
abbrev pub RowsInLimits : ℕ → List Numbered → Type 0
RowsInLimits greatest [] = Unit {0}
RowsInLimits greatest (x ∷ xs) = RowInLimits x.row × RowUpTo greatest x.row × RowsInLimits greatest xs

-- a script of the language: its rows stand on lines 1 to 200 in order, and its limits are kept
pub record IsPrintable (greatest : ℕ) (script : Block) : Type 0 where
  pub rising : Rising 1 (rows script)
  pub limits : RowsInLimits greatest (rows script)
  pub shallow : ShallowRows (rows script)
  pub depth : block_depth script ≤ 16
  pub lines : next_line 1 (rows script) ≤ 201
  pub bytes : length (script_text script) ≤ 3900
