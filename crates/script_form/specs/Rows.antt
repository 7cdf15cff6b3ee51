-- The rows of a script: what stands on a line of its own, a statement or a part of one.
use Rattle.std.specs.Prelude.{ℕ, ◌+◌, max, List, [], ◌∷◌, ◌++◌}
use Rattle.value_form.specs.Mirror.{Spot, Fixed, At, Step, Let, Read, Write, Print, If, IfElse, Repeat, Withdraw, Block, End, Then}
use Rattle.expression_form.specs.Depth.{depth}
use Rattle.script_form.specs.Row.{Row}
use Rattle.script_form.specs.Row as r

-- a row and the line on which it stands
pub record Numbered : Type 0 where
  pub line : ℕ
  pub row : Row

abbrev pub on : ℕ → Row → Numbered
on line row = record { line = line; row = row }

-- the rows of a statement, and of a part
abbrev mutual
  pub step_rows : Step → List Numbered
  step_rows (Let l name x) = on l (r.Let name x) ∷ []
  step_rows (Read l name place) = on l (r.Read name place) ∷ []
  step_rows (Write l place x) = on l (r.Write place x) ∷ []
  step_rows (Print l x) = on l (r.Print x) ∷ []
  step_rows (If l x part e) = on l (r.If x) ∷ (rows part ++ on e r.End ∷ [])
  step_rows (IfElse l x part m other e) = on l (r.If x) ∷ (rows part ++ on m r.Else ∷ (rows other ++ on e r.End ∷ []))
  step_rows (Repeat l x part e) = on l (r.Repeat x) ∷ (rows part ++ on e r.End ∷ [])
  step_rows (Withdraw l) = on l r.Withdraw ∷ []

  pub rows : Block → List Numbered
  rows End = []
  rows (Then x b) = step_rows x ++ rows b

-- ---- depths

-- how deep blocks stand in one another
abbrev mutual
  pub step_depth : Step → ℕ
  step_depth (If l x part e) = block_depth part + 1
  step_depth (IfElse l x part m other e) = max (block_depth part) (block_depth other) + 1
  step_depth (Repeat l x part e) = block_depth part + 1
  step_depth _ = 0

  pub block_depth : Block → ℕ
  block_depth End = 0
  block_depth (Then x b) = max (step_depth x) (block_depth b)

-- the depth of `R[E]` is that of E
abbrev pub spot_depth : Spot → ℕ
spot_depth (Fixed object) = 0
spot_depth (At repository x) = depth x

-- the depth of the deepest expression in a row
abbrev pub row_depth : Row → ℕ
row_depth (r.Let name x) = depth x
row_depth (r.Read name place) = spot_depth place
row_depth (r.Write place x) = max (spot_depth place) (depth x)
row_depth (r.Print x) = depth x
row_depth (r.If x) = depth x
row_depth (r.Repeat x) = depth x
row_depth _ = 0
