-- A script of the language is in range: its lines, numbers, texts and objects are.
use Rattle.serial_model.proofs.Names.{ℕ, ◌+◌, ◌≤◌, List, [], ◌∷◌, ◌++◌, arith, nat_tests, Every, Term, Number, Text, Nothing, Name, Before, Between, Applied, Given, Spot, Fixed, At, Step, Let, Read, Write, Print, If, IfElse, Repeat, Withdraw, Block, End, Then, InLimits, Numbered, on, step_rows, rows, SpotInLimits, RowInLimits, next_line, Rising, RowsInLimits, IsPrintable, IsLine, TermInRange, SpotInRange, StepInRange, BlockInRange}
use Rattle.script_form.specs.Row as r
use Rattle.serial_model.proofs.TextByteLemmas.{passing-IsBytes}

-- a row on a line of a script, with what is in its limits
abbrev RowFits : Numbered → Type 0
RowFits x = IsLine x.line × RowInLimits x.row

abbrev Rows : List Numbered → Type 0
Rows xs = Every RowFits xs

next_line-up : (next : ℕ) (xs : List Numbered) → Rising next xs → next ≤ next_line next xs
next_line-up next [] h = omega arith
next_line-up next (x ∷ xs) h = omega (arith, h.0, next_line-up (x.line + 1) xs h.1)

rows-fit : (greatest next : ℕ) (xs : List Numbered) → 1 ≤ next → Rising next xs → next_line next xs ≤ 201 → RowsInLimits greatest xs → Rows xs
rows-fit greatest next [] low rising few h = tt
rows-fit greatest next (x ∷ xs) low rising few h =
    (((omega (arith, low, rising.0), omega (arith, few, next_line-up (x.line + 1) xs rising.1)), h.0), rows-fit greatest (x.line + 1) xs (omega arith) rising.1 few h.2)

rows-front : (xs ys : List Numbered) → Rows (xs ++ ys) → Rows xs
rows-front [] ys h = tt
rows-front (x ∷ xs) ys h = (h.0, rows-front xs ys h.1)

rows-behind : (xs ys : List Numbered) → Rows (xs ++ ys) → Rows ys
rows-behind [] ys h = h
rows-behind (x ∷ xs) ys h = rows-behind xs ys h.1

term-InRange : (x : Term) → InLimits x → TermInRange x
term-InRange (Number n) h = let k = h.1 in grind (arith, nat_tests)
term-InRange (Text bytes) h = (let k = h.1 in grind (arith, nat_tests), passing-IsBytes bytes h.0)
term-InRange Nothing h = tt
term-InRange (Name name) h = tt
term-InRange (Before o x) h = term-InRange x h
term-InRange (Between o x y) h = (term-InRange x h.0, term-InRange y h.1)
term-InRange (Applied f x) h = term-InRange x h
term-InRange (Given x y) h = (term-InRange x h.0, term-InRange y h.1)

spot-InRange : (place : Spot) → SpotInLimits place → SpotInRange place
spot-InRange (Fixed object) h = record { repository_low = h.0.0; repository_high = h.0.1; number = h.1 }
spot-InRange (At n x) h = (h.0.0, h.0.1, term-InRange x h.1)

mutual
  step-InRange : (x : Step) → Rows (step_rows x) → StepInRange x
  step-InRange (Let l name x) (h, more) = (h.0, term-InRange x h.1.1)
  step-InRange (Read l name place) (h, more) = (h.0, spot-InRange place h.1.1)
  step-InRange (Write l place x) (h, more) = (h.0, spot-InRange place h.1.0, term-InRange x h.1.1)
  step-InRange (Print l x) (h, more) = (h.0, term-InRange x h.1)
  step-InRange (If l x part e) (h, more) = (h.0, term-InRange x h.1, block-InRange part (rows-front (rows part) (on e r.End ∷ []) more))
  step-InRange (IfElse l x part m other e) (h, more) =
      let second = rows-behind (rows part) (on m r.Else ∷ (rows other ++ on e r.End ∷ [])) more in (
        h.0,
        term-InRange x h.1,
        block-InRange part (rows-front (rows part) (on m r.Else ∷ (rows other ++ on e r.End ∷ [])) more),
        block-InRange other (rows-front (rows other) (on e r.End ∷ []) second.1),
      )
  step-InRange (Repeat l x part e) (h, more) = (h.0, term-InRange x h.1, block-InRange part (rows-front (rows part) (on e r.End ∷ []) more))
  step-InRange (Withdraw l) (h, more) = h.0

  block-InRange : (b : Block) → Rows (rows b) → BlockInRange b
  block-InRange End h = tt
  block-InRange (Then x b) h = (step-InRange x (rows-front (step_rows x) (rows b) h), block-InRange b (rows-behind (step_rows x) (rows b) h))

pub printable-InRange : (greatest : ℕ) (script : Block) → IsPrintable greatest script → BlockInRange script
printable-InRange greatest script p = block-InRange script (rows-fit greatest 1 (rows script) (omega arith) p.rising p.lines p.limits)
