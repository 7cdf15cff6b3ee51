-- The numbers of a script of the language are in the range that a run of it wants.
use Rattle.script_form.proofs.Names.{ℕ, List, [], ◌∷◌, ◌++◌, arith, nat_tests, Term, Number, Text, Nothing, Name, Before, Between, Applied, Given, Spot, Fixed, At, Step, Let, Read, Write, Print, If, IfElse, Repeat, Withdraw, Block, End, Then, InLimits, Numbered, on, step_rows, rows, SpotInLimits, RowsInLimits, IsPrintable}
use Rattle.value_form.specs.Ranges.{IsTerm, IsSpot, IsStep, IsBlock}
use Rattle.script_form.specs.Row as r

limits-left : (greatest : ℕ) (xs ys : List Numbered) → RowsInLimits greatest (xs ++ ys) → RowsInLimits greatest xs
limits-left greatest [] ys h = tt
limits-left greatest (x ∷ xs) ys (limits, up_to, more) = (limits, up_to, limits-left greatest xs ys more)

limits-right : (greatest : ℕ) (xs ys : List Numbered) → RowsInLimits greatest (xs ++ ys) → RowsInLimits greatest ys
limits-right greatest [] ys h = h
limits-right greatest (x ∷ xs) ys (limits, up_to, more) = limits-right greatest xs ys more

term-range : (x : Term) → InLimits x → IsTerm x
term-range (Number n) h = let k = h.1 in grind (arith, nat_tests)
term-range (Text b) h = tt
term-range Nothing h = tt
term-range (Name n) h = tt
term-range (Before o x) h = term-range x h
term-range (Between o x y) h = (term-range x h.0, term-range y h.1)
term-range (Applied f x) h = term-range x h
term-range (Given x y) h = (term-range x h.0, term-range y h.1)

spot-range : (place : Spot) → SpotInLimits place → IsSpot place
spot-range (Fixed object) h = tt
spot-range (At n x) h = term-range x h.1

mutual
  step-range : (greatest : ℕ) (x : Step) → RowsInLimits greatest (step_rows x) → IsStep x
  step-range greatest (Let l name x) h = term-range x h.0.1
  step-range greatest (Read l name place) h = spot-range place h.0.1
  step-range greatest (Write l place x) h = (spot-range place h.0.0, term-range x h.0.1)
  step-range greatest (Print l x) h = term-range x h.0
  step-range greatest (If l x part e) (limits, up_to, more) = (term-range x limits, block-range greatest part (limits-left greatest (rows part) (on e r.End ∷ []) more))
  step-range greatest (IfElse l x part m other e) (limits, up_to, more) =
      let second = limits-right greatest (rows part) (on m r.Else ∷ (rows other ++ on e r.End ∷ [])) more in (
        term-range x limits,
        block-range greatest part (limits-left greatest (rows part) (on m r.Else ∷ (rows other ++ on e r.End ∷ [])) more),
        block-range greatest other (limits-left greatest (rows other) (on e r.End ∷ []) second.2),
      )
  step-range greatest (Repeat l x part e) (limits, up_to, more) = (term-range x limits, block-range greatest part (limits-left greatest (rows part) (on e r.End ∷ []) more))
  step-range greatest (Withdraw l) h = tt

  block-range : (greatest : ℕ) (b : Block) → RowsInLimits greatest (rows b) → IsBlock b
  block-range greatest End h = tt
  block-range greatest (Then x b) h = (step-range greatest x (limits-left greatest (step_rows x) (rows b) h), block-range greatest b (limits-right greatest (step_rows x) (rows b) h))

pub printable-range : (greatest : ℕ) (script : Block) → IsPrintable greatest script → IsBlock script
printable-range greatest script p = block-range greatest script p.limits
