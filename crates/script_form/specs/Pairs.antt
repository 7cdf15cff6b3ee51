-- What reading two lists of tokens as expressions gives.
use Rattle.std.specs.Prelude.{◌<◌, ◌≤◌, max, List, Result, Ok, Err}
use Rattle.token_form.specs.declared.tokens.Token.{Token}
use Rattle.value_form.specs.declared.expressions.Expr.{Expr}
use Rattle.value_form.specs.Mirror.{Term, term}
use Rattle.expression_form.specs.declared.read_faults.ReadFault.{ReadFault}
use Rattle.expression_form.specs.declared.read_faults.ReadFault.TheVariants.{Syntax, Depth, NoMemory}
use Rattle.expression_form.specs.Depth.{depth}
use Rattle.expression_form.specs.Grammar.{Spells}

abbrev pub ReadsBoth : List Token → List Token → Result (Expr × Expr) ReadFault → Type 0
ReadsBoth ts us (Ok p) = Spells (term p.0) ts × Spells (term p.1) us × (depth (term p.0) ≤ 16) × (depth (term p.1) ≤ 16)
ReadsBoth ts us (Err Syntax) = (x y : Term) → Spells x ts → Spells y us → ⊥
ReadsBoth ts us (Err Depth) = (x y : Term) × Spells x ts × Spells y us × (16 < max (depth x) (depth y))
ReadsBoth ts us (Err NoMemory) = Unit {0}

-- of two faults, the one that comes first on a line: too deep is said only where nothing else is wrong
abbrev pub first_of : ReadFault → ReadFault → ReadFault
first_of Depth e = e
first_of e _ = e

abbrev pub both : Result Expr ReadFault → Result Expr ReadFault → Result (Expr × Expr) ReadFault
both (Ok x) (Ok y) = Ok (x, y)
both (Ok x) (Err e) = Err e
both (Err e) (Ok y) = Err e
both (Err e) (Err f) = Err (first_of e f)
