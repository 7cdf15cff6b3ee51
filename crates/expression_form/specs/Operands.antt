-- Operands: expressions that are kept while they are no deeper than 16.
use Rattle.std.specs.Prelude.{ℕ, ◌+◌, max, nat_lt, if◌then◌else◌}
use Rattle.value_form.specs.declared.expressions.Prefix.{Prefix}
use Rattle.value_form.specs.declared.expressions.Infix.{Infix}
use Rattle.value_form.specs.declared.expressions.Call.{Call}
use Rattle.value_form.specs.declared.expressions.Expr.{Expr}
use Rattle.value_form.specs.declared.expressions.Expr.TheVariants as e
use Rattle.value_form.specs.Mirror.{Term, Number, Text, Nothing, Name, Before, Between, Applied, Given}
use Rattle.expression_form.specs.declared.operands.Operand.{Operand}
use Rattle.expression_form.specs.declared.operands.Operand.TheVariants.{Built, Deep}

-- a new expression over operands of depth n
abbrev pub kept : Expr → ℕ → Operand
kept x n = if nat_lt n 16 then Built x (n + 1) else Deep

abbrev pub single : Expr → Operand
single x = Built x 1

abbrev pub before : Prefix → Operand → Operand
before o (Built x n) = kept (e.Prefix o x) n
before o Deep = Deep

abbrev pub applied : Call → Operand → Operand
applied f (Built x n) = kept (e.Call f x) n
applied f Deep = Deep

abbrev pub between : Infix → Operand → Operand → Operand
between o (Built x n) (Built y m) = kept (e.Infix o x y) (max n m)
between o (Built x n) Deep = Deep
between o Deep y = Deep

abbrev pub given : Operand → Operand → Operand
given (Built x n) (Built y m) = kept (e.Given x y) (max n m)
given (Built x n) Deep = Deep
given Deep y = Deep

-- the operand of an expression
abbrev pub operand_of : Term → Operand
operand_of (Number n) = single (e.Number n)
operand_of (Text bytes) = single (e.Text bytes)
operand_of Nothing = single e.Nothing
operand_of (Name name) = single (e.Name name)
operand_of (Before o x) = before o (operand_of x)
operand_of (Between o x y) = between o (operand_of x) (operand_of y)
operand_of (Applied f x) = applied f (operand_of x)
operand_of (Given x y) = given (operand_of x) (operand_of y)
