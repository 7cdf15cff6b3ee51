-- The operators: how tightly they bind, from the loosest, and their tokens.
use Rattle.std.specs.Prelude.{ℕ}
use Rattle.token_form.specs.declared.tokens.Token.{Token}
use Rattle.token_form.specs.declared.tokens.Token.TheVariants as t
use Rattle.token_form.specs.declared.tokens.Word.TheVariants as w
use Rattle.token_form.specs.declared.tokens.Sign.TheVariants as g
use Rattle.value_form.specs.declared.expressions.Prefix.{Prefix}
use Rattle.value_form.specs.declared.expressions.Prefix.TheVariants as p
use Rattle.value_form.specs.declared.expressions.Infix.{Infix}
use Rattle.value_form.specs.declared.expressions.Infix.TheVariants as i
use Rattle.value_form.specs.declared.expressions.Call.{Call}
use Rattle.value_form.specs.declared.expressions.Call.TheVariants as c

-- `or`, then `and`, the comparisons, `+ - &` and `* / mod`
abbrev pub infix_level : Infix → ℕ
infix_level i.Or = 0
infix_level i.And = 1
infix_level i.Equal = 3
infix_level i.NotEqual = 3
infix_level i.Less = 3
infix_level i.LessEqual = 3
infix_level i.Greater = 3
infix_level i.GreaterEqual = 3
infix_level i.Add = 4
infix_level i.Subtract = 4
infix_level i.Join = 4
infix_level i.Multiply = 5
infix_level i.Divide = 5
infix_level i.Modulo = 5

-- the level that a left operand needs: operators of one level group to the left, but two comparisons don't stand in a row
abbrev pub left_level : Infix → ℕ
left_level i.Or = 0
left_level i.And = 1
left_level i.Equal = 4
left_level i.NotEqual = 4
left_level i.Less = 4
left_level i.LessEqual = 4
left_level i.Greater = 4
left_level i.GreaterEqual = 4
left_level i.Add = 4
left_level i.Subtract = 4
left_level i.Join = 4
left_level i.Multiply = 5
left_level i.Divide = 5
left_level i.Modulo = 5

-- `not` is between `and` and the comparisons, and unary `-` is the tightest
abbrev pub prefix_level : Prefix → ℕ
prefix_level p.Not = 2
prefix_level p.Minus = 6

abbrev pub infix_token : Infix → Token
infix_token i.Or = t.Word w.Or
infix_token i.And = t.Word w.And
infix_token i.Equal = t.Sign g.Equal
infix_token i.NotEqual = t.Sign g.NotEqual
infix_token i.Less = t.Sign g.Less
infix_token i.LessEqual = t.Sign g.LessEqual
infix_token i.Greater = t.Sign g.Greater
infix_token i.GreaterEqual = t.Sign g.GreaterEqual
infix_token i.Add = t.Sign g.Plus
infix_token i.Subtract = t.Sign g.Minus
infix_token i.Join = t.Sign g.Ampersand
infix_token i.Multiply = t.Sign g.Star
infix_token i.Divide = t.Sign g.Slash
infix_token i.Modulo = t.Word w.Mod

abbrev pub prefix_token : Prefix → Token
prefix_token p.Not = t.Word w.Not
prefix_token p.Minus = t.Sign g.Minus

abbrev pub call_token : Call → Token
call_token c.Len = t.Word w.Len
call_token c.Text = t.Word w.Text
