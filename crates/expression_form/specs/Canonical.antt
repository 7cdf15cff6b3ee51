-- The canonical tokens of an expression: exactly the parentheses that the levels need.
use Rattle.std.specs.Prelude.{ℕ, ◌+◌, List, [], ◌∷◌, ◌++◌, Bool, nat_lt, if◌then◌else◌}
use Rattle.token_form.specs.declared.tokens.Token.{Token}
use Rattle.token_form.specs.declared.tokens.Token.TheVariants as t
use Rattle.token_form.specs.declared.tokens.Word.TheVariants as w
use Rattle.token_form.specs.declared.tokens.Sign.TheVariants as g
use Rattle.value_form.specs.Mirror.{Term, Number, Text, Nothing, Name, Before, Between, Applied, Given}
use Rattle.expression_form.specs.Levels.{infix_level, left_level, prefix_level, infix_token, prefix_token, call_token}
use Rattle.expression_form.specs.Grammar.{enclosed, level_of}

-- whether an operand needs parentheses where this level is needed
abbrev pub is_looser : Term → ℕ → Bool
is_looser x level = nat_lt (level_of x) level

abbrev pub enclosed_if : Bool → List Token → List Token
enclosed_if b ts = if b then enclosed ts else ts

abbrev pub canonical : Term → List Token
canonical (Number n) = t.Number n ∷ []
canonical (Text bytes) = t.Text bytes ∷ []
canonical Nothing = t.Word w.Nothing ∷ []
canonical (Name name) = t.Name name ∷ []
canonical (Before o x) = prefix_token o ∷ enclosed_if (is_looser x (prefix_level o)) (canonical x)
canonical (Between o x y) =
    enclosed_if (is_looser x (left_level o)) (canonical x) ++ infix_token o ∷ enclosed_if (is_looser y (infix_level o + 1)) (canonical y)
canonical (Applied f x) = call_token f ∷ enclosed (canonical x)
canonical (Given x y) = t.Word w.Given ∷ enclosed (canonical x ++ t.Sign g.Comma ∷ canonical y)
