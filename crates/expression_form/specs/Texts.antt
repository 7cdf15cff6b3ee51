-- The canonical text of an expression, and which expressions have one.
use Rattle.std.specs.Prelude.{ℕ, ◌+◌, List, [], ◌∷◌, ◌++◌, Bool, codes, if◌then◌else◌}
use Rattle.std.specs.Fmt.{decimal}
use Rattle.value_form.specs.TextForm.{quoted_text}
use Rattle.token_form.specs.declared.tokens.Token.TheVariants as t
use Rattle.token_form.specs.Tokens.{IsToken, spelling}
use Rattle.value_form.specs.declared.expressions.Prefix.{Prefix}
use Rattle.value_form.specs.declared.expressions.Prefix.TheVariants as p
use Rattle.value_form.specs.Mirror.{Term, Number, Text, Nothing, Name, Before, Between, Applied, Given}
use Rattle.expression_form.specs.Levels.{infix_level, left_level, prefix_level, infix_token, call_token}
use Rattle.expression_form.specs.Canonical.{is_looser}

abbrev pub parenthesized_if : Bool → List ℕ → List ℕ
parenthesized_if b bytes = if b then 40 ∷ (bytes ++ 41 ∷ []) else bytes

-- `not` has a space behind it, unary `-` has none
abbrev pub prefix_text : Prefix → List ℕ
prefix_text p.Not = codes "not "
prefix_text p.Minus = codes "-"

-- one space round an operator between operands and after a comma
abbrev pub text : Term → List ℕ
text (Number n) = decimal n
text (Text content) = quoted_text content
text Nothing = codes "nothing"
text (Name name) = name
text (Before o x) = prefix_text o ++ parenthesized_if (is_looser x (prefix_level o)) (text x)
text (Between o x y) =
    parenthesized_if (is_looser x (left_level o)) (text x) ++ (32 ∷ (spelling (infix_token o) ++ (32 ∷ parenthesized_if (is_looser y (infix_level o + 1)) (text y))))
text (Applied f x) = spelling (call_token f) ++ (40 ∷ (text x ++ 41 ∷ []))
text (Given x y) = codes "given(" ++ (text x ++ (codes ", " ++ (text y ++ 41 ∷ [])))

-- its numbers, texts and names are in their limits
abbrev pub InLimits : Term → Type 0
InLimits (Number n) = IsToken (t.Number n)
InLimits (Text content) = IsToken (t.Text content)
InLimits Nothing = Unit {0}
InLimits (Name name) = IsToken (t.Name name)
InLimits (Before o x) = InLimits x
InLimits (Between o x y) = InLimits x × InLimits y
InLimits (Applied f x) = InLimits x
InLimits (Given x y) = InLimits x × InLimits y
