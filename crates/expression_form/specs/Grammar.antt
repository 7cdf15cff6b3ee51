-- Which lists of tokens spell an expression.
use Rattle.std.specs.Prelude.{◌≡◌, ℕ, zero, suc, ◌+◌, ◌≤◌, List, [], ◌∷◌, ◌++◌}
use Rattle.token_form.specs.declared.tokens.Token.{Token}
use Rattle.token_form.specs.declared.tokens.Token.TheVariants as t
use Rattle.token_form.specs.declared.tokens.Word.TheVariants as w
use Rattle.token_form.specs.declared.tokens.Sign.TheVariants as g
use Rattle.value_form.specs.Mirror.{Term, Number, Text, Nothing, Name, Before, Between, Applied, Given}
use Rattle.expression_form.specs.Levels.{infix_level, left_level, prefix_level, infix_token, prefix_token, call_token}

-- in one pair of parentheses
abbrev pub enclosed : List Token → List Token
enclosed ts = t.Sign g.Open ∷ (ts ++ t.Sign g.Close ∷ [])

-- in n pairs
abbrev pub wrapped : ℕ → List Token → List Token
wrapped zero ts = ts
wrapped (suc n) ts = enclosed (wrapped n ts)

-- the level of an expression: that of its outermost operator, or 7 where that is none
abbrev pub level_of : Term → ℕ
level_of (Before o x) = prefix_level o
level_of (Between o x y) = infix_level o
level_of _ = 7

-- its level in n pairs of parentheses
abbrev pub level_in : ℕ → Term → ℕ
level_in zero x = level_of x
level_in (suc n) x = 7

-- an expression, in some pairs of parentheses, where this level is needed; bare says what it is without them
abbrev pub At : (List Token → Type 0) → Term → ℕ → List Token → Type 0
At bare x level ts = (n : ℕ) × (us : List Token) × (ts ≡ wrapped n us) × (level ≤ level_in n x) × bare us

-- an expression without parentheses round it
abbrev pub Bare : Term → List Token → Type 0
Bare (Number n) ts = ts ≡ t.Number n ∷ []
Bare (Text bytes) ts = ts ≡ t.Text bytes ∷ []
Bare Nothing ts = ts ≡ t.Word w.Nothing ∷ []
Bare (Name name) ts = ts ≡ t.Name name ∷ []
Bare (Before o x) ts = (us : List Token) × (ts ≡ prefix_token o ∷ us) × At (Bare x) x (prefix_level o) us
Bare (Between o x y) ts =
    (us vs : List Token) × (ts ≡ us ++ infix_token o ∷ vs) × At (Bare x) x (left_level o) us × At (Bare y) y (infix_level o + 1) vs
Bare (Applied f x) ts = (us : List Token) × (ts ≡ call_token f ∷ enclosed us) × At (Bare x) x 0 us
Bare (Given x y) ts =
    (us vs : List Token) × (ts ≡ t.Word w.Given ∷ enclosed (us ++ t.Sign g.Comma ∷ vs)) × At (Bare x) x 0 us × At (Bare y) y 0 vs

-- the tokens spell the expression where an operand of this level is needed
abbrev pub SpellsAt : ℕ → Term → List Token → Type 0
SpellsAt level x ts = At (Bare x) x level ts

-- the tokens spell the expression
abbrev pub Spells : Term → List Token → Type 0
Spells x ts = SpellsAt 0 x ts
