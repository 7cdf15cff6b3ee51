-- No token of an expression is a bracket.
use Rattle.expression_form.proofs.Names.{◌≡◌, ℕ, zero, suc, ◌+◌, Bool, true, false, List, [], ◌∷◌, ◌++◌, refl, sym, subst, Token, Prefix, Infix, Call, Term, Number, Text, Nothing, Name, Before, Between, Applied, Given, infix_level, left_level, prefix_level, infix_token, prefix_token, call_token, enclosed, wrapped, Bare, SpellsAt, Spells}
use Rattle.token_form.specs.declared.tokens.Token.TheVariants as t
use Rattle.token_form.specs.declared.tokens.Sign.TheVariants as g
use Rattle.value_form.specs.declared.expressions.Prefix.TheVariants as p
use Rattle.value_form.specs.declared.expressions.Infix.TheVariants as i
use Rattle.value_form.specs.declared.expressions.Call.TheVariants as c

abbrev pub is_bracket : Token → Bool
is_bracket (t.Sign g.CloseBracket) = true
is_bracket _ = false

-- none is `]`
abbrev pub NoBracket : List Token → Type 0
NoBracket [] = Unit {0}
NoBracket (token ∷ more) = (is_bracket token ≡ false) × NoBracket more

NoBracket-append : (ts us : List Token) → NoBracket ts → NoBracket us → NoBracket (ts ++ us)
NoBracket-append [] us a b = b
NoBracket-append (token ∷ ts) us (is, more) b = (is, NoBracket-append ts us more b)

NoBracket-enclosed : (ts : List Token) → NoBracket ts → NoBracket (enclosed ts)
NoBracket-enclosed ts a = (refl, NoBracket-append ts (t.Sign g.Close ∷ []) a (refl, tt))

NoBracket-wrapped : (n : ℕ) (ts : List Token) → NoBracket ts → NoBracket (wrapped n ts)
NoBracket-wrapped zero ts a = a
NoBracket-wrapped (suc n) ts a = NoBracket-enclosed (wrapped n ts) (NoBracket-wrapped n ts a)

is_bracket-infix : (o : Infix) → is_bracket (infix_token o) ≡ false
is_bracket-infix i.Or = refl
is_bracket-infix i.And = refl
is_bracket-infix i.Equal = refl
is_bracket-infix i.NotEqual = refl
is_bracket-infix i.Less = refl
is_bracket-infix i.LessEqual = refl
is_bracket-infix i.Greater = refl
is_bracket-infix i.GreaterEqual = refl
is_bracket-infix i.Add = refl
is_bracket-infix i.Subtract = refl
is_bracket-infix i.Join = refl
is_bracket-infix i.Multiply = refl
is_bracket-infix i.Divide = refl
is_bracket-infix i.Modulo = refl

is_bracket-prefix : (o : Prefix) → is_bracket (prefix_token o) ≡ false
is_bracket-prefix p.Not = refl
is_bracket-prefix p.Minus = refl

is_bracket-call : (f : Call) → is_bracket (call_token f) ≡ false
is_bracket-call c.Len = refl
is_bracket-call c.Text = refl

at_no_bracket : (x : Term) (l : ℕ) (ts : List Token) → SpellsAt l x ts → ((us : List Token) → Bare x us → NoBracket us) → NoBracket ts
at_no_bracket x l ts (n, us, is, le, bare) go = subst NoBracket (sym is) (NoBracket-wrapped n us (go us bare))

bare_no_bracket : (x : Term) (ts : List Token) → Bare x ts → NoBracket ts
bare_no_bracket (Number n) ts is = subst NoBracket (sym is) (refl, tt)
bare_no_bracket (Text b) ts is = subst NoBracket (sym is) (refl, tt)
bare_no_bracket Nothing ts is = subst NoBracket (sym is) (refl, tt)
bare_no_bracket (Name n) ts is = subst NoBracket (sym is) (refl, tt)
bare_no_bracket (Before o x) ts (us, is, at) = subst NoBracket (sym is) (is_bracket-prefix o, at_no_bracket x (prefix_level o) us at (bare_no_bracket x))
bare_no_bracket (Between o x y) ts (us, vs, is, at_x, at_y) =
    subst NoBracket (sym is)
    (NoBracket-append us (infix_token o ∷ vs) (at_no_bracket x (left_level o) us at_x (bare_no_bracket x)) (is_bracket-infix o, at_no_bracket y (infix_level o + 1) vs at_y (bare_no_bracket y)))
bare_no_bracket (Applied f x) ts (us, is, at) = subst NoBracket (sym is) (is_bracket-call f, NoBracket-enclosed us (at_no_bracket x 0 us at (bare_no_bracket x)))
bare_no_bracket (Given x y) ts (us, vs, is, at_x, at_y) =
    subst NoBracket (sym is)
    (refl, NoBracket-enclosed (us ++ t.Sign g.Comma ∷ vs) (NoBracket-append us (t.Sign g.Comma ∷ vs) (at_no_bracket x 0 us at_x (bare_no_bracket x)) (refl, at_no_bracket y 0 vs at_y (bare_no_bracket y))))

pub spelled_no_bracket : (x : Term) (ts : List Token) → Spells x ts → NoBracket ts
spelled_no_bracket x ts at = at_no_bracket x 0 ts at (bare_no_bracket x)
