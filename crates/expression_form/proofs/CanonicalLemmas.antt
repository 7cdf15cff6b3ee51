-- The canonical tokens spell the expression, and are in their limits.
use Rattle.expression_form.proofs.Names.{◌≡◌, ℕ, zero, suc, ◌+◌, ◌≤◌, Bool, true, false, List, [], ◌∷◌, ◌++◌, refl, subst, arith, nat_lt, ltb-false, Token, IsToken, AreTokens, opens_object, spelling, Prefix, Infix, Call, Term, Number, Text, Nothing, Name, Before, Between, Applied, Given, infix_level, left_level, prefix_level, infix_token, prefix_token, call_token, enclosed, wrapped, level_of, Bare, SpellsAt, Spells, is_looser, enclosed_if, canonical, InLimits}
use Rattle.token_form.specs.declared.tokens.Token.TheVariants as t
use Rattle.token_form.specs.declared.tokens.Sign.TheVariants as g
use Rattle.token_form.specs.Tokens as tokens
use Rattle.value_form.specs.declared.expressions.Prefix.TheVariants as p
use Rattle.value_form.specs.declared.expressions.Infix.TheVariants as i
use Rattle.value_form.specs.declared.expressions.Call.TheVariants as c
use Rattle.expression_form.proofs.LevelLemmas.{infix_le, left_le, prefix_le}

-- ---- they spell it

enclosed_if-spells : (x : Term) (l : ℕ) (us : List Token) → l ≤ 7 → Bare x us → SpellsAt l x (enclosed_if (is_looser x l) us)
enclosed_if-spells x l us le bare = at (nat_lt (level_of x) l) refl
  where
    at : (v : Bool) → nat_lt (level_of x) l ≡ v → SpellsAt l x (enclosed_if v us)
    at true is = (1, us, refl, le, bare)
    at false is = (0, us, refl, ltb-false (level_of x) l is, bare)

canonical-bare : (x : Term) → Bare x (canonical x)
canonical-bare (Number n) = refl
canonical-bare (Text b) = refl
canonical-bare Nothing = refl
canonical-bare (Name n) = refl
canonical-bare (Before o x) = (_, refl, enclosed_if-spells x (prefix_level o) (canonical x) (omega (arith, prefix_le o)) (canonical-bare x))
canonical-bare (Between o x y) =
    (_, _, refl, enclosed_if-spells x (left_level o) (canonical x) (omega (arith, left_le o)) (canonical-bare x), enclosed_if-spells y (infix_level o + 1) (canonical y) (omega (arith, infix_le o)) (canonical-bare y))
canonical-bare (Applied f x) = (canonical x, refl, (0, canonical x, refl, omega arith, canonical-bare x))
canonical-bare (Given x y) = (canonical x, canonical y, refl, (0, canonical x, refl, omega arith, canonical-bare x), (0, canonical y, refl, omega arith, canonical-bare y))

pub canonical-spells : (x : Term) → Spells x (canonical x)
canonical-spells x = (0, canonical x, refl, omega arith, canonical-bare x)

-- ---- the tokens of operators

-- a token of one spelling, that belongs to no object
abbrev pub IsPlain : Token → Type 0
IsPlain token = tokens.Spells token (spelling token) × IsToken token × (opens_object token ≡ false)

pub infix_token-plain : (o : Infix) → IsPlain (infix_token o)
infix_token-plain i.Or = (refl, (tt, refl), refl)
infix_token-plain i.And = (refl, (tt, refl), refl)
infix_token-plain i.Equal = (refl, (tt, refl), refl)
infix_token-plain i.NotEqual = (refl, (tt, refl), refl)
infix_token-plain i.Less = (refl, (tt, refl), refl)
infix_token-plain i.LessEqual = (refl, (tt, refl), refl)
infix_token-plain i.Greater = (refl, (tt, refl), refl)
infix_token-plain i.GreaterEqual = (refl, (tt, refl), refl)
infix_token-plain i.Add = (refl, (tt, refl), refl)
infix_token-plain i.Subtract = (refl, (tt, refl), refl)
infix_token-plain i.Join = (refl, (tt, refl), refl)
infix_token-plain i.Multiply = (refl, (tt, refl), refl)
infix_token-plain i.Divide = (refl, (tt, refl), refl)
infix_token-plain i.Modulo = (refl, (tt, refl), refl)

pub prefix_token-plain : (o : Prefix) → IsPlain (prefix_token o)
prefix_token-plain p.Not = (refl, (tt, refl), refl)
prefix_token-plain p.Minus = (refl, (tt, refl), refl)

pub call_token-plain : (f : Call) → IsPlain (call_token f)
call_token-plain c.Len = (refl, (tt, refl), refl)
call_token-plain c.Text = (refl, (tt, refl), refl)

-- ---- they are in their limits, and belong to no object

-- each is a token of scripts and neither `.` nor `[`
abbrev pub AllFit : List Token → Type 0
AllFit [] = Unit {0}
AllFit (token ∷ more) = IsToken token × (opens_object token ≡ false) × AllFit more

pub AllFit-append : (ts us : List Token) → AllFit ts → AllFit us → AllFit (ts ++ us)
AllFit-append [] us a b = b
AllFit-append (token ∷ ts) us (fits, apart, more) b = (fits, apart, AllFit-append ts us more b)

AllFit-enclosed : (ts : List Token) → AllFit ts → AllFit (enclosed ts)
AllFit-enclosed ts a = ((tt, refl), refl, AllFit-append ts (t.Sign g.Close ∷ []) a ((tt, refl), refl, tt))

AllFit-enclosed_if : (b : Bool) (ts : List Token) → AllFit ts → AllFit (enclosed_if b ts)
AllFit-enclosed_if true ts a = AllFit-enclosed ts a
AllFit-enclosed_if false ts a = a

pub AllFit-canonical : (x : Term) → InLimits x → AllFit (canonical x)
AllFit-canonical (Number n) h = (h, refl, tt)
AllFit-canonical (Text b) h = (h, refl, tt)
AllFit-canonical Nothing h = ((tt, refl), refl, tt)
AllFit-canonical (Name n) h = (h, refl, tt)
AllFit-canonical (Before o x) h = let k = prefix_token-plain o in (k.1, k.2, AllFit-enclosed_if (is_looser x (prefix_level o)) (canonical x) (AllFit-canonical x h))
AllFit-canonical (Between o x y) h = let k = infix_token-plain o in
    AllFit-append (enclosed_if (is_looser x (left_level o)) (canonical x)) (infix_token o ∷ enclosed_if (is_looser y (infix_level o + 1)) (canonical y))
    (AllFit-enclosed_if (is_looser x (left_level o)) (canonical x) (AllFit-canonical x h.0))
    (k.1, k.2, AllFit-enclosed_if (is_looser y (infix_level o + 1)) (canonical y) (AllFit-canonical y h.1))
AllFit-canonical (Applied f x) h = let k = call_token-plain f in (k.1, k.2, AllFit-enclosed (canonical x) (AllFit-canonical x h))
AllFit-canonical (Given x y) h =
    ((tt, refl), refl, AllFit-enclosed (canonical x ++ t.Sign g.Comma ∷ canonical y) (AllFit-append (canonical x) (t.Sign g.Comma ∷ canonical y) (AllFit-canonical x h.0) ((tt, refl), refl, AllFit-canonical y h.1)))

-- ---- and an expression that tokens of scripts spell is in its limits

pub AreTokens-append : (ts us : List Token) → AreTokens (ts ++ us) → AreTokens ts × AreTokens us
AreTokens-append [] us a = (tt, a)
AreTokens-append (token ∷ ts) us (is, more) = let k = AreTokens-append ts us more in ((is, k.0), k.1)

AreTokens-enclosed : (ts : List Token) → AreTokens (enclosed ts) → AreTokens ts
AreTokens-enclosed ts (_, more) = (AreTokens-append ts (t.Sign g.Close ∷ []) more).0

AreTokens-wrapped : (n : ℕ) (ts : List Token) → AreTokens (wrapped n ts) → AreTokens ts
AreTokens-wrapped zero ts a = a
AreTokens-wrapped (suc n) ts a = AreTokens-wrapped n ts (AreTokens-enclosed (wrapped n ts) a)

at-in_limits : (x : Term) (l : ℕ) (ts : List Token) → SpellsAt l x ts → AreTokens ts → ((us : List Token) → Bare x us → AreTokens us → InLimits x) → InLimits x
at-in_limits x l ts (n, us, is, le, bare) a go = go us bare (AreTokens-wrapped n us (subst AreTokens is a))

bare-in_limits : (x : Term) (ts : List Token) → Bare x ts → AreTokens ts → InLimits x
bare-in_limits (Number n) ts is a = (subst AreTokens is a).0
bare-in_limits (Text b) ts is a = (subst AreTokens is a).0
bare-in_limits Nothing ts is a = tt
bare-in_limits (Name n) ts is a = (subst AreTokens is a).0
bare-in_limits (Before o x) ts (us, is, at) a = at-in_limits x (prefix_level o) us at (subst AreTokens is a).1 (bare-in_limits x)
bare-in_limits (Between o x y) ts (us, vs, is, at_x, at_y) a =
    let k = AreTokens-append us (infix_token o ∷ vs) (subst AreTokens is a) in
    (at-in_limits x (left_level o) us at_x k.0 (bare-in_limits x), at-in_limits y (infix_level o + 1) vs at_y k.1.1 (bare-in_limits y))
bare-in_limits (Applied f x) ts (us, is, at) a = at-in_limits x 0 us at (AreTokens-enclosed us (subst AreTokens is a).1) (bare-in_limits x)
bare-in_limits (Given x y) ts (us, vs, is, at_x, at_y) a =
    let k = AreTokens-append us (t.Sign g.Comma ∷ vs) (AreTokens-enclosed (us ++ t.Sign g.Comma ∷ vs) (subst AreTokens is a).1) in
    (at-in_limits x 0 us at_x k.0 (bare-in_limits x), at-in_limits y 0 vs at_y k.1.1 (bare-in_limits y))

pub spelled-in_limits : (x : Term) (ts : List Token) → Spells x ts → AreTokens ts → InLimits x
spelled-in_limits x ts at a = at-in_limits x 0 ts at a (bare-in_limits x)
