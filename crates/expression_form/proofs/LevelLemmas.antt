-- Facts on the levels of operators, and on their tokens.
use Rattle.expression_form.proofs.Names.{◌≡◌, ◌≢◌, ℕ, ◌<◌, ◌≤◌, Bool, true, false, Option, Some, None, refl, ap, arith, nat_le, if◌then◌else◌, le-leb, lt-leb, leb-true, leb-false, Token, Prefix, Infix, infix_level, left_level, prefix_level, infix_token, infix_of}
use Rattle.token_form.specs.declared.tokens.Token.TheVariants as t
use Rattle.token_form.specs.declared.tokens.Word.TheVariants as w
use Rattle.token_form.specs.declared.tokens.Sign.TheVariants as g
use Rattle.value_form.specs.declared.expressions.Prefix.TheVariants as p
use Rattle.value_form.specs.declared.expressions.Infix.TheVariants as i

-- the left operand's level is no lower than the operator's, both are below unary minus, and no operator between operands has the level of `not`
pub infix_levels : (o : Infix) → (infix_level o ≤ left_level o) × (left_level o ≤ 5) × (infix_level o ≢ 2)
infix_levels i.Or = (omega arith, omega arith, λ h. omega arith)
infix_levels i.And = (omega arith, omega arith, λ h. omega arith)
infix_levels i.Equal = (omega arith, omega arith, λ h. omega arith)
infix_levels i.NotEqual = (omega arith, omega arith, λ h. omega arith)
infix_levels i.Less = (omega arith, omega arith, λ h. omega arith)
infix_levels i.LessEqual = (omega arith, omega arith, λ h. omega arith)
infix_levels i.Greater = (omega arith, omega arith, λ h. omega arith)
infix_levels i.GreaterEqual = (omega arith, omega arith, λ h. omega arith)
infix_levels i.Add = (omega arith, omega arith, λ h. omega arith)
infix_levels i.Subtract = (omega arith, omega arith, λ h. omega arith)
infix_levels i.Join = (omega arith, omega arith, λ h. omega arith)
infix_levels i.Multiply = (omega arith, omega arith, λ h. omega arith)
infix_levels i.Divide = (omega arith, omega arith, λ h. omega arith)
infix_levels i.Modulo = (omega arith, omega arith, λ h. omega arith)

pub left_ge : (o : Infix) → infix_level o ≤ left_level o
left_ge o = (infix_levels o).0

pub left_le : (o : Infix) → left_level o ≤ 5
left_le o = (infix_levels o).1

pub infix_le : (o : Infix) → infix_level o ≤ 5
infix_le o = omega (arith, left_ge o, left_le o)

pub prefix_le : (o : Prefix) → prefix_level o ≤ 6
prefix_le p.Not = omega arith
prefix_le p.Minus = omega arith

below : (q : Prefix) (n : ℕ) → n ≢ 2 → n ≤ 5 → prefix_level q ≤ n → prefix_level q < n
below p.Not n h k le = omega arith
below p.Minus n h k le = omega arith

-- no operator between operands stands at a prefix's level
pub apart : (q : Prefix) (o : Infix) → prefix_level q ≤ infix_level o → prefix_level q < infix_level o
apart q o = below q (infix_level o) (infix_levels o).2 (infix_le o)

pub infix_of-token : (o : Infix) → infix_of (infix_token o) ≡ Some o
infix_of-token i.Or = refl
infix_of-token i.And = refl
infix_of-token i.Equal = refl
infix_of-token i.NotEqual = refl
infix_of-token i.Less = refl
infix_of-token i.LessEqual = refl
infix_of-token i.Greater = refl
infix_of-token i.GreaterEqual = refl
infix_of-token i.Add = refl
infix_of-token i.Subtract = refl
infix_of-token i.Join = refl
infix_of-token i.Multiply = refl
infix_of-token i.Divide = refl
infix_of-token i.Modulo = refl

abbrev pub IsInfix : Option Infix → Token → Type 0
IsInfix (Some o) token = token ≡ infix_token o
IsInfix None token = Unit {0}

pub infix_of-is : (token : Token) → IsInfix (infix_of token) token
infix_of-is (t.Word w.Or) = refl
infix_of-is (t.Word w.And) = refl
infix_of-is (t.Word w.Mod) = refl
infix_of-is (t.Sign g.Equal) = refl
infix_of-is (t.Sign g.NotEqual) = refl
infix_of-is (t.Sign g.Less) = refl
infix_of-is (t.Sign g.LessEqual) = refl
infix_of-is (t.Sign g.Greater) = refl
infix_of-is (t.Sign g.GreaterEqual) = refl
infix_of-is (t.Sign g.Plus) = refl
infix_of-is (t.Sign g.Minus) = refl
infix_of-is (t.Sign g.Ampersand) = refl
infix_of-is (t.Sign g.Star) = refl
infix_of-is (t.Sign g.Slash) = refl
infix_of-is _ = tt

-- ---- choices by a comparison

pub chosen-le : {A : Type 0} (a b : ℕ) (x y : A) → a ≤ b → (if nat_le a b then x else y) ≡ x
chosen-le a b x y h = ap (λ c. if c then x else y) (le-leb a b h)

pub chosen-gt : {A : Type 0} (a b : ℕ) (x y : A) → b < a → (if nat_le a b then x else y) ≡ y
chosen-gt a b x y h = ap (λ c. if c then x else y) (lt-leb a b h)

-- what holds of both holds of the choice
pub chosen : {A : Type 0} (P : A → Type 0) (a b : ℕ) (x y : A) → (a ≤ b → P x) → (b < a → P y) → P (if nat_le a b then x else y)
chosen P a b x y px py = at (nat_le a b) refl
  where
    at : (v : Bool) → nat_le a b ≡ v → P (if v then x else y)
    at true is = px (leb-true a b is)
    at false is = py (leb-false a b is)
