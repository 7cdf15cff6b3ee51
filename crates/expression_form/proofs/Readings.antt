-- What the operand that was read says of the tokens.
use Rattle.expression_form.proofs.Names.{◌≡◌, ℕ, ◌<◌, inl, inr, List, Some, None, sym, ap, ◌∙◌, subst, arith, Token, Expr, Term, term, made, term-made, Operand, Built, Deep, Spells, depth, IsShallow, operand_of, operand_read}
use Rattle.expression_form.proofs.DepthLemmas.{Keeps, operand_keeps}
use Rattle.expression_form.proofs.SpelledIsRead.{spelled_is_read}
use Rattle.expression_form.proofs.ReadIsSpelled.{Writes, OnWritten, read_is_spelled}

-- a kept operand is its expression, no deeper than 16
built_is : (y : Term) (x : Expr) (n : ℕ) → operand_of y ≡ Built x n → (made y ≡ x) × IsShallow y
built_is y x n is = at (operand_keeps y)
  where
    at : Keeps (operand_of y) (made y) (depth y) → (made y ≡ x) × IsShallow y
    at (inl (le, built)) = let e : Built (made y) (depth y) ≡ Built x n = sym built ∙ is in (cc, le)
    at (inr (lt, deep)) = let e : Deep ≡ Built x n = sym deep ∙ is in absurd (let no : ⊥ = cc in no)

deep_is : (y : Term) → operand_of y ≡ Deep → 16 < depth y
deep_is y is = at (operand_keeps y)
  where
    at : Keeps (operand_of y) (made y) (depth y) → 16 < depth y
    at (inl (le, built)) = let e : Built (made y) (depth y) ≡ Deep = sym built ∙ is in absurd (let no : ⊥ = cc in no)
    at (inr (lt, deep)) = lt

written : (ts : List Token) (x : Operand) → operand_read ts ≡ Some x → Writes x 0 ts
written ts x is = subst (λ o. OnWritten o ts) is (read_is_spelled ts)

pub built-spells : (ts : List Token) (x : Expr) (n : ℕ) → operand_read ts ≡ Some (Built x n) → Spells (term x) ts × IsShallow (term x)
built-spells ts x n is =
    let (y, is_x, spells) = written ts (Built x n) is in
    let (same, le) = built_is y x n is_x in
    let again : y ≡ term x = sym (term-made y) ∙ ap term same in
    (subst (λ z. Spells z ts) again spells, subst IsShallow again le)

pub deep-spells : (ts : List Token) → operand_read ts ≡ Some Deep → (x : Term) × Spells x ts × (16 < depth x)
deep-spells ts is = let (y, is_x, spells) = written ts Deep is in (y, spells, deep_is y is_x)

pub none-spells : (ts : List Token) → operand_read ts ≡ None → (x : Term) → Spells x ts → ⊥
none-spells ts is x spells = let e : None ≡ Some (operand_of x) = sym is ∙ spelled_is_read x ts spells in let no : ⊥ = cc in no

-- an expression no deeper than 16 is the only one that its tokens spell
pub one_expression : (x y : Term) (ts : List Token) → Spells x ts → Spells y ts → IsShallow x → x ≡ y
one_expression x y ts spells_x spells_y le = at (operand_keeps x)
  where
    same : Some (operand_of x) ≡ Some (operand_of y)
    same = sym (spelled_is_read x ts spells_x) ∙ spelled_is_read y ts spells_y

    at : Keeps (operand_of x) (made x) (depth x) → x ≡ y
    at (inl (_, built)) =
        let e : Some (operand_of y) ≡ Some (Built (made x) (depth x)) = sym same ∙ ap Some built in
        let is : made y ≡ made x = (built_is y (made x) (depth x) cc).0 in
        sym (term-made x) ∙ ap term (sym is) ∙ term-made y
    at (inr (lt, _)) = absurd (let no : ⊥ = omega arith in no)
