-- The plain tree of a script and the script are the same: each is made back from the other.
use Rattle.std.specs.Prelude.{◌≡◌, ℕ, List, [], ◌∷◌, map, refl}
use Rattle.std.proofs.Common.{ap, sym, ◌∙◌, subst}
use Rattle.value_form.specs.declared.expressions.Prefix.{Prefix}
use Rattle.value_form.specs.declared.expressions.Infix.{Infix}
use Rattle.value_form.specs.declared.expressions.Call.{Call}
use Rattle.value_form.specs.declared.expressions.Expr.{Expr}
use Rattle.value_form.specs.declared.expressions.Expr.TheVariants as e
use Rattle.value_form.specs.declared.expressions.Expr.TheOpen.{Expr-F}
use Rattle.value_form.specs.declared.expressions.Expr.TheViews.{roll-Expr}
use Rattle.value_form.specs.declared.expressions.Expr.TheFolds.{fold-roll-Expr, ind-Expr, map-Expr}
use Rattle.value_form.specs.declared.scripts.Target.{Target}
use Rattle.value_form.specs.declared.scripts.Target.TheVariants as p
use Rattle.value_form.specs.declared.scripts.Stmt.{Stmt, out-Stmt}
use Rattle.value_form.specs.declared.scripts.Stmt.TheVariants as s
use Rattle.value_form.specs.declared.scripts.Stmt.TheOpen.{Stmt-F}
use Rattle.value_form.specs.declared.scripts.Stmt.TheViews.{roll-Stmt}
use Rattle.value_form.specs.declared.scripts.Stmt.TheFolds.{fold-roll-Stmt, fold_out-Stmt, ind-Stmt, map-Stmt}
use Rattle.value_form.specs.Mirror.{Term, Number, Text, Nothing, Name, Before, Between, Applied, Given, Spot, Fixed, At, Step, Let, Read, Write, Print, If, IfElse, Repeat, Withdraw, Block, End, Then, term, term_layer, spot, block_of, step_layer, plain, block}

-- the expression of a plain tree
abbrev pub made : Term → Expr
made (Number n) = e.Number n
made (Text bytes) = e.Text bytes
made Nothing = e.Nothing
made (Name name) = e.Name name
made (Before o x) = e.Prefix o (made x)
made (Between o x y) = e.Infix o (made x) (made y)
made (Applied f x) = e.Call f (made x)
made (Given x y) = e.Given (made x) (made y)

abbrev pub made_place : Spot → Target
made_place (Fixed object) = p.Fixed object
made_place (At repository x) = p.At repository (made x)

-- the statements of a plain tree
abbrev mutual
  pub made_step : Step → Stmt
  made_step (Let l name x) = s.Let l name (made x)
  made_step (Read l name place) = s.Read l name (made_place place)
  made_step (Write l place x) = s.Write l (made_place place) (made x)
  made_step (Print l x) = s.Print l (made x)
  made_step (If l x part e) = s.If l (made x) (made_all part) e
  made_step (IfElse l x first m second e) = s.IfElse l (made x) (made_all first) m (made_all second) e
  made_step (Repeat l x part e) = s.Repeat l (made x) (made_all part) e
  made_step (Withdraw l) = s.Withdraw l

  pub made_all : Block → List Stmt
  made_all End = []
  made_all (Then x b) = made_step x ∷ made_all b

-- ---- one equation a kind of node

pub term-prefix : (o : Prefix) (x : Expr) → term (e.Prefix o x) ≡ Before o (term x)
term-prefix o x = ap term (sym (e.rolls-Prefix o x)) ∙ fold-roll-Expr Term term_layer (Expr-F.Prefix o x)

pub term-infix : (o : Infix) (x y : Expr) → term (e.Infix o x y) ≡ Between o (term x) (term y)
term-infix o x y = ap term (sym (e.rolls-Infix o x y)) ∙ fold-roll-Expr Term term_layer (Expr-F.Infix o x y)

pub term-call : (f : Call) (x : Expr) → term (e.Call f x) ≡ Applied f (term x)
term-call f x = ap term (sym (e.rolls-Call f x)) ∙ fold-roll-Expr Term term_layer (Expr-F.Call f x)

pub term-given : (x y : Expr) → term (e.Given x y) ≡ Given (term x) (term y)
term-given x y = ap term (sym (e.rolls-Given x y)) ∙ fold-roll-Expr Term term_layer (Expr-F.Given x y)

pub block_of-map : (b : List Stmt) → block_of (map plain b) ≡ block b
block_of-map [] = refl
block_of-map (x ∷ b) = ap (Then (plain x)) (block_of-map b)

-- one statement, its parts as blocks
abbrev pub shape : Stmt-F Stmt → Step
shape (Stmt-F.Let l name x) = Let l name (term x)
shape (Stmt-F.Read l name place) = Read l name (spot place)
shape (Stmt-F.Write l place x) = Write l (spot place) (term x)
shape (Stmt-F.Print l x) = Print l (term x)
shape (Stmt-F.If l x part e) = If l (term x) (block part) e
shape (Stmt-F.IfElse l x first m second e) = IfElse l (term x) (block first) m (block second) e
shape (Stmt-F.Repeat l x part e) = Repeat l (term x) (block part) e
shape (Stmt-F.Withdraw l) = Withdraw l

shape-layer : (x : Stmt-F Stmt) → step_layer (map-Stmt Stmt Step plain x) ≡ shape x
shape-layer (Stmt-F.Let l name x) = refl
shape-layer (Stmt-F.Read l name place) = refl
shape-layer (Stmt-F.Write l place x) = refl
shape-layer (Stmt-F.Print l x) = refl
shape-layer (Stmt-F.If l x part e) = ap (λ z. If l (term x) z e) (block_of-map part)
shape-layer (Stmt-F.IfElse l x first m second e) =
    ap (λ z. IfElse l (term x) z m (block_of (map plain second)) e) (block_of-map first)
    ∙ ap (λ z. IfElse l (term x) (block first) m z e) (block_of-map second)
shape-layer (Stmt-F.Repeat l x part e) = ap (λ z. Repeat l (term x) z e) (block_of-map part)
shape-layer (Stmt-F.Withdraw l) = refl

-- a statement from what it opens to
pub plain-out : (x : Stmt) → plain x ≡ shape (out-Stmt x)
plain-out x = fold_out-Stmt Step step_layer x ∙ shape-layer (out-Stmt x)

pub plain-if : (l : ℕ) (x : Expr) (part : List Stmt) (e : ℕ) → plain (s.If l x part e) ≡ If l (term x) (block part) e
plain-if l x part e = ap plain (sym (s.rolls-If l x part e)) ∙ fold-roll-Stmt Step step_layer (Stmt-F.If l x part e) ∙ shape-layer (Stmt-F.If l x part e)

pub plain-if_else : (l : ℕ) (x : Expr) (first : List Stmt) (m : ℕ) (second : List Stmt) (e : ℕ) → plain (s.IfElse l x first m second e) ≡ IfElse l (term x) (block first) m (block second) e
plain-if_else l x first m second e = ap plain (sym (s.rolls-IfElse l x first m second e)) ∙ fold-roll-Stmt Step step_layer (Stmt-F.IfElse l x first m second e) ∙ shape-layer (Stmt-F.IfElse l x first m second e)

pub plain-repeat : (l : ℕ) (x : Expr) (part : List Stmt) (e : ℕ) → plain (s.Repeat l x part e) ≡ Repeat l (term x) (block part) e
plain-repeat l x part e = ap plain (sym (s.rolls-Repeat l x part e)) ∙ fold-roll-Stmt Step step_layer (Stmt-F.Repeat l x part e) ∙ shape-layer (Stmt-F.Repeat l x part e)

-- ---- an expression is made back from its plain tree

abbrev Again : Expr → Type 0
Again x = made (term x) ≡ x

again_at : (y : Expr-F ((x : Expr) × Again x)) → Again (roll-Expr (map-Expr ((x : Expr) × Again x) Expr (λ q. q.0) y))
again_at (Expr-F.Number n) = ap made (fold-roll-Expr Term term_layer (Expr-F.Number n)) ∙ sym (e.rolls-Number n)
again_at (Expr-F.Text b) = ap made (fold-roll-Expr Term term_layer (Expr-F.Text b)) ∙ sym (e.rolls-Text b)
again_at Expr-F.Nothing = ap made (fold-roll-Expr Term term_layer Expr-F.Nothing) ∙ sym e.rolls-Nothing
again_at (Expr-F.Name n) = ap made (fold-roll-Expr Term term_layer (Expr-F.Name n)) ∙ sym (e.rolls-Name n)
again_at (Expr-F.Prefix o a) = ap made (fold-roll-Expr Term term_layer (Expr-F.Prefix o a.0)) ∙ ap (e.Prefix o) a.1 ∙ sym (e.rolls-Prefix o a.0)
again_at (Expr-F.Infix o a b) = ap made (fold-roll-Expr Term term_layer (Expr-F.Infix o a.0 b.0)) ∙ ap (λ z. e.Infix o z (made (term b.0))) a.1 ∙ ap (e.Infix o a.0) b.1 ∙ sym (e.rolls-Infix o a.0 b.0)
again_at (Expr-F.Call f a) = ap made (fold-roll-Expr Term term_layer (Expr-F.Call f a.0)) ∙ ap (e.Call f) a.1 ∙ sym (e.rolls-Call f a.0)
again_at (Expr-F.Given a b) = ap made (fold-roll-Expr Term term_layer (Expr-F.Given a.0 b.0)) ∙ ap (λ z. e.Given z (made (term b.0))) a.1 ∙ ap (e.Given a.0) b.1 ∙ sym (e.rolls-Given a.0 b.0)

pub made-term : (x : Expr) → made (term x) ≡ x
made-term = ind-Expr Again (λ x y is. subst (λ z. Again (roll-Expr z)) is (again_at y))

pub term-made : (x : Term) → term (made x) ≡ x
term-made (Number n) = ap term (sym (e.rolls-Number n)) ∙ fold-roll-Expr Term term_layer (Expr-F.Number n)
term-made (Text b) = ap term (sym (e.rolls-Text b)) ∙ fold-roll-Expr Term term_layer (Expr-F.Text b)
term-made Nothing = ap term (sym e.rolls-Nothing) ∙ fold-roll-Expr Term term_layer Expr-F.Nothing
term-made (Name n) = ap term (sym (e.rolls-Name n)) ∙ fold-roll-Expr Term term_layer (Expr-F.Name n)
term-made (Before o x) = term-prefix o (made x) ∙ ap (Before o) (term-made x)
term-made (Between o x y) = term-infix o (made x) (made y) ∙ ap (λ z. Between o z (term (made y))) (term-made x) ∙ ap (Between o x) (term-made y)
term-made (Applied f x) = term-call f (made x) ∙ ap (Applied f) (term-made x)
term-made (Given x y) = term-given (made x) (made y) ∙ ap (λ z. Given z (term (made y))) (term-made x) ∙ ap (Given x) (term-made y)

-- ---- a script is made back from its plain tree

made_place-spot : (place : Target) → made_place (spot place) ≡ place
made_place-spot (p.Fixed object) = refl
made_place-spot (p.At repository x) = ap (p.At repository) (made-term x)

abbrev AgainStep : Stmt → Type 0
AgainStep x = made_step (plain x) ≡ x

abbrev firsts : List ((x : Stmt) × AgainStep x) → List Stmt
firsts = map (λ q. q.0)

made_all-firsts : (part : List ((x : Stmt) × AgainStep x)) → made_all (block (firsts part)) ≡ firsts part
made_all-firsts [] = refl
made_all-firsts (q ∷ part) = ap (λ z. z ∷ made_all (block (firsts part))) q.1 ∙ ap (λ z. q.0 ∷ z) (made_all-firsts part)

again_step : (y : Stmt-F ((x : Stmt) × AgainStep x)) → made_step (shape (map-Stmt ((x : Stmt) × AgainStep x) Stmt (λ q. q.0) y)) ≡ roll-Stmt (map-Stmt ((x : Stmt) × AgainStep x) Stmt (λ q. q.0) y)
again_step (Stmt-F.Let l n x) = ap (s.Let l n) (made-term x) ∙ sym (s.rolls-Let l n x)
again_step (Stmt-F.Read l n place) = ap (s.Read l n) (made_place-spot place) ∙ sym (s.rolls-Read l n place)
again_step (Stmt-F.Write l place x) = ap (λ z. s.Write l z (made (term x))) (made_place-spot place) ∙ ap (s.Write l place) (made-term x) ∙ sym (s.rolls-Write l place x)
again_step (Stmt-F.Print l x) = ap (s.Print l) (made-term x) ∙ sym (s.rolls-Print l x)
again_step (Stmt-F.If l x part e) = ap (λ z. s.If l z (made_all (block (firsts part))) e) (made-term x) ∙ ap (λ z. s.If l x z e) (made_all-firsts part) ∙ sym (s.rolls-If l x (firsts part) e)
again_step (Stmt-F.IfElse l x first m second e) =
    ap (λ z. s.IfElse l z (made_all (block (firsts first))) m (made_all (block (firsts second))) e) (made-term x)
    ∙ ap (λ z. s.IfElse l x z m (made_all (block (firsts second))) e) (made_all-firsts first)
    ∙ ap (λ z. s.IfElse l x (firsts first) m z e) (made_all-firsts second)
    ∙ sym (s.rolls-IfElse l x (firsts first) m (firsts second) e)
again_step (Stmt-F.Repeat l x part e) = ap (λ z. s.Repeat l z (made_all (block (firsts part))) e) (made-term x) ∙ ap (λ z. s.Repeat l x z e) (made_all-firsts part) ∙ sym (s.rolls-Repeat l x (firsts part) e)
again_step (Stmt-F.Withdraw l) = sym (s.rolls-Withdraw l)

plain-roll : (y : Stmt-F Stmt) → plain (roll-Stmt y) ≡ shape y
plain-roll y = fold-roll-Stmt Step step_layer y ∙ shape-layer y

pub made-plain : (x : Stmt) → made_step (plain x) ≡ x
made-plain = ind-Stmt AgainStep (λ x y is. subst (λ z. AgainStep (roll-Stmt z)) is (ap made_step (plain-roll (map-Stmt ((x : Stmt) × AgainStep x) Stmt (λ q. q.0) y)) ∙ again_step y))

pub made-block : (xs : List Stmt) → made_all (block xs) ≡ xs
made-block [] = refl
made-block (x ∷ xs) = ap (λ z. z ∷ made_all (block xs)) (made-plain x) ∙ ap (λ z. x ∷ z) (made-block xs)

spot-made : (place : Spot) → spot (made_place place) ≡ place
spot-made (Fixed object) = refl
spot-made (At repository x) = ap (At repository) (term-made x)

mutual
  pub plain-made : (x : Step) → plain (made_step x) ≡ x
  plain-made (Let l n x) = ap plain (sym (s.rolls-Let l n (made x))) ∙ plain-roll (Stmt-F.Let l n (made x)) ∙ ap (Let l n) (term-made x)
  plain-made (Read l n place) = ap plain (sym (s.rolls-Read l n (made_place place))) ∙ plain-roll (Stmt-F.Read l n (made_place place)) ∙ ap (Read l n) (spot-made place)
  plain-made (Write l place x) = ap plain (sym (s.rolls-Write l (made_place place) (made x))) ∙ plain-roll (Stmt-F.Write l (made_place place) (made x)) ∙ ap (λ z. Write l z (term (made x))) (spot-made place) ∙ ap (Write l place) (term-made x)
  plain-made (Print l x) = ap plain (sym (s.rolls-Print l (made x))) ∙ plain-roll (Stmt-F.Print l (made x)) ∙ ap (Print l) (term-made x)
  plain-made (If l x part e) = plain-if l (made x) (made_all part) e ∙ ap (λ z. If l z (block (made_all part)) e) (term-made x) ∙ ap (λ z. If l x z e) (block-made part)
  plain-made (IfElse l x first m second e) =
      plain-if_else l (made x) (made_all first) m (made_all second) e
      ∙ ap (λ z. IfElse l z (block (made_all first)) m (block (made_all second)) e) (term-made x)
      ∙ ap (λ z. IfElse l x z m (block (made_all second)) e) (block-made first)
      ∙ ap (λ z. IfElse l x first m z e) (block-made second)
  plain-made (Repeat l x part e) = plain-repeat l (made x) (made_all part) e ∙ ap (λ z. Repeat l z (block (made_all part)) e) (term-made x) ∙ ap (λ z. Repeat l x z e) (block-made part)
  plain-made (Withdraw l) = ap plain (sym (s.rolls-Withdraw l)) ∙ plain-roll (Stmt-F.Withdraw l)

  pub block-made : (b : Block) → block (made_all b) ≡ b
  block-made End = refl
  block-made (Then x b) = ap (λ z. Then z (block (made_all b))) (plain-made x) ∙ ap (Then x) (block-made b)
