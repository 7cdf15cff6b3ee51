-- A statement with parts, once its value is known.
use Rattle.serial_model.proofs.Names.{◌≡◌, ℕ, zero, suc, ◌+◌, ◌-◌, ◌<◌, Bool, true, false, List, [], ◌∷◌, length, get_or, drop, ◌≤◌, Result, Ok, sym, ap, ◌∙◌, subst, arith, if◌then◌else◌, drop_more, FailKind, Step, Let, Read, Write, Print, If, IfElse, Repeat, Withdraw, Block, End, Then, term, plain, block, Objects, IsStep, IsBlock, State, Course, Goes, then_do, valued, turns, begun, all_done, over_objects, condition, count}
use Rattle.value_form.specs.declared.expressions.Expr.{Expr}
use Rattle.value_form.specs.declared.scripts.Stmt.{Stmt}
use Rattle.value_form.specs.declared.scripts.Stmt.TheVariants as s
use Rattle.value_form.specs.MirrorLaws.{plain-if, plain-if_else, plain-repeat}

abbrev St : Type 0
St = State Objects

abbrev Out : Type 0
Out = Course Objects

-- the parts of a statement in range are in range
pub part_if : (x : Stmt) (l : ℕ) (t : Expr) (part : List Stmt) (e : ℕ) (shown : List Stmt) → x ≡ s.If l t part e → IsStep (plain x) → shown ≡ part → IsBlock (block shown)
part_if x l t part e shown is h same =
    let k = subst (λ z. IsStep z) (ap plain is ∙ plain-if l t part e) h in
    subst (λ z. IsBlock (block z)) (sym same) k.1

pub part_first : (x : Stmt) (l : ℕ) (t : Expr) (first : List Stmt) (m : ℕ) (second : List Stmt) (e : ℕ) (shown : List Stmt) → x ≡ s.IfElse l t first m second e → IsStep (plain x) → shown ≡ first → IsBlock (block shown)
part_first x l t first m second e shown is h same =
    let k = subst (λ z. IsStep z) (ap plain is ∙ plain-if_else l t first m second e) h in
    subst (λ z. IsBlock (block z)) (sym same) k.1

pub part_second : (x : Stmt) (l : ℕ) (t : Expr) (first : List Stmt) (m : ℕ) (second : List Stmt) (e : ℕ) (shown : List Stmt) → x ≡ s.IfElse l t first m second e → IsStep (plain x) → shown ≡ second → IsBlock (block shown)
part_second x l t first m second e shown is h same =
    let k = subst (λ z. IsStep z) (ap plain is ∙ plain-if_else l t first m second e) h in
    subst (λ z. IsBlock (block z)) (sym same) k.2

pub part_repeat : (x : Stmt) (l : ℕ) (t : Expr) (part : List Stmt) (e : ℕ) (shown : List Stmt) → x ≡ s.Repeat l t part e → IsStep (plain x) → shown ≡ part → IsBlock (block shown)
part_repeat x l t part e shown is h same =
    let k = subst (λ z. IsStep z) (ap plain is ∙ plain-repeat l t part e) h in
    subst (λ z. IsBlock (block z)) (sym same) k.1

pub if_holds : (x : Stmt) (l : ℕ) (t : Expr) (part : List Stmt) (e : ℕ) (shown : List Stmt) (st : St) (r : Result Bool FailKind) (out : Out) → x ≡ s.If l t part e → r ≡ condition st.names (term t) → r ≡ Ok true → shown ≡ part → all_done over_objects (block shown) st ≡ out → begun over_objects (plain x) st ≡ out
if_holds x l t part e shown st r out is by true_is same comes =
    ap (λ z. begun over_objects z st) (ap plain is ∙ plain-if l t part e)
    ∙ ap (λ z. valued over_objects z l st (λ holds. if holds then all_done over_objects (block part) st else Goes st)) (sym by ∙ true_is)
    ∙ ap (λ z. all_done over_objects (block z) st) (sym same) ∙ comes

pub first_holds : (x : Stmt) (l : ℕ) (t : Expr) (first : List Stmt) (m : ℕ) (second : List Stmt) (e : ℕ) (shown : List Stmt) (st : St) (r : Result Bool FailKind) (out : Out) → x ≡ s.IfElse l t first m second e → r ≡ condition st.names (term t) → r ≡ Ok true → shown ≡ first → all_done over_objects (block shown) st ≡ out → begun over_objects (plain x) st ≡ out
first_holds x l t first m second e shown st r out is by true_is same comes =
    ap (λ z. begun over_objects z st) (ap plain is ∙ plain-if_else l t first m second e)
    ∙ ap (λ z. valued over_objects z l st (λ holds. if holds then all_done over_objects (block first) st else all_done over_objects (block second) st)) (sym by ∙ true_is)
    ∙ ap (λ z. all_done over_objects (block z) st) (sym same) ∙ comes

pub second_holds : (x : Stmt) (l : ℕ) (t : Expr) (first : List Stmt) (m : ℕ) (second : List Stmt) (e : ℕ) (shown : List Stmt) (st : St) (r : Result Bool FailKind) (out : Out) → x ≡ s.IfElse l t first m second e → r ≡ condition st.names (term t) → r ≡ Ok false → shown ≡ second → all_done over_objects (block shown) st ≡ out → begun over_objects (plain x) st ≡ out
second_holds x l t first m second e shown st r out is by false_is same comes =
    ap (λ z. begun over_objects z st) (ap plain is ∙ plain-if_else l t first m second e)
    ∙ ap (λ z. valued over_objects z l st (λ holds. if holds then all_done over_objects (block first) st else all_done over_objects (block second) st)) (sym by ∙ false_is)
    ∙ ap (λ z. all_done over_objects (block z) st) (sym same) ∙ comes

pub repeat_goes : (x : Stmt) (l : ℕ) (t : Expr) (part : List Stmt) (e : ℕ) (shown : List Stmt) (st : St) (r : Result ℕ FailKind) (n : ℕ) (out : Out) → x ≡ s.Repeat l t part e → r ≡ count st.names (term t) → r ≡ Ok n → shown ≡ part → turns over_objects n (all_done over_objects (block shown)) st ≡ out → begun over_objects (plain x) st ≡ out
repeat_goes x l t part e shown st r n out is by n_is same comes =
    ap (λ z. begun over_objects z st) (ap plain is ∙ plain-repeat l t part e)
    ∙ ap (λ z. valued over_objects z l st (λ n. turns over_objects n (all_done over_objects (block part)) st)) (sym by ∙ n_is)
    ∙ ap (λ z. turns over_objects n (all_done over_objects (block z)) st) (sym same) ∙ comes

-- one turn more
pub turns_one : (n i : ℕ) (part : St → Out) (st st' : St) → i < n → part st ≡ Goes st' → turns over_objects (n - i) part st ≡ turns over_objects (n - (i + 1)) part st'
turns_one n i part st st' h is =
    let e : n - i ≡ suc (n - (i + 1)) = omega arith in
    ap (λ k. turns over_objects k part st) e ∙ ap (λ o. then_do over_objects o (turns over_objects (n - (i + 1)) part)) is

-- ---- how large a script is

abbrev mutual
  pub size_step : Step → ℕ
  size_step (Let l name x) = 0
  size_step (Read l name place) = 0
  size_step (Write l place x) = 0
  size_step (Print l x) = 0
  size_step (If l x part e) = size part
  size_step (IfElse l x first m second e) = size first + size second
  size_step (Repeat l x part e) = size part
  size_step (Withdraw l) = 0

  pub size : Block → ℕ
  size End = 0
  size (Then x part) = size_step x + size part + 1

pub size_if : (x : Stmt) (l : ℕ) (t : Expr) (part : List Stmt) (e : ℕ) (shown : List Stmt) → x ≡ s.If l t part e → shown ≡ part → size (block shown) ≤ size_step (plain x)
size_if x l t part e shown is same =
    let a : size_step (plain x) ≡ size (block part) = ap size_step (ap plain is ∙ plain-if l t part e) in
    let b : size (block shown) ≡ size (block part) = ap (λ z. size (block z)) same in
    omega arith

pub size_first : (x : Stmt) (l : ℕ) (t : Expr) (first : List Stmt) (m : ℕ) (second : List Stmt) (e : ℕ) (shown : List Stmt) → x ≡ s.IfElse l t first m second e → shown ≡ first → size (block shown) ≤ size_step (plain x)
size_first x l t first m second e shown is same =
    let a : size_step (plain x) ≡ size (block first) + size (block second) = ap size_step (ap plain is ∙ plain-if_else l t first m second e) in
    let b : size (block shown) ≡ size (block first) = ap (λ z. size (block z)) same in
    omega arith

pub size_second : (x : Stmt) (l : ℕ) (t : Expr) (first : List Stmt) (m : ℕ) (second : List Stmt) (e : ℕ) (shown : List Stmt) → x ≡ s.IfElse l t first m second e → shown ≡ second → size (block shown) ≤ size_step (plain x)
size_second x l t first m second e shown is same =
    let a : size_step (plain x) ≡ size (block first) + size (block second) = ap size_step (ap plain is ∙ plain-if_else l t first m second e) in
    let b : size (block shown) ≡ size (block second) = ap (λ z. size (block z)) same in
    omega arith

pub size_repeat : (x : Stmt) (l : ℕ) (t : Expr) (part : List Stmt) (e : ℕ) (shown : List Stmt) → x ≡ s.Repeat l t part e → shown ≡ part → size (block shown) ≤ size_step (plain x)
size_repeat x l t part e shown is same =
    let a : size_step (plain x) ≡ size (block part) = ap size_step (ap plain is ∙ plain-repeat l t part e) in
    let b : size (block shown) ≡ size (block part) = ap (λ z. size (block z)) same in
    omega arith

-- a statement of a part is smaller than the part, and in range where the part is
pub size_at : (xs : List Stmt) (i : ℕ) (d : Stmt) → i < length xs → size_step (plain (get_or xs i d)) < size (block xs)
size_at [] i d h = absurd (omega arith)
size_at (x ∷ xs) zero d h = omega arith
size_at (x ∷ xs) (suc i) d h = let k = size_at xs i d (omega arith) in omega arith

pub smaller_at : (xs : List Stmt) (i : ℕ) (x : Stmt) → i < length xs → x ≡ get_or xs i x → size_step (plain x) < size (block xs)
smaller_at xs i x h is = subst (λ z. size_step (plain z) < size (block xs)) (sym is) (size_at xs i x h)

pub in_range_at : (xs : List Stmt) (i : ℕ) (x : Stmt) → i < length xs → x ≡ get_or xs i x → IsBlock (block (drop i xs)) → IsStep (plain x)
in_range_at xs i x h is k = subst (λ z. IsStep (plain z)) (sym is) (subst (λ z. IsBlock (block z)) (drop_more xs i x h) k).0
