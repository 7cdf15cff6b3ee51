-- Lists of opened nodes that have each node once.
use Rattle.trace_logs.proofs.Names.{count_by, sum_by-cons, Every, NodeId, same_node, same_is, Opened, IsOnce, ◌≡◌, ◌≤◌, ◌+◌, ℕ, Bool, true, false, List, [], ◌∷◌, ◌++◌, refl, sym, ap, subst, ◌∙◌, cond, arith, sum_by-append}

-- no node of the list is this one
abbrev pub IsNew : NodeId → List Opened → Type 0
IsNew n opened = Every (λ (p : Opened). same_node p.node n ≡ false) opened

new-counted : (n : NodeId) (opened : List Opened) → IsNew n opened → count_by (λ (p : Opened). same_node p.node n) opened ≡ 0
new-counted n [] h = refl
new-counted n (o ∷ os) h =
    let k : cond false 1 0 + count_by (λ (p : Opened). same_node p.node n) os ≡ 0 = (let e = new-counted n os h.1 in omega (arith, e)) in
    sum_by-cons (λ (p : Opened). cond (same_node p.node n) 1 0) o os ∙ subst (λ t. cond t 1 0 + count_by (λ (p : Opened). same_node p.node n) os ≡ 0) (sym h.0) k

pub once-none : IsOnce []
once-none n = omega arith

pub once-more : (opened : List Opened) (o : Opened) → IsOnce opened → IsNew o.node opened → IsOnce (opened ++ o ∷ [])
once-more opened o h a n = subst (λ c. c ≤ 1) (sym (sum_by-append (λ (p : Opened). cond (same_node p.node n) 1 0) opened (o ∷ []) ∙ ap (λ z. before + z) (sum_by-cons (λ (p : Opened). cond (same_node p.node n) 1 0) o []))) (go (same_node o.node n) refl)
  where
    before : ℕ
    before = count_by (λ (p : Opened). same_node p.node n) opened

    go : (t : Bool) → same_node o.node n ≡ t → before + (cond (same_node o.node n) 1 0 + 0) ≤ 1
    go true q = let e : before ≡ 0 = new-counted n opened (subst (λ m. IsNew m opened) (same_is o.node n q) a) in
        subst (λ t. before + (cond t 1 0 + 0) ≤ 1) (sym q) (omega (arith, e))
    go false q = let e : before ≤ 1 = h n in subst (λ t. before + (cond t 1 0 + 0) ≤ 1) (sym q) (omega (arith, e))

-- two nodes
pub once-two : (o p : Opened) → same_node o.node p.node ≡ false → IsOnce (o ∷ p ∷ [])
once-two o p h = once-more (o ∷ []) p (once-more [] o once-none tt) (h, tt)
