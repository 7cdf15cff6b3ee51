-- Seats in a list, each of another node.
use Rattle.trace_logs.proofs.Names.{get_or, set, count_by, sum_by-cons, is_some, Every, NodeId, same_node, same_is, same_node-refl, Opened, Base, opened_log, opened_life, ReplayedNode, Lives, IsOnce, IsAbsent, Apart, AreAt, nodes_of, is_among, ◌≡◌, ◌≤◌, ◌<◌, ◌+◌, ℕ, zero, suc, Bool, true, false, List, [], ◌∷◌, ◌++◌, length, map, refl, sym, ap, subst, ◌∙◌, Some, if◌then◌else◌, cond, arith, unwrap_or}
use Rattle.std.proofs.Math.Seq.{map-set_same}

-- ---- names

pub same-sym : (a c : NodeId) → same_node a c ≡ same_node c a
same-sym a c = go (same_node a c) (same_node c a) refl refl
  where
    go : (s t : Bool) → same_node a c ≡ s → same_node c a ≡ t → same_node a c ≡ same_node c a
    go true t p q = ap (λ z. same_node a z) (sym (same_is a c p)) ∙ ap (λ z. same_node z a) (same_is a c p)
    go false true p q = ap (λ z. same_node z c) (sym (same_is c a q)) ∙ ap (λ z. same_node c z) (same_is c a q)
    go false false p q = p ∙ sym q

-- ---- one node is changed

abbrev Others : NodeId → List ReplayedNode → Type 0
Others m replayed = Every (λ n. same_node m n ≡ false) (nodes_of replayed)

pub others-change : (P Q : ReplayedNode → Type 0) (m : NodeId) (replayed : List ReplayedNode) → Others m replayed → ((s : ReplayedNode) → same_node m s.node ≡ false → P s → Q s) → Every P replayed → Every Q replayed
others-change P Q m [] a f h = tt
others-change P Q m (s ∷ ss) a f h = (f s a.0 h.0, others-change P Q m ss a.1 f h.1)

pub all-change : (P Q : ReplayedNode → Type 0) (replayed : List ReplayedNode) → ((s : ReplayedNode) → P s → Q s) → Every P replayed → Every Q replayed
all-change P Q [] f h = tt
all-change P Q (s ∷ ss) f h = (f s h.0, all-change P Q ss f h.1)

pub absent-change : (P Q : ReplayedNode → Type 0) (n : NodeId) (replayed : List ReplayedNode) → IsAbsent n replayed → ((s : ReplayedNode) → same_node s.node n ≡ false → P s → Q s) → Every P replayed → Every Q replayed
absent-change P Q n [] a f h = tt
absent-change P Q n (s ∷ ss) a f h = (f s a.0 h.0, absent-change P Q n ss a.1 f h.1)

other-at : (m : NodeId) (replayed : List ReplayedNode) (i : ℕ) (d : ReplayedNode) → i < length replayed → Others m replayed → same_node m (get_or replayed i d).node ≡ false
other-at m [] i d l a = absurd (omega (arith, l))
other-at m (s ∷ ss) zero d l a = a.0
other-at m (s ∷ ss) (suc i) d l a = other-at m ss i d (omega (arith, l)) a.1

pub every-at : (P : ReplayedNode → Type 0) (replayed : List ReplayedNode) (i : ℕ) (d : ReplayedNode) → i < length replayed → Every P replayed → P (get_or replayed i d)
every-at P [] i d l h = absurd (omega (arith, l))
every-at P (s ∷ ss) zero d l h = h.0
every-at P (s ∷ ss) (suc i) d l h = every-at P ss i d (omega (arith, l)) h.1

-- the node at a place is changed, and the others go on
pub set-every : (P Q : ReplayedNode → Type 0) (replayed : List ReplayedNode) (i : ℕ) (t d : ReplayedNode) → i < length replayed → Apart (nodes_of replayed) →
    ((s : ReplayedNode) → same_node (get_or replayed i d).node s.node ≡ false → P s → Q s) → Q t → Every P replayed → Every Q (set replayed i t)
set-every P Q [] i t d l a f q h = absurd (omega (arith, l))
set-every P Q (s ∷ ss) zero t d l a f q h = (q, others-change P Q s.node ss a.0 f h.1)
set-every P Q (s ∷ ss) (suc i) t d l a f q h =
    (f s (same-sym (get_or ss i d).node s.node ∙ other-at s.node ss i d (omega (arith, l)) a.0) h.0, set-every P Q ss i t d (omega (arith, l)) a.1 f q h.1)

pub nodes-set : (replayed : List ReplayedNode) (i : ℕ) (t d : ReplayedNode) → t.node ≡ (get_or replayed i d).node → nodes_of (set replayed i t) ≡ nodes_of replayed
nodes-set replayed i t d h = map-set_same (λ (s : ReplayedNode). s.node) replayed i t d h

-- ---- which nodes stand there

pub among-at : (replayed : List ReplayedNode) (i : ℕ) (d : ReplayedNode) → i < length replayed → is_among (nodes_of replayed) (get_or replayed i d).node ≡ true
among-at [] i d l = absurd (omega (arith, l))
among-at (s ∷ ss) zero d l = ap (λ z. if z then true else is_among (nodes_of ss) s.node) (same_node-refl s.node)
among-at (s ∷ ss) (suc i) d l = either (same_node s.node (get_or ss i d).node) (is_among (nodes_of ss) (get_or ss i d).node) (among-at ss i d (omega (arith, l)))
  where
    either : (x y : Bool) → y ≡ true → (if x then true else y) ≡ true
    either true y h = refl
    either false y h = h

pub among-not : (n : NodeId) (replayed : List ReplayedNode) → IsAbsent n replayed → is_among (nodes_of replayed) n ≡ false
among-not n [] h = refl
among-not n (s ∷ ss) h = ap (λ z. if z then true else is_among (nodes_of ss) n) h.0 ∙ among-not n ss h.1

-- ---- nodes as they were opened

-- how often a node stands there
abbrev times : NodeId → List Opened → ℕ
times n opened = count_by (λ (o : Opened). same_node o.node n) opened

times-more : (n : NodeId) (o : Opened) (os : List Opened) → times n (o ∷ os) ≡ cond (same_node o.node n) 1 0 + times n os
times-more n o os = sum_by-cons (λ (p : Opened). cond (same_node p.node n) 1 0) o os

none-counted : (n : NodeId) (opened : List Opened) → times n opened ≤ 0 → Every (λ m. same_node m n ≡ false) (map (λ (o : Opened). o.node) opened)
none-counted n [] h = tt
none-counted n (o ∷ os) h = go (same_node o.node n) refl (subst (λ c. c ≤ 0) (times-more n o os) h) (none-counted n os)
  where
    go : (t : Bool) → same_node o.node n ≡ t → cond (same_node o.node n) 1 0 + times n os ≤ 0 → (times n os ≤ 0 → Every (λ m. same_node m n ≡ false) (map (λ (o : Opened). o.node) os)) →
        (same_node o.node n ≡ false) × Every (λ m. same_node m n ≡ false) (map (λ (o : Opened). o.node) os)
    go true q h rest = let k : cond true 1 0 + times n os ≤ 0 = subst (λ t. cond t 1 0 + times n os ≤ 0) q h in absurd (omega (arith, k))
    go false q h rest = let k : cond false 1 0 + times n os ≤ 0 = subst (λ t. cond t 1 0 + times n os ≤ 0) q h in (q, rest (omega (arith, k)))

flip : (n : NodeId) (ms : List NodeId) → Every (λ m. same_node m n ≡ false) ms → Every (λ m. same_node n m ≡ false) ms
flip n [] h = tt
flip n (m ∷ ms) h = (same-sym n m ∙ h.0, flip n ms h.1)

pub once-apart : (opened : List Opened) → IsOnce opened → Apart (map (λ (o : Opened). o.node) opened)
once-apart [] h = tt
once-apart (o ∷ os) h = (flip o.node (map (λ (o : Opened). o.node) os) (none-counted o.node os first), once-apart os rest)
  where
    first : times o.node os ≤ 0
    first = let k : cond true 1 0 + times o.node os ≤ 1 = subst (λ t. cond t 1 0 + times o.node os ≤ 1) (same_node-refl o.node) (subst (λ c. c ≤ 1) (times-more o.node o os) (h o.node)) in omega (arith, k)

    fewer : (t : Bool) (c : ℕ) → cond t 1 0 + c ≤ 1 → c ≤ 1
    fewer true c h = omega (arith, h)
    fewer false c h = omega (arith, h)

    rest : IsOnce os
    rest n = fewer (same_node o.node n) (times n os) (subst (λ c. c ≤ 1) (times-more n o os) (h n))

pub at-nodes : (b : Base) (start : ℕ) (opened : List Opened) (replayed : List ReplayedNode) → AreAt b start opened replayed → nodes_of replayed ≡ map (λ (o : Opened). o.node) opened
at-nodes b start [] [] h = refl
at-nodes b start [] (s ∷ ss) h = absurd h
at-nodes b start (o ∷ os) [] h = absurd h
at-nodes b start (o ∷ os) (s ∷ ss) h = λ j. h.0.0 j ∷ at-nodes b start os ss h.1 j

pub at-more : (b : Base) (start : ℕ) (opened : List Opened) (replayed : List ReplayedNode) (o : Opened) (s : ReplayedNode) → AreAt b start opened replayed → s.node ≡ o.node → Lives b s (opened_life start o.effects) → AreAt b start (opened ++ o ∷ []) (replayed ++ s ∷ [])
at-more b start [] [] o s h e l = ((e, l), tt)
at-more b start [] (t ∷ ss) o s h e l = absurd h
at-more b start (p ∷ os) [] o s h e l = absurd h
at-more b start (p ∷ os) (t ∷ ss) o s h e l = (h.0, at-more b start os ss o s h.1 e l)

pub among-opened : (opened : List Opened) (n : NodeId) → is_some (opened_log opened n) ≡ is_among (map (λ (o : Opened). o.node) opened) n
among-opened [] n = refl
among-opened (o ∷ os) n = go (same_node o.node n) (among-opened os n)
  where
    go : (t : Bool) → is_some (opened_log os n) ≡ is_among (map (λ (o : Opened). o.node) os) n → is_some (if t then Some o.effects else opened_log os n) ≡ (if t then true else is_among (map (λ (o : Opened). o.node) os) n)
    go true h = refl
    go false h = h

abbrev LivesAt : Base → ℕ → List Opened → ReplayedNode → Type 0
LivesAt b start opened s = Lives b s (opened_life start (unwrap_or (opened_log opened s.node) []))

pub at-start : (b : Base) (start : ℕ) (opened : List Opened) (replayed : List ReplayedNode) → Apart (map (λ (o : Opened). o.node) opened) → AreAt b start opened replayed → Every (LivesAt b start opened) replayed
at-start b start [] [] a h = tt
at-start b start [] (s ∷ ss) a h = absurd h
at-start b start (o ∷ os) [] a h = absurd h
at-start b start (o ∷ os) (s ∷ ss) a h =
    (here, others-change (LivesAt b start os) (LivesAt b start (o ∷ os)) o.node ss (subst (Every (λ n. same_node o.node n ≡ false)) (sym (at-nodes b start os ss h.1)) a.0) later (at-start b start os ss a.1 h.1))
  where
    mine : opened_log (o ∷ os) s.node ≡ Some o.effects
    mine = ap (λ z. if z then Some o.effects else opened_log os s.node) (ap (same_node o.node) h.0.0 ∙ same_node-refl o.node)

    here : LivesAt b start (o ∷ os) s
    here = subst (λ z. Lives b s (opened_life start (unwrap_or z []))) (sym mine) h.0.1

    later : (t : ReplayedNode) → same_node o.node t.node ≡ false → LivesAt b start os t → LivesAt b start (o ∷ os) t
    later t e l = subst (λ z. Lives b t (opened_life start (unwrap_or (if z then Some o.effects else opened_log os t.node) []))) (sym e) l
