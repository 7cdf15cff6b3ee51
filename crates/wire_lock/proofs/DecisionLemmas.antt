-- Numbers on the board, and what they tell.
use Rattle.wire_lock.proofs.Names.{◌≡◌, ◌≤◌, ℕ, ◌+◌, ◌==◌, Bool, true, false, List, [], ◌∷◌, ◌++◌, length, ◌<◌, zero, suc, Some, None, IsTrue, if◌then◌else◌, StampParts, NodeId, same_node, same_is, same_node-refl, Entry, Gate, Base, Life, World, gated_life, walk, IsDecidedAs, Origin, base_from, place_of, number_of, Decided, decided_by, answer_of, ◌⊎◌, ◌*◌, ◌^◌, refl, ap, sym, ◌∙◌, subst, arith, inl, inr, get_or, IsStamp, repository, IsDecided, MayHold, decision_in}
use Rattle.pseudo_time.specs.Lists.{Every, Has}
use Rattle.pseudo_time.specs.declared.decisions.Decision.{Decision}
use Rattle.pseudo_time.proofs.ListLemmas.{every-append, every-map, has-right}
use Rattle.effect_form.specs.declared.effects.Effect.{Effect}
use Rattle.effect_form.specs.declared.effects.Effect.TheVariants as effect
use Rattle.world_core.specs.Nodes.{is_commit}
use Rattle.wire_lock.proofs.SightLemmas.{up-known, life-own}

-- ---- no two decisions have the same number

abbrev code : Bool → ℕ
code committed = if committed then 1 else 2

code-low : (c : Bool) → 1 ≤ code c
code-low true = omega arith
code-low false = omega arith

code-high : (c : Bool) → code c ≤ 2
code-high true = omega arith
code-high false = omega arith

code-one : (c d : Bool) → code c ≡ code d → c ≡ d
code-one true true h = refl
code-one false false h = refl
code-one true false h = absurd (omega arith)
code-one false true h = absurd (omega arith)

clock-one : (a b h x a' b' h' y : ℕ) → b ≤ 16 → b' ≤ 16 → h ≤ 16 → h' ≤ 16 → x ≤ 2 → y ≤ 2 → a * 2 ^ 18 + b * 2 ^ 10 + h * 4 + x ≡ a' * 2 ^ 18 + b' * 2 ^ 10 + h' * 4 + y → a ≡ a'
clock-one a b h x a' b' h' y p p' q q' r r' e = omega arith

broker-one : (b h x b' h' y : ℕ) → h ≤ 16 → h' ≤ 16 → x ≤ 2 → y ≤ 2 → b * 2 ^ 10 + h * 4 + x ≡ b' * 2 ^ 10 + h' * 4 + y → b ≡ b'
broker-one b h x b' h' y q q' r r' e = omega arith

home-one : (h x h' y : ℕ) → 1 ≤ x → 1 ≤ y → x ≤ 2 → y ≤ 2 → h * 4 + x ≡ h' * 4 + y → h ≡ h'
home-one h x h' y l l' r r' e = omega arith

drop-first : (a a' r r' : ℕ) → a ≡ a' → a * 2 ^ 18 + r ≡ a' * 2 ^ 18 + r' → r ≡ r'
drop-first a a' r r' p e = omega arith

pub number-one : (s t : StampParts) (c d : Bool) → IsStamp s → IsStamp t → number_of s c ≡ number_of t d → (s ≡ t) × (c ≡ d)
number-one s t c d is it e =
    let p : s.clock ≡ t.clock = clock-one s.clock s.broker s.home (code c) t.clock t.broker t.home (code d) is.broker_high it.broker_high is.home_high it.home_high (code-high c) (code-high d) e in
    let e1 : s.broker * 2 ^ 10 + s.home * 4 + code c ≡ t.broker * 2 ^ 10 + t.home * 4 + code d = omega (arith, e, p) in
    let q : s.broker ≡ t.broker = broker-one s.broker s.home (code c) t.broker t.home (code d) is.home_high it.home_high (code-high c) (code-high d) e1 in
    let e2 : s.home * 4 + code c ≡ t.home * 4 + code d = omega (arith, e1, q) in
    let r : s.home ≡ t.home = home-one s.home (code c) t.home (code d) (code-low c) (code-low d) (code-high c) (code-high d) e2 in
    let u : code c ≡ code d = omega (arith, e2, r) in
    (λ i. record { clock = p i; broker = q i; home = r i }, code-one c d u)

pub number-some : (s : StampParts) (c : Bool) → number_of s c ≡ 0 → ⊥
number-some s c e = let l : 1 ≤ code c = code-low c in omega (arith, e, l)

-- what a word that may be held tells
pub held-stands : (told : Bool) (o o' : Origin) (es : List Entry) (word number : ℕ) (s : StampParts) (c : Bool) → IsStamp s → o ≡ o' → MayHold told o es word number → number ≡ number_of s c
    → IsTrue told → IsDecidedAs (walk (base_from o') es) s c
held-stands told o o' es word number s c is same held n t = subst (λ (x : Origin). IsDecidedAs (walk (base_from x) es) s c) same (go (held t))
  where
    go : (number ≡ 0) ⊎ IsDecided o es word number → IsDecidedAs (walk (base_from o) es) s c
    go (inl none) = absurd (number-some s c (sym n ∙ none))
    go (inr d) =
        let h : (d.stamp ≡ s) × (d.committed ≡ c) = number-one d.stamp s d.committed c d.in_range is (sym d.coded ∙ n) in
        subst (λ (b : Bool). IsDecidedAs (walk (base_from o) es) s b) h.1 (subst (λ (x : StampParts). IsDecidedAs (walk (base_from o) es) x d.committed) h.0 d.stands)

-- ---- what a number tells of a stamp

pub answer-yes : (s : StampParts) (n m : ℕ) → m ≡ number_of s true → (n == m) ≡ true → Some true ≡ answer_of s n
answer-yes s n m e t = sym (ap (λ (b : Bool). if b then Some true else (if n == number_of s false then Some false else None)) (ap (λ (k : ℕ). n == k) (sym e) ∙ t))

pub answer-no : (s : StampParts) (n m q : ℕ) → m ≡ number_of s true → q ≡ number_of s false → (n == m) ≡ false → (n == q) ≡ true → Some false ≡ answer_of s n
answer-no s n m q e d t u =
    sym (ap (λ (b : Bool). if b then Some true else (if n == number_of s false then Some false else None)) (ap (λ (k : ℕ). n == k) (sym e) ∙ t)
    ∙ ap (λ (b : Bool). if b then Some false else None) (ap (λ (k : ℕ). n == k) (sym d) ∙ u))

pub answer-none : (s : StampParts) (n m q : ℕ) → m ≡ number_of s true → q ≡ number_of s false → (n == m) ≡ false → (n == q) ≡ false → None ≡ answer_of s n
answer-none s n m q e d t u =
    sym (ap (λ (b : Bool). if b then Some true else (if n == number_of s false then Some false else None)) (ap (λ (k : ℕ). n == k) (sym e) ∙ t)
    ∙ ap (λ (b : Bool). if b then Some false else None) (ap (λ (k : ℕ). n == k) (sym d) ∙ u))

-- ---- what a gate opens its home may post

-- decisions of this home that stand in a log
abbrev InLog : NodeId → List Effect → Decided → Type 0
InLog n log d = (repository d.0.home ≡ n) × ((x : Decision) × Has (effect.Decide d.0 x) log × (d.1 ≡ is_commit x))

in-one : (n : NodeId) (log : List Effect) (e : Effect) → Has e log → Every (InLog n log) (decision_in n e)
in-one n log (effect.Decide s x) has = go (same_node (repository s.home) n) refl
  where
    go : (t : Bool) → same_node (repository s.home) n ≡ t → Every (InLog n log) (if t then (s, is_commit x) ∷ [] else [])
    go true h = ((same_is (repository s.home) n h, (x, has, refl)), tt)
    go false h = tt
in-one n log (effect.Put object start value) has = tt
in-one n log (effect.Stretch object at) has = tt
in-one n log (effect.Begin stamp deadline) has = tt
in-one n log (effect.Learn stamp committed) has = tt
in-one n log (effect.Run number) has = tt
in-one n log (effect.Act index home timeout tries clock script) has = tt
in-one n log (effect.Try index stamp) has = tt
in-one n log (effect.Got step value) has = tt
in-one n log (effect.Acked step) has = tt
in-one n log (effect.End index outcome) has = tt
in-one n log (effect.Mark at) has = tt
in-one n log effect.Whole has = tt

in-all : (n : NodeId) (log es : List Effect) → ((e : Effect) → Has e es → Has e log) → Every (InLog n log) (decided_by n es)
in-all n log [] within = tt
in-all n log (e ∷ es) within =
    every-append (InLog n log) (decision_in n e) (decided_by n es) (in-one n log e (within e (inl refl))) (in-all n log es (λ x h. within x (inr h)))

log-stands : (w : World) (n : NodeId) (d : Decided) → InLog n (w.life n).gated d → IsDecidedAs w d.0 d.1
log-stands w n d h = (h.1.0, subst (λ (m : NodeId). Has (effect.Decide d.0 h.1.0) (w.life m).gated) (sym h.0) h.1.1, h.1.2)

-- after the gate each of them stands in the durable log
pub gate-stands : (told : Bool) (b b' : Base) (l l' : List Entry) (n : NodeId) (ds : List Decided) → ((walk b l).flags n).up ≡ true → (IsTrue told → ds ≡ decided_by n ((walk b l).life n).fresh)
    → b' ≡ b → l' ≡ l ++ Gate n ∷ [] → IsTrue told → Every (λ (d : Decided). IsDecidedAs (walk b' l') d.0 d.1) ds
gate-stands told b b' l l' n ds up all sameb samel t =
    let life : (walk b (l ++ Gate n ∷ [])).life n ≡ gated_life ((walk b l).life n) = life-own b l (Gate n) n (same_node-refl n) (up-known b l n up) in
    let w : World = walk b (l ++ Gate n ∷ []) in
    let within : (e : Effect) → Has e ((walk b l).life n).fresh → Has e ((walk b (l ++ Gate n ∷ [])).life n).gated =
    λ e h. subst (λ (x : Life). Has e x.gated) (sym life) (has-right ((walk b l).life n).gated ((walk b l).life n).fresh e h) in
    let here : Every (λ (d : Decided). IsDecidedAs (walk b (l ++ Gate n ∷ [])) d.0 d.1) (decided_by n ((walk b l).life n).fresh) =
    every-map (InLog n ((walk b (l ++ Gate n ∷ [])).life n).gated) (λ (d : Decided). IsDecidedAs (walk b (l ++ Gate n ∷ [])) d.0 d.1) (log-stands (walk b (l ++ Gate n ∷ [])) n) (decided_by n ((walk b l).life n).fresh)
    (in-all n ((walk b (l ++ Gate n ∷ [])).life n).gated ((walk b l).life n).fresh within) in
    subst (λ (x : Base). Every (λ (d : Decided). IsDecidedAs (walk x l') d.0 d.1) ds) (sym sameb)
    (subst (λ (es : List Entry). Every (λ (d : Decided). IsDecidedAs (walk b es) d.0 d.1) ds) (sym samel)
    (subst (Every (λ (d : Decided). IsDecidedAs (walk b (l ++ Gate n ∷ [])) d.0 d.1)) (sym (all t)) here))

every-at : (P : Decided → Type 0) (ds : List Decided) (i : ℕ) (d : Decided) → i < length ds → Every P ds → P (get_or ds i d)
every-at P [] i d lt e = absurd (omega (arith, lt))
every-at P (x ∷ xs) zero d lt e = e.0
every-at P (x ∷ xs) (suc i) d lt e = every-at P xs i d (omega (arith, lt)) e.1

-- what stands a word may hold
pub may-post : (told : Bool) (o : Origin) (l : List Entry) (ds : List Decided) (i : ℕ) (d : Decided) (word number : ℕ) → i < length ds → d ≡ get_or ds i d
    → (IsTrue told → Every (λ (x : Decided). IsDecidedAs (walk (base_from o) l) x.0 x.1) ds) → IsStamp d.0 → word ≡ place_of d.0 → number ≡ number_of d.0 d.1 → MayHold told o l word number
may-post told o l ds i d word number low at all is place coded t = inr (record {
  stamp = d.0;
  committed = d.1;
  in_range = is;
  place = place;
  coded = coded;
  stands = subst (λ (x : Decided). IsDecidedAs (walk (base_from o) l) x.0 x.1) (sym at) (every-at (λ (x : Decided). IsDecidedAs (walk (base_from o) l) x.0 x.1) ds i d low (all t));
})

pub may-at : (told : Bool) (o o' : Origin) (l l' : List Entry) (word number : ℕ) → o ≡ o' → l ≡ l' → MayHold told o l word number → MayHold told o' l' word number
may-at told o o' l l' word number eo el h = subst (λ (x : List Entry). MayHold told o' x word number) el (subst (λ (x : Origin). MayHold told x l word number) eo h)
