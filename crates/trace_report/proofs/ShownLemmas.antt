-- The acts of a plan are shown as the logs tell them whose begun acts the code has read.
use Rattle.trace_report.proofs.Names.{option_map, is_at, eqb-true, true≢false, reverse-append, map-append, NodeId, Every, Has, ActSpec, Stmt, block, Effect, Tree, denote, talked, Plan, CanRun, EachAct, Act, Try, reading, OfAct, Task, TryReport, ActReport, BegunAct, BegunTry, acts_shown, begun_acts, ActParts, act_parts, try_parts, kept, kept_act, kept_try, begun_to, HasActs, act_told, part_at, try_told, rules, ◌≡◌, inl, inr, ℕ, zero, suc, ◌+◌, ◌≤◌, ◌<◌, ◌==◌, Bool, true, false, List, [], ◌∷◌, ◌++◌, map, reverse, refl, sym, ◌∙◌, ap, subst, Option, Some, None, if◌then◌else◌, cond, arith, nat_cmp, eq-eqb, reverse-reverse, act_begun, act_shown, shown_end, spent_at, tries_shown, try_shown, spent_told, tries_told, every-reverse}
use Rattle.std.specs.Map.{lookup}
use Rattle.std.proofs.lemmas.Bool.Decides.{nat_tests}
use Rattle.trace_report.proofs.OwnLemmas.{IsOwn, begun-own, begun-tries, numbered, numbered-is, read-own}

-- ---- a map of acts

entry-at : (k q : ℕ) (b : Bool) (a : BegunAct) (old : Option BegunAct) (r : Option ActParts) → option_map kept_act old ≡ r → option_map kept_act (cond b (Some a) old) ≡ (if b then Some (kept_act a) else r)
entry-at k q true a old r h = refl
entry-at k q false a old r h = h

same-number : (k q : ℕ) → is_at (nat_cmp k) q ≡ (k == q)
same-number k q = search rules

pub kept-last : (begun : List BegunAct) (a : BegunAct) → kept (begun ++ a ∷ []) ≡ kept_act a ∷ kept begun
kept-last begun a = ap (map kept_act) (reverse-append begun (a ∷ []))

pub acts-more : (acts : List ActParts) (old new : List (ℕ × BegunAct)) (a : BegunAct) → HasActs acts old →
    ((q : ℕ) → lookup (is_at (nat_cmp q)) new ≡ cond (is_at (nat_cmp a.index) q) (Some a) (lookup (is_at (nat_cmp q)) old)) → HasActs (kept_act a ∷ acts) new
acts-more acts old new a h put q =
    ap (option_map kept_act) (put q) ∙ ap (λ c. option_map kept_act (cond c (Some a) (lookup (is_at (nat_cmp q)) old))) (same-number a.index q)
    ∙ entry-at a.index q (a.index == q) a (lookup (is_at (nat_cmp q)) old) (part_at q acts) (h q)

-- ---- an act that was begun, by its parts

map-if : (c : Bool) (a : Act) (o : Option Act) (r : Option ActParts) → r ≡ option_map act_parts o → (if c then Some (act_parts a) else r) ≡ option_map act_parts (if c then Some a else o)
map-if true a o r h = refl
map-if false a o r h = h

part-is : (i : ℕ) (acts : List Act) → part_at i (map act_parts acts) ≡ option_map act_parts (act_begun i acts)
part-is i [] = refl
part-is i (a ∷ acts) = map-if (a.task.index == i) a (act_begun i acts) (part_at i (map act_parts acts)) (part-is i acts)

-- ---- whose act has an index

abbrev or_next : Option Act → Option Act → Option Act
or_next (Some a) o = Some a
or_next None o = o

or-if : (c : Bool) (a : Act) (o p : Option Act) → (if c then Some a else or_next o p) ≡ or_next (if c then Some a else o) p
or-if true a o p = refl
or-if false a o p = refl

begun-append : (i : ℕ) (xs ys : List Act) → act_begun i (xs ++ ys) ≡ or_next (act_begun i xs) (act_begun i ys)
begun-append i [] ys = refl
begun-append i (a ∷ xs) ys = ap (λ o. if a.task.index == i then Some a else o) (begun-append i xs ys) ∙ or-if (a.task.index == i) a (act_begun i xs) (act_begun i ys)

or-none : (o : Option Act) → or_next o None ≡ o
or-none None = refl
or-none (Some a) = refl

none-if : (c : Bool) (a : Act) (o : Option Act) → (c ≡ true → ⊥) → o ≡ None → (if c then Some a else o) ≡ None
none-if true a o h e = absurd (h refl)
none-if false a o h e = e

differs : (m b : ℕ) → (m == b) ≡ false → m ≡ b → ⊥
differs m b e s = true≢false (sym (ap (λ k. k == b) s ∙ eq-eqb b b refl) ∙ e)

below : (n b : ℕ) → (suc n == b) ≡ false → b ≤ suc n → b ≤ n
below n b e le = grind (arith, nat_tests)

module _ (plan : Plan) (w : CanRun plan) (x : ActSpec) (among : Has x plan.acts) where
  -- what has the index of a plan's act is begun from that act
  same-spec : (b : ℕ) (a : Act) → IsOwn plan b a → a.task.index ≡ x.index → b ≡ x.broker
  same-spec b a o e =
      let i : o.spec.index ≡ x.index = sym (ap (λ (t : Task). t.index) o.task_is) ∙ e in
      let s : Some o.spec ≡ Some x = sym (numbered-is plan w o.spec o.among) ∙ ap (numbered plan.acts) i ∙ numbered-is plan w x among in
      let t : o.spec ≡ x = cc in
      sym o.broker_is ∙ ap (λ (y : ActSpec). y.broker) t

  none-in : (b : ℕ) (acts : List Act) → (b ≡ x.broker → ⊥) → Every (IsOwn plan b) acts → act_begun x.index acts ≡ None
  none-in b [] other h = refl
  none-in b (a ∷ acts) other h = none-if (a.task.index == x.index) a (act_begun x.index acts) (λ e. other (same-spec b a h.0 (eqb-true _ _ e))) (none-in b acts other h.1)

  module _ (logs : NodeId → List Effect) where
    none-of : (b : ℕ) → (b ≡ x.broker → ⊥) → act_begun x.index (begun_acts plan logs b) ≡ None
    none-of b other = none-in b (begun_acts plan logs b) other (begun-own plan logs b)

    none-to : (n : ℕ) → n < x.broker → act_begun x.index (begun_to plan logs n) ≡ None
    none-to zero le = refl
    none-to (suc n) le =
        begun-append x.index (begun_to plan logs n) (begun_acts plan logs (suc n))
        ∙ ap (λ o. or_next o (act_begun x.index (begun_acts plan logs (suc n)))) (none-to n (omega (arith, le)))
        ∙ none-of (suc n) (λ e. omega (arith, le, e))

    found-if : (c : Bool) (n : ℕ) → (suc n == x.broker) ≡ c → x.broker ≤ suc n → (x.broker ≤ n → act_begun x.index (begun_to plan logs n) ≡ act_begun x.index (begun_acts plan logs x.broker)) →
        act_begun x.index (begun_to plan logs (suc n)) ≡ act_begun x.index (begun_acts plan logs x.broker)
    found-if true n e le h =
        let s : suc n ≡ x.broker = eqb-true _ _ e in
        begun-append x.index (begun_to plan logs n) (begun_acts plan logs (suc n))
        ∙ ap (λ o. or_next o (act_begun x.index (begun_acts plan logs (suc n)))) (none-to n (omega (arith, s)))
        ∙ ap (λ b. act_begun x.index (begun_acts plan logs b)) s
    found-if false n e le h =
        begun-append x.index (begun_to plan logs n) (begun_acts plan logs (suc n))
        ∙ ap (or_next (act_begun x.index (begun_to plan logs n))) (none-of (suc n) (differs (suc n) x.broker e)) ∙ or-none (act_begun x.index (begun_to plan logs n))
        ∙ h (below n x.broker e le)

    found : (n : ℕ) → 1 ≤ x.broker → x.broker ≤ n → act_begun x.index (begun_to plan logs n) ≡ act_begun x.index (begun_acts plan logs x.broker)
    found zero low le = absurd (omega (arith, low, le))
    found (suc n) low le = found-if (suc n == x.broker) n refl le (λ less. found n low less)

-- ---- how it is shown

reverse-map : {A B : Type 0} (f : A → B) (xs : List A) → reverse (map f xs) ≡ map f (reverse xs)
reverse-map f [] = refl
reverse-map f (x ∷ xs) = reverse-append (f x ∷ []) (map f xs) ∙ ap (λ z. z ++ f x ∷ []) (reverse-map f xs) ∙ sym (map-append f (reverse xs) (x ∷ [])) ∙ ap (map f) (sym (reverse-append (x ∷ []) xs))

map-twice : {A B C : Type 0} (g : B → C) (f : A → B) (xs : List A) → map (λ x. g (f x)) xs ≡ map g (map f xs)
map-twice g f [] = refl
map-twice g f (x ∷ xs) = ap (λ z. g (f x) ∷ z) (map-twice g f xs)

-- an act with what was begun of it
pub told-of : (act : ActSpec) (begun : BegunAct) (tries : List TryReport) (r : ActReport) (o : Option ActParts) → Some (kept_act begun) ≡ o → tries ≡ map (λ (t : BegunTry). try_told act.script.lines (kept_try t)) begun.tries.items →
    r ≡ record { index = act.index; broker = act.broker; home = act.home; allowed = act.tries; tries = tries; spent = begun.spent } → r ≡ act_told act o
told-of act begun tries r o is told made =
    let ts = begun.tries.items in
    let same : tries ≡ map (try_told act.script.lines) (reverse (map kept_try (reverse ts))) =
    told ∙ map-twice (try_told act.script.lines) kept_try ts ∙ ap (λ xs. map (try_told act.script.lines) (map kept_try xs)) (sym (reverse-reverse ts)) ∙ ap (map (try_told act.script.lines)) (sym (reverse-map kept_try (reverse ts))) in
    made ∙ (λ i. record { index = act.index; broker = act.broker; home = act.home; allowed = act.tries; tries = same i; spent = begun.spent }) ∙ ap (act_told act) is

module _ (script : List ℕ → Tree) (lines : List Stmt) where
  tries-same : (ts : List Try) → Every (λ (t : Try). script t.task.script ≡ denote (block lines)) ts → map (try_told lines) (map try_parts ts) ≡ map (try_shown script) ts
  tries-same [] h = refl
  tries-same (t ∷ ts) h = λ i. record { stamp = t.stamp; outcome = shown_end t.end; lines = (talked (sym h.0 i) t.answers).lines } ∷ tries-same ts h.1 i

  act-tries : (o : Option Act) → ((a : Act) → o ≡ Some a → Every (λ (t : Try). script t.task.script ≡ denote (block lines)) a.tries) → tries_told lines (option_map act_parts o) ≡ tries_shown script o
  act-tries None h = refl
  act-tries (Some a) h =
      ap (map (try_told lines)) (reverse-map try_parts a.tries)
      ∙ tries-same (reverse a.tries) (every-reverse (λ (t : Try). script t.task.script ≡ denote (block lines)) a.tries (h a refl))

spent-same : (o : Option Act) → spent_told (option_map act_parts o) ≡ spent_at o
spent-same None = refl
spent-same (Some a) = refl

-- what is found has the index, and is one of them
abbrev IsFound : (Act → Type 0) → ℕ → Option Act → Type 0
IsFound P i None = Unit {0}
IsFound P i (Some a) = P a × (a.task.index ≡ i)

found-every : (P : Act → Type 0) (i : ℕ) (acts : List Act) → Every P acts → IsFound P i (act_begun i acts)
found-every P i [] h = tt
found-every P i (a ∷ acts) h = go (a.task.index == i) refl (found-every P i acts h.1)
  where
    go : (c : Bool) → (a.task.index == i) ≡ c → IsFound P i (act_begun i acts) → IsFound P i (if c then Some a else act_begun i acts)
    go true e rest = (h.0, eqb-true _ _ e)
    go false e rest = rest

found-has : (P : Act → Type 0) (i : ℕ) (o : Option Act) (a : Act) → IsFound P i o → o ≡ Some a → P a × (a.task.index ≡ i)
found-has P i o a h e = subst (IsFound P i) e h

-- both hold of each
every-both : (P Q : Act → Type 0) (acts : List Act) → Every P acts → Every Q acts → Every (λ a. P a × Q a) acts
every-both P Q [] h k = tt
every-both P Q (a ∷ acts) h k = ((h.0, k.0), every-both P Q acts h.1 k.1)

tries-read : (plan : Plan) (lines : List Stmt) (a : Act) → reading plan.acts a.task.script ≡ denote (block lines) → (ts : List Try) → Every (λ (t : Try). (t.task ≡ a.task) × (t.run ≡ a.run)) ts →
    Every (λ (t : Try). reading plan.acts t.task.script ≡ denote (block lines)) ts
tries-read plan lines a e [] h = tt
tries-read plan lines a e (t ∷ ts) h = (ap (λ (k : Task). reading plan.acts k.script) h.0.0 ∙ e, tries-read plan lines a e ts h.1)

module _ (plan : Plan) (w : CanRun plan) (logs : NodeId → List Effect) (x : ActSpec) (among : Has x plan.acts) where
  abbrev begun : Option Act
  begun = act_begun x.index (begun_acts plan logs x.broker)

  own-tries : (a : Act) → begun ≡ Some a → Every (λ (t : Try). reading plan.acts t.task.script ≡ denote (block x.script.lines)) a.tries
  own-tries a e =
      let P : Act → Type 0 = λ a. IsOwn plan x.broker a × OfAct a in
      let h = found-has P x.index begun a (found-every P x.index (begun_acts plan logs x.broker) (every-both (IsOwn plan x.broker) OfAct (begun_acts plan logs x.broker) (begun-own plan logs x.broker) (begun-tries plan logs x.broker))) e in
      let o = h.0.0 in
      let i : o.spec.index ≡ x.index = sym (ap (λ (t : Task). t.index) o.task_is) ∙ h.1 in
      let s : Some o.spec ≡ Some x = sym (numbered-is plan w o.spec o.among) ∙ ap (numbered plan.acts) i ∙ numbered-is plan w x among in
      let t : o.spec ≡ x = cc in
      let e' : reading plan.acts a.task.script ≡ denote (block x.script.lines) =
      ap (λ (t : Task). reading plan.acts t.script) o.task_is ∙ read-own plan w o.spec o.among ∙ ap (λ (y : ActSpec). denote (block y.script.lines)) t in
      tries-read plan x.script.lines a e' a.tries h.0.1

  told-is : act_told x (option_map act_parts begun) ≡ act_shown plan logs x
  told-is = λ i. record {
    index = x.index;
    broker = x.broker;
    home = x.home;
    allowed = x.tries;
    tries = act-tries (reading plan.acts) x.script.lines begun own-tries i;
    spent = spent-same begun i;
  }

  act-is : 1 ≤ x.broker → x.broker ≤ plan.brokers → act_told x (part_at x.index (map act_parts (begun_to plan logs plan.brokers))) ≡ act_shown plan logs x
  act-is low high = ap (act_told x) (part-is x.index (begun_to plan logs plan.brokers) ∙ ap (option_map act_parts) (found plan w x among logs plan.brokers low high)) ∙ told-is

brokers-in : (repositories brokers n : ℕ) (acts : List ActSpec) → EachAct repositories brokers n acts → Every (λ (a : ActSpec). (1 ≤ a.broker) × (a.broker ≤ brokers)) acts
brokers-in repositories brokers n [] h = tt
brokers-in repositories brokers n (a ∷ acts) h = ((h.0.broker.0, h.0.broker.1), brokers-in repositories brokers (n + 1) acts h.1)

module _ (plan : Plan) (w : CanRun plan) (logs : NodeId → List Effect) where
  acts-same : (acts : List ActSpec) → Every (λ (a : ActSpec). (1 ≤ a.broker) × (a.broker ≤ plan.brokers)) acts → ((x : ActSpec) → Has x acts → Has x plan.acts) →
      map (λ a. act_told a (part_at a.index (map act_parts (begun_to plan logs plan.brokers)))) acts ≡ map (act_shown plan logs) acts
  acts-same [] h k = refl
  acts-same (a ∷ acts) h k = λ i. act-is plan w logs a (k a (inl refl)) h.0.0 h.0.1 i ∷ acts-same acts h.1 (λ x m. k x (inr m)) i

  pub acts-are : (parts : List ActParts) → parts ≡ map act_parts (begun_to plan logs plan.brokers) → map (λ (a : ActSpec). act_told a (part_at a.index parts)) plan.acts ≡ acts_shown plan logs
  acts-are parts e =
      ap (λ (ps : List ActParts). map (λ (a : ActSpec). act_told a (part_at a.index ps)) plan.acts) e
      ∙ acts-same plan.acts (brokers-in plan.repositories plan.brokers 1 plan.acts w.acts) (λ x m. m)
