-- What a node's own story says of the whole list of a run.
use Rattle.run_rounds.proofs.Names.{Every, Has, NodeId, NodeKind, Repository, Broker, is_broker, same_node, same_is, same_node-refl, DownCause, CarriesOn, entries_of, Entry, Take, Go, Learn, Hear, Gate, Crash, Down, Tick, Trace, Base, is_down, names, own, walk, Plan, in_plan, is_within, most_of, Origin, base_from, owner_for, owner_of, Sight, IsOf, base_at, flags_at, life_at, end_of, costs, is_over, is_done_at, life-whole, filter-has, in-range, ◌≡◌, ◌≤◌, ◌+◌, ◌==◌, ◌∙◌, ◌++◌, ℕ, Bool, true, false, List, [], ◌∷◌, cond, length, length-append, map, inl, refl, ap, sym, subst, arith, if◌then◌else◌, list_any, nat_tests, length-map, has-right, sent_by, post_of, sent-grows, owner_with, Owns, world_at, as-before}
use Rattle.run_rounds.proofs.ListLemmas.{any-has}

-- ---- flags

-- at the end the node has the flags that its pass has seen
module _ (k : Sight) (n : NodeId) (es : List Entry) (b : Base) (is : IsOf n k) (owns : Owns k) (car : CarriesOn owner_of k es) (at : base_at k ≡ b) where
  pub flags-whole : (walk b es).flags n ≡ flags_at k n
  flags-whole = subst (λ (x : Base). (walk x es).flags n ≡ flags_at k n) at ((as-before k es owns car).flags n is)

-- ---- messages

-- enough messages in what a pass has seen are enough at the end
pub enough-whole : (k : Sight) (o : Origin) (t : Trace) (most : ℕ) → base_at k ≡ base_from o → CarriesOn owner_of k t.entries → map post_of t.sent ≡ sent_by (end_of o t)
    → most ≤ length (sent_by (world_at k)) → most ≤ length t.sent
enough-whole k o t most at car sent few =
    let b = base_from o in
    let g = sent-grows b k.story car.begins.0 in
    let all : length (sent_by (end_of o t)) ≡ length (sent_by (walk b k.story)) + length g.0 =
    ap (λ (es : List Entry). length (sent_by (walk b es))) (sym car.begins.1) ∙ (ap length g.1 ∙ length-append (sent_by (walk b k.story)) g.0) in
    let here : length (sent_by (world_at k)) ≡ length (sent_by (walk b k.story)) = ap (λ (x : Base). length (sent_by (walk x k.story))) at in
    let told : length t.sent ≡ length (sent_by (end_of o t)) = sym (length-map t.sent post_of) ∙ ap length sent in
    omega (arith, all, here, told, few)

-- ---- nodes that are down

-- a node's last entry, its Down, stands in the whole list
pub down-in : (k : Sight) (es before : List Entry) (n : NodeId) (cause : DownCause) → CarriesOn owner_of k es → k.own ≡ before ++ Down n cause ∷ [] → Has (Down n cause) es
down-in k es before n cause car last =
    filter-has (λ e. owner_of e == k.owner) es (Down n cause) (subst (Has (Down n cause)) (sym (car.own ∙ last)) (has-right before (Down n cause ∷ []) (Down n cause) (inl refl)))

-- a node whose last entry is its Down is down in the run
pub down-whole : (k : Sight) (es before : List Entry) (n : NodeId) (cause : DownCause) → CarriesOn owner_of k es → k.own ≡ before ++ Down n cause ∷ [] → list_any is_down es ≡ true
down-whole k es before n cause car last = any-has is_down es (Down n cause) (down-in k es before n cause car last) refl

-- ---- brokers that are done

-- a broker that is done in its own sight is done at the end
pub done-whole : (k : Sight) (n : NodeId) (es : List Entry) (b : Base) → IsOf n k → Owns k → CarriesOn owner_of k es → base_at k ≡ b → is_broker n.kind ≡ true → is_done_at k n ≡ true → is_over b n.number ((walk b es).life n) ≡ true
done-whole k n es b is owns car at broker done =
    let here : is_over (base_at k) n.number (life_at k n) ≡ true = subst (λ (t : Bool). (if t then is_over (base_at k) n.number (life_at k n) else true) ≡ true) broker done in
    ap (is_over b n.number) (life-whole k n es b is owns car at) ∙ (sym (ap (λ (x : Base). is_over x n.number (life_at k n)) at) ∙ here)

-- ---- costs

owner-same : (a n : NodeId) → same_node a n ≡ true → owner_for a ≡ owner_for n
owner-same a n h = ap owner_for (same_is a n h)

names-owner : (n : NodeId) (e : Entry) → names n e ≡ true → owner_of e ≡ owner_for n
names-owner n (Take node number) h = owner-same node n h
names-owner n (Go node) h = owner-same node n h
names-owner n (Learn node stamp committed) h = owner-same node n h
names-owner n (Hear node) h = owner-same node n h
names-owner n (Gate node) h = owner-same node n h
names-owner n (Crash node kept) h = owner-same node n h
names-owner n (Down node cause) h = owner-same node n h
names-owner n (Tick moment) h = absurd (cc h)

-- a node's entries cost no more than those of its owner
costs-fewer : (n : NodeId) (es : List Entry) → costs (own n es) ≤ costs (entries_of owner_of (owner_for n) es)
costs-fewer n [] = omega arith
costs-fewer n (e ∷ es) = step (costs-fewer n es) (owner_of e == owner_for n) (names n e) refl refl
  where
    step : costs (own n es) ≤ costs (entries_of owner_of (owner_for n) es) → (t s : Bool) → (owner_of e == owner_for n) ≡ t → names n e ≡ s
        → costs (cond s (e ∷ own n es) (own n es)) ≤ costs (cond t (e ∷ entries_of owner_of (owner_for n) es) (entries_of owner_of (owner_for n) es))
    step rest true true p q = omega (arith, rest)
    step rest true false p q = omega (arith, rest)
    step rest false true p q = let o = names-owner n e q in absurd (grind (arith, nat_tests))
    step rest false false p q = rest

-- and no more than those of its pass
pub costs-whole : (k : Sight) (n : NodeId) (es : List Entry) → IsOf n k → CarriesOn owner_of k es → costs (own n es) ≤ costs k.own
costs-whole k n es is car = subst (λ (l : List Entry). costs (own n es) ≤ costs l) (subst (λ (o : ℕ). entries_of owner_of o es ≡ k.own) is car.own) (costs-fewer n es)

-- ---- names

abbrev node_id : NodeKind → ℕ → NodeId
node_id k number = record { kind = k; number = number }

module _ (plan : Plan) (few : plan.repositories ≤ 16) where
  one-kind : (j k : NodeKind) (a b : ℕ) → is_within a (most_of plan j) ≡ true → is_within b (most_of plan k) ≡ true → owner_with j a ≡ owner_with k b → node_id j a ≡ node_id k b
  one-kind Repository Repository a b g h e = ap (node_id Repository) e
  one-kind Repository Broker a b g h e = let low = (in-range b plan.brokers h).0 in let high = (in-range a plan.repositories g).1 in absurd (omega (arith, e, low, high, few))
  one-kind Broker Repository a b g h e = let low = (in-range a plan.brokers g).0 in let high = (in-range b plan.repositories h).1 in absurd (omega (arith, e, low, high, few))
  one-kind Broker Broker a b g h e = let same : a ≡ b = omega (arith, e) in ap (node_id Broker) same

  -- each owner is that of one node of the plan
  owner-one : (m n : NodeId) → in_plan plan m ≡ true → in_plan plan n ≡ true → owner_for m ≡ owner_for n → m ≡ n
  owner-one m n g h e = one-kind m.kind n.kind m.number n.number g h e

  owner-low : (k : NodeKind) (a : ℕ) → is_within a (most_of plan k) ≡ true → 1 ≤ owner_with k a
  owner-low Repository a h = (in-range a plan.repositories h).0
  owner-low Broker a h = omega arith

  module _ (n : NodeId) (is : in_plan plan n ≡ true) where
    -- the entry's node, if it has one, is the plan's
    abbrev Named : Entry → Type 0
    Named e = (m : NodeId) → names m e ≡ true → in_plan plan m ≡ true

    node-named : (node : NodeId) → in_plan plan node ≡ true → owner_for node ≡ owner_for n → same_node node n ≡ true
    node-named node g e = subst (λ (m : NodeId). same_node node m ≡ true) (owner-one node n g is e) (same_node-refl node)

    owner-names : (e : Entry) → Named e → owner_of e ≡ owner_for n → names n e ≡ true
    owner-names (Take node number) h o = node-named node (h node (same_node-refl node)) o
    owner-names (Go node) h o = node-named node (h node (same_node-refl node)) o
    owner-names (Learn node stamp committed) h o = node-named node (h node (same_node-refl node)) o
    owner-names (Hear node) h o = node-named node (h node (same_node-refl node)) o
    owner-names (Gate node) h o = node-named node (h node (same_node-refl node)) o
    owner-names (Crash node kept) h o = node-named node (h node (same_node-refl node)) o
    owner-names (Down node cause) h o = node-named node (h node (same_node-refl node)) o
    owner-names (Tick moment) h o = let low = owner-low n.kind n.number is in absurd (omega (arith, o, low))

    -- where each entry's node is the plan's, the entries of a node's owner are its own
    pub own-whole : (es : List Entry) → Every Named es → entries_of owner_of (owner_for n) es ≡ own n es
    own-whole [] h = refl
    own-whole (e ∷ es) h = step (own-whole es h.1) (owner_of e == owner_for n) (names n e) refl refl
      where
        step : entries_of owner_of (owner_for n) es ≡ own n es → (t s : Bool) → (owner_of e == owner_for n) ≡ t → names n e ≡ s
            → cond t (e ∷ entries_of owner_of (owner_for n) es) (entries_of owner_of (owner_for n) es) ≡ cond s (e ∷ own n es) (own n es)
        step rest true true p q = ap (λ (l : List Entry). e ∷ l) rest
        step rest true false p q = let o : owner_of e ≡ owner_for n = grind (arith, nat_tests) in let z : true ≡ false = sym (owner-names e h.0 o) ∙ q in absurd (cc z)
        step rest false true p q = let o = names-owner n e q in absurd (grind (arith, nat_tests))
        step rest false false p q = rest
