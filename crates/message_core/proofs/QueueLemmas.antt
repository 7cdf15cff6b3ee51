-- One queue of a map changes.
use Rattle.message_core.proofs.Names.{◌≡◌, ℕ, suc, ◌+◌, ◌≤◌, ◌<◌, get_or, subst, ◌-◌, ◌++◌, arith, List, [], ◌∷◌, Bool, true, false, cond, length, take, map, refl, sym, ap, ◌∙◌, Option, Some, None, Result, Ok, Err, OnOk, OnErr, if◌then◌else◌, option_map, filter, lookup, is_at, VecDeque, append-nil, append_assoc, map-append, length-append, take-append_seam, take-suc, NodeId, HeldCopy, same_node, going_to, put, puts, queue_in, Grew}
use Rattle.std.proofs.lemmas.List.Elements.{filter-append}
use Rattle.message_core.proofs.NodeLemmas.{same_is, finds_same, found_same}
use Rattle.pseudo_time.specs.contracts.nodes.NodeIdOrd.TheImpl as order

kept_at : (b : Bool) (o : Option (List ℕ)) → (if b then option_map (λ queue. queue) o else o) ≡ o
kept_at true None = refl
kept_at true (Some queue) = refl
kept_at false o = refl

module _ {A : Type 0} where
  -- the deque at a node, as the map has it
  abbrev pub deque_at : List (NodeId × VecDeque ℕ A) → NodeId → Option (VecDeque ℕ A)
  deque_at es n = lookup (same_node n) es

  -- only the deque of this node changes
  abbrev pub Puts : NodeId → Option (VecDeque ℕ A) → List (NodeId × VecDeque ℕ A) → List (NodeId × VecDeque ℕ A) → Type 0
  Puts node w es fs = (n : NodeId) → deque_at fs n ≡ cond (same_node node n) w (deque_at es n)

  -- what a map says of its entries, by names
  pub puts_of : (node : NodeId) (w : Option (VecDeque ℕ A)) (es fs : List (NodeId × VecDeque ℕ A))
      → ((n : NodeId) → lookup (is_at (order.cmp-value.it n)) fs ≡ cond (is_at (order.cmp-value.it node) n) w (lookup (is_at (order.cmp-value.it n)) es)) → Puts node w es fs
  puts_of node w es fs puts n = sym (found_same fs n) ∙ puts n ∙ ap (λ b. cond b w (lookup (is_at (order.cmp-value.it n)) es)) (finds_same node n) ∙ ap (cond (same_node node n) w) (found_same es n)

  abbrev seen : Option (VecDeque ℕ A) → Option (List ℕ)
  seen o = option_map (λ queue. queue.items) o

  changed_at : (F : List ℕ → List ℕ) (es : List (NodeId × VecDeque ℕ A)) (node n : NodeId) (q w : VecDeque ℕ A) (b : Bool) → same_node node n ≡ b → deque_at es node ≡ Some q → w.items ≡ F q.items
      → seen (cond b (Some w) (deque_at es n)) ≡ (if b then option_map F (queue_in es n) else queue_in es n)
  changed_at F es node n q w true same there items =
      let here : deque_at es n ≡ Some q = ap (deque_at es) (sym (same_is node n same)) ∙ there in
      ap Some items ∙ sym (ap (λ o. option_map F (seen o)) here)
  changed_at F es node n q w false same there items = refl

  pub queue_changed : (F : List ℕ → List ℕ) (es fs : List (NodeId × VecDeque ℕ A)) (node : NodeId) (q w : VecDeque ℕ A) → Puts node (Some w) es fs → deque_at es node ≡ Some q → w.items ≡ F q.items
      → (n : NodeId) → queue_in fs n ≡ (if same_node node n then option_map F (queue_in es n) else queue_in es n)
  queue_changed F es fs node q w puts there items n = ap seen (puts n) ∙ changed_at F es node n q w (same_node node n) refl there items

  pub queue_kept : (es fs : List (NodeId × VecDeque ℕ A)) (node : NodeId) (q w : VecDeque ℕ A) → Puts node (Some w) es fs → deque_at es node ≡ Some q → w.items ≡ q.items → (n : NodeId) → queue_in fs n ≡ queue_in es n
  queue_kept es fs node q w puts there items n = queue_changed (λ queue. queue) es fs node q w puts there items n ∙ kept_at (same_node node n) (queue_in es n)

  closed_at : (b : Bool) (o : Option (VecDeque ℕ A)) → seen (cond b None o) ≡ (if b then None else seen o)
  closed_at true o = refl
  closed_at false o = refl

  pub queue_closed : (es fs : List (NodeId × VecDeque ℕ A)) (node : NodeId) → Puts node None es fs → (n : NodeId) → queue_in fs n ≡ (if same_node node n then None else queue_in es n)
  queue_closed es fs node puts n = ap seen (puts n) ∙ closed_at (same_node node n) (deque_at es n)

-- ---- copies at the ends of queues

one_at : (b : Bool) (number : ℕ) (to : NodeId) (o : Option (List ℕ))
    → (if b then option_map (λ queue. queue ++ number ∷ []) o else o) ≡ option_map (λ queue. queue ++ map (λ (h : HeldCopy). h.number) (cond b ((record { number = number; to = to }) ∷ []) [])) o
one_at true number to o = refl
one_at false number to None = refl
one_at false number to (Some queue) = ap Some (sym (append-nil queue))

-- one copy more, as what its node's queue has more
pub one_more : (copy : HeldCopy) (before after : NodeId → Option (List ℕ)) → ((n : NodeId) → after n ≡ (if same_node copy.to n then option_map (λ queue. queue ++ copy.number ∷ []) (before n) else before n)) → Grew (copy ∷ []) before after
one_more copy before after changed n = changed n ∙ one_at (same_node copy.to n) copy.number copy.to (before n)

pub going_to-append : (n : NodeId) (xs ys : List HeldCopy) → going_to n (xs ++ ys) ≡ going_to n xs ++ going_to n ys
going_to-append n xs ys = ap (map (λ (h : HeldCopy). h.number)) (filter-append (λ (h : HeldCopy). same_node h.to n) xs ys) ∙ map-append (λ (h : HeldCopy). h.number) (filter (λ (h : HeldCopy). same_node h.to n) xs) (filter (λ (h : HeldCopy). same_node h.to n) ys)

-- ---- undoing

less_one : (n : ℕ) → n + 1 - 1 ≡ n
less_one n = omega arith

pub all_but_last : {X : Type 0} (xs : List X) (x : X) → take (length (xs ++ x ∷ []) - 1) (xs ++ x ∷ []) ≡ xs
all_but_last xs x =
    let l : length (xs ++ x ∷ []) - 1 ≡ length xs = ap (λ n. n - 1) (length-append xs (x ∷ [])) ∙ less_one (length xs) in
    ap (λ n. take n (xs ++ x ∷ [])) l ∙ take-append_seam xs (x ∷ [])

nothing_more : (o : Option (List ℕ)) → option_map (λ queue. queue ++ []) o ≡ o
nothing_more None = refl
nothing_more (Some queue) = ap Some (append-nil queue)

pub grew_nothing : (before after : NodeId → Option (List ℕ)) → Grew [] before after → (n : NodeId) → after n ≡ before n
grew_nothing before after grew n = grew n ∙ nothing_more (before n)

undone_at : (b : Bool) (o : Option (List ℕ)) (xs : List ℕ) (number : ℕ) (to : NodeId)
    → (if b then option_map (λ queue. take (length queue - 1) queue) (option_map (λ queue. queue ++ (xs ++ map (λ (h : HeldCopy). h.number) (cond b ((record { number = number; to = to }) ∷ []) []))) o) else option_map (λ queue. queue ++ (xs ++ map (λ (h : HeldCopy). h.number) (cond b ((record { number = number; to = to }) ∷ []) []))) o) ≡ option_map (λ queue. queue ++ xs) o
undone_at true None xs number to = refl
undone_at true (Some queue) xs number to = ap Some (ap (λ z. take (length z - 1) z) (sym (append_assoc queue xs (number ∷ []))) ∙ all_but_last (queue ++ xs) number)
undone_at false None xs number to = refl
undone_at false (Some queue) xs number to = ap Some (ap (λ z. queue ++ z) (append-nil xs))

-- the last copy is taken back
pub last_undone : (copy : HeldCopy) (earlier : List HeldCopy) (before now after : NodeId → Option (List ℕ)) → Grew (earlier ++ copy ∷ []) before now
    → ((n : NodeId) → after n ≡ (if same_node copy.to n then option_map (λ queue. take (length queue - 1) queue) (now n) else now n)) → Grew earlier before after
last_undone copy earlier before now after grew changed n =
    changed n
    ∙ ap (λ o. if same_node copy.to n then option_map (λ queue. take (length queue - 1) queue) o else o) (grew n ∙ ap (λ z. option_map (λ queue. queue ++ z) (before n)) (going_to-append n earlier (copy ∷ [])))
    ∙ undone_at (same_node copy.to n) (before n) (going_to n earlier) copy.number copy.to

-- ---- one copy of several

pub puts_step : (k copies number overtake : ℕ) (queue new : List ℕ) → k < copies → new ≡ put number overtake queue → puts (copies - (k + 1)) number overtake new ≡ puts (copies - k) number overtake queue
puts_step k copies number overtake queue new below is =
    let up : copies - k ≡ suc (copies - (k + 1)) = omega (arith, below) in
    ap (puts (copies - (k + 1)) number overtake) is ∙ sym (ap (λ n. puts n number overtake queue) up)

-- ---- by the answer of a call

pub on_ok : {T E P Q : Type 0} (r : Result T E) → OnOk r P → (P → Q) → OnOk r Q
on_ok (Ok x) p f = f p
on_ok (Err e) p f = p

pub on_err : {T E P Q : Type 0} (r : Result T E) → OnErr r P → (P → Q) → OnErr r Q
on_err (Ok x) p f = p
on_err (Err e) p f = f p

pub err_so : {T E P : Type 0} (r : Result T E) → P → OnErr r P
err_so (Ok x) p = tt {0}
err_so (Err e) p = p

-- ---- taking copies back, the last one first

pub gathered : (copies : List HeldCopy) (k : ℕ) (d : HeldCopy) (before now : NodeId → Option (List ℕ)) → k < length copies → Grew (take (length copies - k) copies) before now
    → Grew (take (length copies - (k + 1)) copies ++ get_or copies (length copies - 1 - k) d ∷ []) before now
gathered copies k d before now below grew =
    let at : length copies - 1 - k ≡ length copies - (k + 1) = omega arith in
    let up : length copies - k ≡ suc (length copies - (k + 1)) = omega (arith, below) in
    let within : length copies - (k + 1) < length copies = omega (arith, below) in
    let cut : take (length copies - k) copies ≡ take (length copies - (k + 1)) copies ++ get_or copies (length copies - 1 - k) d ∷ [] =
    ap (λ n. take n copies) up ∙ take-suc copies (length copies - (k + 1)) d within ∙ ap (λ n. take (length copies - (k + 1)) copies ++ get_or copies n d ∷ []) (sym at) in
    subst (λ (cs : List HeldCopy). Grew cs before now) cut grew

pub gathered_all : (copies : List HeldCopy) (k : ℕ) (before now : NodeId → Option (List ℕ)) → length copies ≤ k → Grew (take (length copies - k) copies) before now → Grew [] before now
gathered_all copies k before now past grew =
    let none : length copies - k ≡ 0 = omega (arith, past) in
    subst (λ (n : ℕ). Grew (take n copies) before now) none grew
