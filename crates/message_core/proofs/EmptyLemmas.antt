-- Maps of empty queues.
use Rattle.message_core.proofs.Names.{◌≡◌, ℕ, suc, ◌+◌, ◌<◌, ◌||◌, ◌⊎◌, inl, inr, Bool, true, false, cond, List, [], ◌∷◌, ◌++◌, length, take, get_or, refl, sym, ap, ◌∙◌, arith, Option, Some, None, is_some, slice_get, if◌then◌else◌, option_map, unwrap_or, list_any, VecDeque, take-suc, NodeId, same_node, queue_in}
use Rattle.std.proofs.lemmas.List.Folds.{list_any-append}
use Rattle.message_core.proofs.NodeLemmas.{same_is}
use Rattle.message_core.proofs.QueueLemmas.{Puts, deque_at}
use Rattle.message_core.proofs.TakeLemmas.{no_front}

-- ---- making them

either_made : (a b : Bool) (items : List ℕ) (o : Option (List ℕ)) → items ≡ [] → o ≡ (if a then Some [] else None) → cond b (Some items) o ≡ (if a || (b || false) then Some [] else None)
either_made true true items o is old = ap Some is
either_made true false items o is old = old
either_made false true items o is old = ap Some is
either_made false false items o is old = old

one_up : (k : ℕ) → k + 1 ≡ suc k
one_up k = omega arith

module _ {A : Type 0} where
  seen_cond : (b : Bool) (w : VecDeque ℕ A) (o : Option (VecDeque ℕ A)) → option_map (λ queue. queue.items) (cond b (Some w) o) ≡ cond b (Some w.items) (option_map (λ queue. queue.items) o)
  seen_cond true w o = refl
  seen_cond false w o = refl

  pub one_made : (nodes : List NodeId) (k : ℕ) (node d : NodeId) (w : VecDeque ℕ A) (es fs : List (NodeId × VecDeque ℕ A)) → k < length nodes → node ≡ get_or nodes k d → w.items ≡ [] → Puts node (Some w) es fs
      → ((n : NodeId) → queue_in es n ≡ (if list_any (λ m. same_node m n) (take k nodes) then Some [] else None))
      → (n : NodeId) → queue_in fs n ≡ (if list_any (λ m. same_node m n) (take (k + 1) nodes) then Some [] else None)
  one_made nodes k node d w es fs within is empty puts all n =
      let cut : take (k + 1) nodes ≡ take k nodes ++ node ∷ [] = ap (λ j. take j nodes) (one_up k) ∙ take-suc nodes k d within ∙ ap (λ m. take k nodes ++ m ∷ []) (sym is) in
      let test : list_any (λ m. same_node m n) (take (k + 1) nodes) ≡ (list_any (λ m. same_node m n) (take k nodes) || (same_node node n || false)) = ap (list_any (λ m. same_node m n)) cut ∙ list_any-append (λ m. same_node m n) (take k nodes) (node ∷ []) in
      ap (option_map (λ queue. queue.items)) (puts n) ∙ seen_cond (same_node node n) w (deque_at es n)
      ∙ either_made (list_any (λ m. same_node m n) (take k nodes)) (same_node node n) w.items (queue_in es n) empty (all n)
      ∙ ap (λ b. if b then Some [] else None) (sym test)

  -- ---- testing them

  abbrev pub waits : List (NodeId × VecDeque ℕ A) → NodeId → List ℕ
  waits es n = unwrap_or (queue_in es n) []

  -- each node's queue is empty, or it is among those that are left
  abbrev pub AreLeft : List (NodeId × VecDeque ℕ A) → List (NodeId × VecDeque ℕ A) → Type 0
  AreLeft es left = (n : NodeId) → (waits es n ≡ []) ⊎ (deque_at left n ≡ deque_at es n)

  left_at : (es left : List (NodeId × VecDeque ℕ A)) (k n : NodeId) (v : VecDeque ℕ A) (b : Bool) → same_node n k ≡ b → (waits es n ≡ []) ⊎ (cond b (Some v) (deque_at left n) ≡ deque_at es n) → waits es k ≡ [] → (waits es n ≡ []) ⊎ (deque_at left n ≡ deque_at es n)
  left_at es left k n v true same all empty = inl (ap (waits es) (same_is n k same) ∙ empty)
  left_at es left k n v false same all empty = all

  pub one_tested : (es left : List (NodeId × VecDeque ℕ A)) (k : NodeId) (v : VecDeque ℕ A) → AreLeft es ((k, v) ∷ left) → waits es k ≡ [] → AreLeft es left
  one_tested es left k v all empty n = left_at es left k n v (same_node n k) refl (all n) empty

  either_empty : (es : List (NodeId × VecDeque ℕ A)) (n : NodeId) → (waits es n ≡ []) ⊎ (deque_at {A = A} [] n ≡ deque_at es n) → waits es n ≡ []
  either_empty es n (inl empty) = empty
  either_empty es n (inr none) = sym (ap (λ o. unwrap_or (option_map (λ queue. queue.items) o) []) none)

  pub all_tested : (es : List (NodeId × VecDeque ℕ A)) → AreLeft es [] → (n : NodeId) → waits es n ≡ []
  all_tested es all n = either_empty es n (all n)

-- a node with no front copy
pub empty_so : (queue : List ℕ) (o : Option ℕ) (b : Bool) → o ≡ slice_get queue 0 → b ≡ is_some o → b ≡ false → queue ≡ []
empty_so queue None b front is same = no_front queue front
empty_so queue (Some k) b front is same = absurd (let never : ⊥ = cc (sym is ∙ same) in never)
