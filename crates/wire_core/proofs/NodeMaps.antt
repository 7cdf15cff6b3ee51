-- How nodes stand, in the code's map.
use Rattle.std.specs.Map.{lookup}
use Rattle.std.specs.BTreeMap.{is_at}
use Rattle.std.proofs.Math.Seq.{take-suc}
use Rattle.std.proofs.lemmas.List.Folds.{list_any-append}
use Rattle.wire_core.proofs.Names.{NodeId, same_node, found_same, Entry, names, NodeFlags, flags_at, new_flags, after_own, is_idle_at, ◌≡◌, ◌⊎◌, inl, inr, ℕ, suc, ◌+◌, ◌<◌, ◌||◌, Bool, true, false, cond, List, [], ◌∷◌, ◌++◌, length, take, get_or, refl, sym, ap, ◌∙◌, arith, Option, Some, None, if◌then◌else◌, option_map, list_any, same_is, finds_same, after_entry}
use Rattle.pseudo_time.specs.contracts.nodes.NodeIdOrd.TheImpl as order

-- ---- one node changes

-- only this node's flags change
abbrev pub Puts : NodeId → Option NodeFlags → List (NodeId × NodeFlags) → List (NodeId × NodeFlags) → Type 0
Puts node w es fs = (n : NodeId) → flags_at fs n ≡ cond (same_node node n) w (flags_at es n)

-- what a map says of its entries, by names
pub puts_of : (node : NodeId) (w : Option NodeFlags) (es fs : List (NodeId × NodeFlags))
    → ((n : NodeId) → lookup (is_at (order.cmp-value.it n)) fs ≡ cond (is_at (order.cmp-value.it node) n) w (lookup (is_at (order.cmp-value.it n)) es)) → Puts node w es fs
puts_of node w es fs puts n = sym (found_same fs n) ∙ puts n ∙ ap (λ b. cond b w (lookup (is_at (order.cmp-value.it n)) es)) (finds_same node n) ∙ ap (cond (same_node node n) w) (found_same es n)

module _ (last : Option ℕ) (ticks : ℕ) (e : Entry) (es fs : List (NodeId × NodeFlags)) where
  changed-at : (node n : NodeId) (f : NodeFlags) (b : Bool) → same_node node n ≡ b → flags_at es node ≡ Some f
      → cond b (Some (after_own last ticks node.kind e f)) (flags_at es n) ≡ (if b then option_map (after_own last ticks n.kind e) (flags_at es n) else flags_at es n)
  changed-at node n f true same there =
      let here : flags_at es n ≡ Some f = ap (flags_at es) (sym (same_is node n same)) ∙ there in
      ap (λ (m : NodeId). Some (after_own last ticks m.kind e f)) (same_is node n same) ∙ sym (ap (option_map (after_own last ticks n.kind e)) here)
  changed-at node n f false same there = refl

  -- the node that the entry names
  pub noted-one : (node : NodeId) (f w : NodeFlags) → ((n : NodeId) → names n e ≡ same_node node n) → Puts node (Some w) es fs → flags_at es node ≡ Some f → w ≡ after_own last ticks node.kind e f
      → (n : NodeId) → flags_at fs n ≡ after_entry last ticks e n (flags_at es n)
  noted-one node f w own puts there is n =
      puts n ∙ ap (λ (v : NodeFlags). cond (same_node node n) (Some v) (flags_at es n)) is ∙ changed-at node n f (same_node node n) refl there
      ∙ ap (λ b. if b then option_map (after_own last ticks n.kind e) (flags_at es n) else flags_at es n) (sym (own n))

  unknown-at : (node n : NodeId) (b : Bool) → same_node node n ≡ b → None ≡ flags_at es node → flags_at es n ≡ (if b then option_map (after_own last ticks n.kind e) (flags_at es n) else flags_at es n)
  unknown-at node n true same none =
      let here : None ≡ flags_at es n = none ∙ ap (flags_at es) (same_is node n same) in
      sym here ∙ ap (option_map (after_own last ticks n.kind e)) here
  unknown-at node n false same none = refl

  -- one that isn't of the run
  pub noted-unknown : (node : NodeId) → ((n : NodeId) → names n e ≡ same_node node n) → None ≡ flags_at es node → (n : NodeId) → flags_at es n ≡ after_entry last ticks e n (flags_at es n)
  noted-unknown node own none n = unknown-at node n (same_node node n) refl none ∙ ap (λ b. if b then option_map (after_own last ticks n.kind e) (flags_at es n) else flags_at es n) (sym (own n))

  -- an entry that names no node
  pub noted-none : ((n : NodeId) → names n e ≡ false) → (n : NodeId) → flags_at es n ≡ after_entry last ticks e n (flags_at es n)
  noted-none own n = ap (λ b. if b then option_map (after_own last ticks n.kind e) (flags_at es n) else flags_at es n) (sym (own n))

-- ---- as nodes are opened

either-made : (a b : Bool) (f : NodeFlags) (o : Option NodeFlags) → o ≡ (if a then Some f else None) → cond b (Some f) o ≡ (if a || (b || false) then Some f else None)
either-made true true f o old = refl
either-made true false f o old = old
either-made false true f o old = refl
either-made false false f o old = old

one-up : (k : ℕ) → k + 1 ≡ suc k
one-up k = omega arith

pub one-opened : (nodes : List NodeId) (k : ℕ) (node d : NodeId) (w : NodeFlags) (es fs : List (NodeId × NodeFlags)) → k < length nodes → node ≡ get_or nodes k d → w ≡ new_flags → Puts node (Some w) es fs
    → ((n : NodeId) → flags_at es n ≡ (if list_any (λ m. same_node m n) (take k nodes) then Some new_flags else None))
    → (n : NodeId) → flags_at fs n ≡ (if list_any (λ m. same_node m n) (take (k + 1) nodes) then Some new_flags else None)
one-opened nodes k node d w es fs within is new puts all n =
    let cut : take (k + 1) nodes ≡ take k nodes ++ node ∷ [] = ap (λ j. take j nodes) (one-up k) ∙ take-suc nodes k d within ∙ ap (λ m. take k nodes ++ m ∷ []) (sym is) in
    let test : list_any (λ m. same_node m n) (take (k + 1) nodes) ≡ (list_any (λ m. same_node m n) (take k nodes) || (same_node node n || false)) = ap (list_any (λ m. same_node m n)) cut ∙ list_any-append (λ m. same_node m n) (take k nodes) (node ∷ []) in
    puts n ∙ ap (λ (v : NodeFlags). cond (same_node node n) (Some v) (flags_at es n)) new
    ∙ either-made (list_any (λ m. same_node m n) (take k nodes)) (same_node node n) new_flags (flags_at es n) (all n)
    ∙ ap (λ b. if b then Some new_flags else None) (sym test)

-- ---- one node after the other

-- each node is idle, or it is among those that are left
abbrev pub AreLeft : Option ℕ → ℕ → List (NodeId × NodeFlags) → List (NodeId × NodeFlags) → Type 0
AreLeft last ticks es left = (n : NodeId) → (is_idle_at last ticks n (flags_at es n) ≡ true) ⊎ (flags_at left n ≡ flags_at es n)

module _ (last : Option ℕ) (ticks : ℕ) (es : List (NodeId × NodeFlags)) where
  left-at : (left : List (NodeId × NodeFlags)) (k n : NodeId) (v : NodeFlags) (b : Bool) → same_node n k ≡ b → (is_idle_at last ticks n (flags_at es n) ≡ true) ⊎ (cond b (Some v) (flags_at left n) ≡ flags_at es n)
      → is_idle_at last ticks k (flags_at es k) ≡ true → (is_idle_at last ticks n (flags_at es n) ≡ true) ⊎ (flags_at left n ≡ flags_at es n)
  left-at left k n v true same all idle = inl (ap (λ (m : NodeId). is_idle_at last ticks m (flags_at es m)) (same_is n k same) ∙ idle)
  left-at left k n v false same all idle = all

  pub one-idle : (left : List (NodeId × NodeFlags)) (k : NodeId) (v : NodeFlags) → AreLeft last ticks es ((k, v) ∷ left) → is_idle_at last ticks k (flags_at es k) ≡ true → AreLeft last ticks es left
  one-idle left k v all idle n = left-at left k n v (same_node n k) refl (all n) idle

  either-idle : (n : NodeId) → (is_idle_at last ticks n (flags_at es n) ≡ true) ⊎ (None ≡ flags_at es n) → is_idle_at last ticks n (flags_at es n) ≡ true
  either-idle n (inl idle) = idle
  either-idle n (inr none) = sym (ap (is_idle_at last ticks n) none)

  pub all-idle : AreLeft last ticks es [] → (n : NodeId) → is_idle_at last ticks n (flags_at es n) ≡ true
  all-idle all n = either-idle n (all n)
