-- What the code's fields hold, as a state.
use Rattle.message_core.proofs.Names.{◌≡◌, ℕ, ◌+◌, ◌==◌, ◌&&◌, not, List, [], ◌∷◌, ◌++◌, length, replicate, Bool, true, false, refl, sym, ap, ◌∙◌, Option, Some, None, drop, if◌then◌else◌, option_map, unwrap_or, nat_cmp, Vec, is_at, VecDeque, fun_ext, NodeId, Letter, HeldCopy, same_node, State, puts, going_to, sent_at_once, sent_later, sent, taken, passed, was_shut, Fate, copies_of, queue_in, held_in, queues_seen, held_seen, Grew, queue_at, held_at, state_of, parts_of}
use Rattle.std.proofs.lemmas.Map.Made.{lookup-map_values}
use Rattle.message_core.proofs.NodeLemmas.{same_is}

pub queue_seen : {A : Type 0} (es : List (NodeId × VecDeque ℕ A)) (n : NodeId) → queue_at (queues_seen es) n ≡ queue_in es n
queue_seen es n = lookup-map_values (λ queue. queue.items) (same_node n) es

pub copies_seen : (es : List (ℕ × Vec HeldCopy)) (d : ℕ) → held_at (held_seen es) d ≡ held_in es d
copies_seen es d = ap (λ o. unwrap_or o []) (lookup-map_values (λ copies. copies.items) (is_at (nat_cmp d)) es)

-- the fields hold a state
pub holds_state : {A : Type 0} (ls : List Letter) (t : ℕ) (qs : List (NodeId × VecDeque ℕ A)) (hs : List (ℕ × Vec HeldCopy)) (s : State)
    → ls ≡ s.letters → t ≡ s.ticks → ((n : NodeId) → queue_in qs n ≡ s.queues n) → ((d : ℕ) → held_in hs d ≡ s.held d)
    → state_of (parts_of ls t qs hs) ≡ s
holds_state ls t qs hs s letters ticks queues held = λ i. record {
  letters = letters i;
  ticks = ticks i;
  queues = fun_ext (λ n. queue_seen qs n ∙ queues n) i;
  held = fun_ext (λ d. copies_seen hs d ∙ held d) i;
}

-- ---- the fields after a call

module _ {A : Type 0} (ls : List Letter) (t : ℕ) (qs : List (NodeId × VecDeque ℕ A)) (hs : List (ℕ × Vec HeldCopy)) where
  abbrev pub now : State
  now = state_of (parts_of ls t qs hs)

  pub same_fields : (qs' : List (NodeId × VecDeque ℕ A)) (hs' : List (ℕ × Vec HeldCopy)) → ((n : NodeId) → queue_in qs' n ≡ queue_in qs n) → ((d : ℕ) → held_in hs' d ≡ held_in hs d) → state_of (parts_of ls t qs' hs') ≡ now
  same_fields qs' hs' queues held = holds_state ls t qs' hs' now refl refl (λ n. queues n ∙ sym (queue_seen qs n)) (λ d. held d ∙ sym (copies_seen hs d))

  sent_by : (b : Bool) (letter : Letter) (fate : Fate) (qs' : List (NodeId × VecDeque ℕ A)) (hs' : List (ℕ × Vec HeldCopy))
      → ((n : NodeId) → queue_in qs' n ≡ (if b && same_node letter.to n then option_map (puts (copies_of fate) (length ls + 1) fate.overtake) (queue_in qs n) else queue_in qs n))
      → ((d : ℕ) → held_in hs' d ≡ (if not b && (t + fate.hold == d) then held_in hs d ++ replicate (copies_of fate) (record { number = length ls + 1; to = letter.to }) else held_in hs d))
      → state_of (parts_of (ls ++ letter ∷ []) t qs' hs') ≡ (if b then sent_at_once now letter fate else sent_later now letter fate)
  sent_by true letter fate qs' hs' queues held = holds_state (ls ++ letter ∷ []) t qs' hs' (sent_at_once now letter fate) refl refl
      (λ n. queues n ∙ ap (λ o. if same_node letter.to n then option_map (puts (copies_of fate) (length ls + 1) fate.overtake) o else o) (sym (queue_seen qs n)))
      (λ d. held d ∙ sym (copies_seen hs d))
  sent_by false letter fate qs' hs' queues held = holds_state (ls ++ letter ∷ []) t qs' hs' (sent_later now letter fate) refl refl
      (λ n. queues n ∙ sym (queue_seen qs n))
      (λ d. held d ∙ ap (λ cs. if t + fate.hold == d then cs ++ replicate (copies_of fate) (record { number = length ls + 1; to = letter.to }) else cs) (sym (copies_seen hs d)))

  pub sent_fields : (letter : Letter) (fate : Fate) (number : ℕ) (qs' : List (NodeId × VecDeque ℕ A)) (hs' : List (ℕ × Vec HeldCopy)) → number ≡ length ls + 1
      → ((n : NodeId) → queue_in qs' n ≡ (if (fate.hold == 0) && same_node letter.to n then option_map (puts (copies_of fate) number fate.overtake) (queue_in qs n) else queue_in qs n))
      → ((d : ℕ) → held_in hs' d ≡ (if not (fate.hold == 0) && (t + fate.hold == d) then held_in hs d ++ replicate (copies_of fate) (record { number = number; to = letter.to }) else held_in hs d))
      → state_of (parts_of (ls ++ letter ∷ []) t qs' hs') ≡ sent now letter fate
  sent_fields letter fate number qs' hs' is queues held = sent_by (fate.hold == 0) letter fate qs' hs'
      (λ n. queues n ∙ ap (λ k. if (fate.hold == 0) && same_node letter.to n then option_map (puts (copies_of fate) k fate.overtake) (queue_in qs n) else queue_in qs n) is)
      (λ d. held d ∙ ap (λ k. if not (fate.hold == 0) && (t + fate.hold == d) then held_in hs d ++ replicate (copies_of fate) (record { number = k; to = letter.to }) else held_in hs d) is)

  pub taken_fields : (node : NodeId) (qs' : List (NodeId × VecDeque ℕ A)) → ((n : NodeId) → queue_in qs' n ≡ (if same_node node n then option_map (drop 1) (queue_in qs n) else queue_in qs n)) → state_of (parts_of ls t qs' hs) ≡ taken now node
  taken_fields node qs' queues = holds_state ls t qs' hs (taken now node) refl refl
      (λ n. queues n ∙ ap (λ o. if same_node node n then option_map (drop 1) o else o) (sym (queue_seen qs n)))
      (λ d. sym (copies_seen hs d))

  no_front : (b : Bool) (o : Option (List ℕ)) → (b ≡ true → unwrap_or o [] ≡ []) → o ≡ (if b then option_map (drop 1) o else o)
  no_front true None none = refl
  no_front true (Some queue) none = ap Some (none refl ∙ sym (ap (drop 1) (none refl)))
  no_front false o none = refl

  pub none_fields : (node : NodeId) → unwrap_or (queue_in qs node) [] ≡ [] → now ≡ taken now node
  none_fields node none = holds_state ls t qs hs (taken now node) refl refl
      (λ n. sym (queue_seen qs n) ∙ no_front (same_node node n) (queue_at (queues_seen qs) n) (λ same. ap (λ o. unwrap_or o []) (queue_seen qs n) ∙ ap (λ m. unwrap_or (queue_in qs m) []) (sym (same_is node n same)) ∙ none))
      (λ d. sym (copies_seen hs d))

  pub passed_fields : (tick : ℕ) (qs' : List (NodeId × VecDeque ℕ A)) (hs' : List (ℕ × Vec HeldCopy)) → tick ≡ t + 1 → Grew (held_in hs tick) (queue_in qs) (queue_in qs') → ((d : ℕ) → held_in hs' d ≡ (if tick == d then [] else held_in hs d))
      → state_of (parts_of ls tick qs' hs') ≡ passed now
  passed_fields tick qs' hs' is grew held = holds_state ls tick qs' hs' (passed now) refl is
      (λ n. grew n ∙ ap (λ cs. option_map (λ queue. queue ++ going_to n cs) (queue_in qs n)) (ap (held_in hs) is ∙ sym (copies_seen hs (t + 1))) ∙ ap (option_map (λ queue. queue ++ going_to n (held_at (held_seen hs) (t + 1)))) (sym (queue_seen qs n)))
      (λ d. held d ∙ ap (λ k. if k == d then [] else held_in hs d) is ∙ ap (λ cs. if t + 1 == d then [] else cs) (sym (copies_seen hs d)))

  pub shut_fields : (node : NodeId) (qs' : List (NodeId × VecDeque ℕ A)) → ((n : NodeId) → queue_in qs' n ≡ (if same_node node n then None else queue_in qs n)) → state_of (parts_of ls t qs' hs) ≡ was_shut now node
  shut_fields node qs' queues = holds_state ls t qs' hs (was_shut now node) refl refl
      (λ n. queues n ∙ ap (λ o. if same_node node n then None else o) (sym (queue_seen qs n)))
      (λ d. sym (copies_seen hs d))
