-- The tally of a flight stays true at each call.
use Rattle.message_core.proofs.Names.{subst, ◌<◌, ◌≡◌, ℕ, zero, suc, ◌+◌, ◌≤◌, ◌==◌, ◌&&◌, nat_le, nat_lt, Bool, true, false, cond, List, [], ◌∷◌, ◌++◌, length, take, drop, map, replicate, refl, sym, ap, ◌∙◌, arith, Option, Some, None, slice_get, if◌then◌else◌, option_map, unwrap_or, filter, list_any, nat_tests, length-append, slice_get_past, leb-true, le-leb, NodeId, Fate, copies_of, Letter, HeldCopy, same_node, State, Call, Send, Take, Pass, Shut, puts, next_number, sent_at_once, sent_later, sent, taken, going_to, passed, was_shut, step, flown, start, waiting, count, Posted, Tally, noted, blank_tally, all_noted, numbered, came, waits_for, took, Tallied, IsDue}
use Rattle.message_core.proofs.NodeLemmas.{same_is, same_node-refl}
use Rattle.message_core.proofs.QueueLemmas.{going_to-append}
use Rattle.message_core.proofs.SoundLemmas.{Of, of_all, all_of, of_map}
use Rattle.message_core.proofs.Counting.{count-append, count-split, count-puts}

-- ---- the sending with a number

one_less : (m n : ℕ) (b : Bool) → (suc m == suc n) ≡ b → (m == n) ≡ b
one_less m n true at = grind (arith, nat_tests)
one_less m n false at = grind (arith, nat_tests)

got_at : (ss : List Posted) (x : Posted) (k : ℕ) (b : Bool) → (length ss == k) ≡ b → slice_get (ss ++ x ∷ []) k ≡ (if b then Some x else slice_get ss k)
got_at [] x zero true at = refl
got_at [] x zero false at = cc
got_at [] x (suc k) true at = absurd (let never : ⊥ = grind (arith, nat_tests) in never)
got_at [] x (suc k) false at = refl
got_at (y ∷ ss) x zero true at = absurd (let never : ⊥ = grind (arith, nat_tests) in never)
got_at (y ∷ ss) x zero false at = refl
got_at (y ∷ ss) x (suc k) b at = got_at ss x k b (one_less (length ss) k b at)

placed : (m number k : ℕ) (b : Bool) → number ≡ m + 1 → (number == suc k) ≡ b → (m == k) ≡ b
placed m number k true is at = grind (arith, nat_tests)
placed m number k false is at = grind (arith, nat_tests)

sending_at : (ss : List Posted) (x : Posted) (number k : ℕ) (b : Bool) → (number == k) ≡ b → number ≡ length ss + 1 → numbered (ss ++ x ∷ []) k ≡ (if b then Some x else numbered ss k)
sending_at ss x number zero true at is = absurd (let never : ⊥ = grind (arith, nat_tests) in never)
sending_at ss x number zero false at is = refl
sending_at ss x number (suc k) b at is = got_at ss x k b (placed (length ss) number k b is at)

pub sending_now : (ss : List Posted) (x : Posted) (number k : ℕ) → number ≡ length ss + 1 → numbered (ss ++ x ∷ []) k ≡ (if number == k then Some x else numbered ss k)
sending_now ss x number zero is = sending_at ss x number zero (number == 0) refl is
sending_now ss x number (suc k) is = sending_at ss x number (suc k) (number == suc k) refl is

pub sending_before : (ss : List Posted) (number k : ℕ) → number ≡ length ss + 1 → (number == k) ≡ true → numbered ss k ≡ None
sending_before ss number zero is at = refl
sending_before ss number (suc k) is at = slice_get_past ss k (let same : number ≡ suc k = grind (arith, nat_tests) in omega (arith, is, same))

-- ---- one tick

tick_at : (due now n : ℕ) (later before just up : Bool) → nat_le due (now + 1) ≡ later → nat_le due now ≡ before → (due == now + 1) ≡ just → nat_lt now (now + 1) ≡ up → ◌≡◌ {A = ℕ} (cond later n 0) (cond before n 0 + cond (just && up) n 0)
tick_at due now n true true true up l b j u = absurd (let never : ⊥ = grind (arith, nat_tests) in never)
tick_at due now n true true false up l b j u = omega arith
tick_at due now n true false true true l b j u = omega arith
tick_at due now n true false true false l b j u = absurd (let never : ⊥ = grind (arith, nat_tests) in never)
tick_at due now n true false false up l b j u = absurd (let never : ⊥ = grind (arith, nat_tests) in never)
tick_at due now n false true just up l b j u = absurd (let never : ⊥ = grind (arith, nat_tests) in never)
tick_at due now n false false true up l b j u = absurd (let never : ⊥ = grind (arith, nat_tests) in never)
tick_at due now n false false false up l b j u = refl

passed_at : (same : Bool) (due now n : ℕ) → ◌≡◌ {A = ℕ} (cond (same && nat_le due (now + 1)) n 0) (cond (same && nat_le due now) n 0 + cond (same && ((due == now + 1) && nat_lt now (now + 1))) n 0)
passed_at false due now n = refl
passed_at true due now n = tick_at due now n (nat_le due (now + 1)) (nat_le due now) (due == now + 1) (nat_lt now (now + 1)) refl refl refl refl

came_more : (node : NodeId) (now : ℕ) (o : Option Posted) → came node (now + 1) o ≡ came node now o + waits_for node now (now + 1) o
came_more node now None = refl
came_more node now (Some x) = passed_at (same_node x.to node) (x.ticks + x.fate.hold) now (copies_of x.fate)

still_at : (due now d n : ℕ) (b same after before : Bool) → (now + 1 == d) ≡ b → nat_lt (now + 1) d ≡ after → nat_lt now d ≡ before → ◌≡◌ {A = ℕ} (cond (same && after) n 0) (cond b 0 (cond (same && before) n 0))
still_at due now d n true false after before at l m = refl
still_at due now d n true true true before at l m = absurd (let never : ⊥ = grind (arith, nat_tests) in never)
still_at due now d n true true false before at l m = refl
still_at due now d n false false after before at l m = refl
still_at due now d n false true true true at l m = refl
still_at due now d n false true true false at l m = absurd (let never : ⊥ = grind (arith, nat_tests) in never)
still_at due now d n false true false true at l m = absurd (let never : ⊥ = grind (arith, nat_tests) in never)
still_at due now d n false true false false at l m = refl

held_on : (same : Bool) (due now d n : ℕ) (b : Bool) → (now + 1 == d) ≡ b → ◌≡◌ {A = ℕ} (cond (same && ((due == d) && nat_lt (now + 1) d)) n 0) (cond b 0 (cond (same && ((due == d) && nat_lt now d)) n 0))
held_on false due now d n true at = refl
held_on false due now d n false at = refl
held_on true due now d n b at = still_at due now d n b (due == d) (nat_lt (now + 1) d) (nat_lt now d) at refl refl

waits_on : (node : NodeId) (now d : ℕ) (b : Bool) (o : Option Posted) → (now + 1 == d) ≡ b → waits_for node (now + 1) d o ≡ cond b 0 (waits_for node now d o)
waits_on node now d true None at = refl
waits_on node now d false None at = refl
waits_on node now d b (Some x) at = held_on (same_node x.to node) (x.ticks + x.fate.hold) now d (copies_of x.fate) b at

none_left : (k : ℕ) (node : NodeId) (b : Bool) (held : List HeldCopy) → count k (going_to node (if b then [] else held)) ≡ cond b 0 (count k (going_to node held))
none_left k node true held = refl
none_left k node false held = refl

-- ---- at a sending

at_most : (b : Bool) (hold now : ℕ) → nat_le (now + hold) now ≡ b → (hold == 0) ≡ true → b ≡ true
at_most true hold now is at = refl
at_most false hold now is at = absurd (let never : ⊥ = grind (arith, nat_tests) in never)

not_yet : (b : Bool) (hold now : ℕ) → nat_le (now + hold) now ≡ b → (hold == 0) ≡ false → b ≡ false
not_yet false hold now is at = refl
not_yet true hold now is at = absurd (let never : ⊥ = grind (arith, nat_tests) in never)

never_both : (hold now d : ℕ) (just later : Bool) → (now + hold == d) ≡ just → nat_lt now d ≡ later → (hold == 0) ≡ true → (just && later) ≡ false
never_both hold now d true true j l at = absurd (let never : ⊥ = grind (arith, nat_tests) in never)
never_both hold now d true false j l at = refl
never_both hold now d false later j l at = refl

both_no : (b : Bool) → ◌≡◌ {A = ℕ} 0 (cond b 0 0)
both_no true = refl
both_no false = refl

still_waits : (n hold now d : ℕ) (just later : Bool) → (now + hold == d) ≡ just → nat_lt now d ≡ later → (hold == 0) ≡ false → ◌≡◌ {A = ℕ} (cond (just && later) n 0) (cond just n 0)
still_waits n hold now d true true j l at = refl
still_waits n hold now d true false j l at = absurd (let never : ⊥ = grind (arith, nat_tests) in never)
still_waits n hold now d false later j l at = refl

one_going : (k : ℕ) (b : Bool) (h : HeldCopy) (rest : List HeldCopy) → count k (map (λ (g : HeldCopy). g.number) (cond b (h ∷ rest) rest)) ≡ cond b (cond (h.number == k) 1 0) 0 + count k (map (λ (g : HeldCopy). g.number) rest)
one_going k true h rest = refl
one_going k false h rest = omega arith

one_copy : (same b : Bool) (n : ℕ) → ◌≡◌ {A = ℕ} (cond same (cond b 1 0) 0 + cond same (cond b n 0) 0) (cond same (cond b (suc n) 0) 0)
one_copy true true n = omega arith
one_copy true false n = refl
one_copy false b n = refl

no_copy : (same b : Bool) → ◌≡◌ {A = ℕ} 0 (cond same (cond b 0 0) 0)
no_copy true true = refl
no_copy true false = refl
no_copy false b = refl

going-replicate : (k : ℕ) (node : NodeId) (h : HeldCopy) (n : ℕ) → count k (going_to node (replicate n h)) ≡ cond (same_node h.to node) (cond (h.number == k) n 0) 0
going-replicate k node h zero = no_copy (same_node h.to node) (h.number == k)
going-replicate k node h (suc n) =
    one_going k (same_node h.to node) h (filter (λ (g : HeldCopy). same_node g.to node) (replicate n h))
    ∙ ap (λ z. cond (same_node h.to node) (cond (h.number == k) 1 0) 0 + z) (going-replicate k node h n) ∙ one_copy (same_node h.to node) (h.number == k) n

ends : (b : Bool) (old new mine held copies : ℕ) (same : Bool) (n : ℕ) → copies ≡ cond same (cond b n 0) 0 → new ≡ (if b then mine else old) → (b ≡ true → old ≡ 0) → mine ≡ cond true (cond same n 0) 0 → held ≡ old → held + copies ≡ new
ends true old new mine held copies true n c is none own now = let z = none refl in omega (arith, z, c, is, own, now)
ends true old new mine held copies false n c is none own now = let z = none refl in omega (arith, z, c, is, own, now)
ends false old new mine held copies true n c is none own now = omega (arith, c, is, now)
ends false old new mine held copies false n c is none own now = omega (arith, c, is, now)

module _ (s : State) (l : Tally) (t : Tallied s l) where
  due_of : (k : ℕ) (node : NodeId) → Of (λ queue. count k queue + took node (count k l.taken) (numbered l.sendings k) ≡ came node s.ticks (numbered l.sendings k)) (s.queues node)
  due_of k node = of_all (λ queue. count k queue + took node (count k l.taken) (numbered l.sendings k) ≡ came node s.ticks (numbered l.sendings k)) (s.queues node) (t.due k node)

  pub tallied_passed : Tallied (passed s) l
  tallied_passed = record {
    as_many = t.as_many;
    due = λ k node queue is.
        let o = numbered l.sendings k in
        let arriving = going_to node (s.held (s.ticks + 1)) in
        all_of (λ q. count k q + took node (count k l.taken) (numbered l.sendings k) ≡ came node (s.ticks + 1) o) _ queue
        (of_map (λ q. count k q + took node (count k l.taken) (numbered l.sendings k) ≡ came node s.ticks o) (λ q. count k q + took node (count k l.taken) (numbered l.sendings k) ≡ came node (s.ticks + 1) o) (λ q. q ++ arriving) (s.queues node)
        (λ q old. let a = count-append k q arriving in let h = t.held k node (s.ticks + 1) in let m = came_more node s.ticks o in omega (arith, a, h, m, old))
        (due_of k node)) is;
    most = λ k node. let m = came_more node s.ticks (numbered l.sendings k) in let old = t.most k node in omega (arith, m, old);
    held = λ k node d. none_left k node (s.ticks + 1 == d) (s.held d) ∙ ap (cond (s.ticks + 1 == d) 0) (t.held k node d) ∙ sym (waits_on node s.ticks d (s.ticks + 1 == d) (numbered l.sendings k) refl);
  }

  shut_at : (P : List ℕ → Type 0) (b : Bool) (o : Option (List ℕ)) → Of P o → Of P (if b then None else o)
  shut_at P true o of = tt {0}
  shut_at P false o of = of

  pub tallied_shut : (node : NodeId) → Tallied (was_shut s node) l
  tallied_shut node = record {
    as_many = t.as_many;
    due = λ k n queue is. all_of (λ q. count k q + took n (count k l.taken) (numbered l.sendings k) ≡ came n s.ticks (numbered l.sendings k)) _ queue (shut_at _ (same_node node n) (s.queues n) (due_of k n)) is;
    most = t.most;
    held = t.held;
  }

  abbrev T : (k : ℕ) (node : NodeId) → ℕ
  T k node = took node (count k l.taken) (numbered l.sendings k)

  abbrev front-of : NodeId → List ℕ
  front-of node = take 1 (waiting s node)

  none_at : (k : ℕ) (o : Option (List ℕ)) (e c : ℕ) → Of (λ q. count k q + c ≡ e) o → e ≡ 0 → count k (take 1 (unwrap_or o [])) ≡ 0
  none_at k None e c of is = refl
  none_at k (Some q) e c of is = let a = count-split k 1 q in omega (arith, a, of, is)

  -- at a node that the message didn't go to none is taken
  none_taken : (k : ℕ) (node : NodeId) → came node s.ticks (numbered l.sendings k) ≡ 0 → count k (front-of node) ≡ 0
  none_taken k node is = none_at k (s.queues node) (came node s.ticks (numbered l.sendings k)) (T k node) (due_of k node) is

  more_taken : (k : ℕ) (node : NodeId) → count k (l.taken ++ front-of node) ≡ count k l.taken + count k (front-of node)
  more_taken k node = count-append k l.taken (front-of node)

  -- what the node itself took more
  took_own : (node : NodeId) (c d : ℕ) (o : Option Posted) → (came node s.ticks o ≡ 0 → d ≡ 0) → took node (c + d) o ≡ took node c o + d
  took_own node c d None none = refl
  took_own node c d (Some x) none = go (same_node x.to node) refl
    where
      go : (b : Bool) → same_node x.to node ≡ b → cond b (c + d) 0 ≡ cond b c 0 + d
      go true at = refl
      go false at = let z = none (ap (λ b. cond (b && nat_le (x.ticks + x.fate.hold) s.ticks) (copies_of x.fate) 0) at) in omega (arith, z)

  -- what another node took is nothing more
  took_other : (node n : NodeId) (c d : ℕ) (o : Option Posted) → same_node node n ≡ false → (came node s.ticks o ≡ 0 → d ≡ 0) → took n (c + d) o ≡ took n c o
  took_other node n c d None apart none = ap (λ z. c + z) (none refl) ∙ (let e : c + 0 ≡ c = omega arith in e)
  took_other node n c d (Some x) apart none = go (same_node x.to node) refl
    where
      same : same_node x.to node ≡ true → same_node x.to n ≡ false
      same at = ap (λ z. same_node z n) (same_is x.to node at) ∙ apart

      go : (b : Bool) → same_node x.to node ≡ b → cond (same_node x.to n) (c + d) 0 ≡ cond (same_node x.to n) c 0
      go true at = ap (λ b. cond b (c + d) 0) (same at) ∙ sym (ap (λ b. cond b c 0) (same at))
      go false at = ap (λ z. cond (same_node x.to n) z 0)
          (ap (λ z. c + z) (none (ap (λ b. cond (b && nat_le (x.ticks + x.fate.hold) s.ticks) (copies_of x.fate) 0) at)) ∙ (let e : c + 0 ≡ c = omega arith in e))

  took_at : (k : ℕ) (node n : NodeId) → took n (count k (l.taken ++ front-of node)) (numbered l.sendings k) ≡ (if same_node node n then T k n + count k (front-of n) else T k n)
  took_at k node n = go (same_node node n) refl
    where
      go : (b : Bool) → same_node node n ≡ b → took n (count k (l.taken ++ front-of node)) (numbered l.sendings k) ≡ (if b then T k n + count k (front-of n) else T k n)
      go true at =
          ap (λ z. took n z (numbered l.sendings k)) (more_taken k node ∙ ap (λ z. count k l.taken + count k (front-of z)) (same_is node n at))
          ∙ took_own n (count k l.taken) (count k (front-of n)) (numbered l.sendings k) (none_taken k n)
      go false at = ap (λ z. took n z (numbered l.sendings k)) (more_taken k node) ∙ took_other node n (count k l.taken) (count k (front-of node)) (numbered l.sendings k) at (none_taken k node)

  taken_at : (k e t u : ℕ) (b : Bool) (o : Option (List ℕ)) → u ≡ (if b then t + count k (take 1 (unwrap_or o [])) else t) → Of (λ q. count k q + t ≡ e) o → Of (λ q. count k q + u ≡ e) (if b then option_map (drop 1) o else o)
  taken_at k e t u true None is of = tt {0}
  taken_at k e t u true (Some q) is of = let c = count-split k 1 q in omega (arith, c, of, is)
  taken_at k e t u false None is of = tt {0}
  taken_at k e t u false (Some q) is of = omega (arith, of, is)

  most_at : (k e t u : ℕ) (b : Bool) (o : Option (List ℕ)) → u ≡ (if b then t + count k (take 1 (unwrap_or o [])) else t) → Of (λ q. count k q + t ≡ e) o → t ≤ e → u ≤ e
  most_at k e t u true None is of most = omega (arith, is, most)
  most_at k e t u true (Some q) is of most = let c = count-split k 1 q in omega (arith, c, of, is)
  most_at k e t u false o is of most = omega (arith, is, most)

  pub tallied_taken : (node : NodeId) → Tallied (taken s node) (noted s l (Take node))
  tallied_taken node = record {
    as_many = t.as_many;
    due = λ k n queue is.
        let after = (noted s l (Take node)).taken in
        all_of (λ q. count k q + took n (count k after) (numbered l.sendings k) ≡ came n s.ticks (numbered l.sendings k)) _ queue
        (taken_at k (came n s.ticks (numbered l.sendings k)) (T k n) (took n (count k after) (numbered l.sendings k)) (same_node node n) (s.queues n) (took_at k node n) (due_of k n)) is;
    most = λ k n. most_at k (came n s.ticks (numbered l.sendings k)) (T k n) (took n (count k (noted s l (Take node)).taken) (numbered l.sendings k)) (same_node node n) (s.queues n) (took_at k node n) (due_of k n) (t.most k n);
    held = t.held;
  }

  -- ---- a sending

  module _ (letter : Letter) (fate : Fate) where
    abbrev x : Posted
    x = record { to = letter.to; fate = fate; ticks = s.ticks }

    abbrev more : List Posted
    more = l.sendings ++ x ∷ []

    number_is : next_number s ≡ length l.sendings + 1
    number_is = ap (λ n. n + 1) t.as_many

    numbered_more : length (s.letters ++ letter ∷ []) ≡ length more
    numbered_more = length-append s.letters (letter ∷ []) ∙ ap (λ n. n + 1) t.as_many ∙ sym (length-append l.sendings (x ∷ []))

    came_if : (b : Bool) (node : NodeId) (o : Option Posted) → came node s.ticks (if b then Some x else o) ≡ (if b then came node s.ticks (Some x) else came node s.ticks o)
    came_if true node o = refl
    came_if false node o = refl

    came_now : (k : ℕ) (node : NodeId) → came node s.ticks (numbered more k) ≡ (if next_number s == k then came node s.ticks (Some x) else came node s.ticks (numbered l.sendings k))
    came_now k node = ap (came node s.ticks) (sending_now l.sendings x (next_number s) k number_is) ∙ came_if (next_number s == k) node (numbered l.sendings k)

    waits_if : (b : Bool) (node : NodeId) (d : ℕ) (o : Option Posted) → waits_for node s.ticks d (if b then Some x else o) ≡ (if b then waits_for node s.ticks d (Some x) else waits_for node s.ticks d o)
    waits_if true node d o = refl
    waits_if false node d o = refl

    waits_now : (k : ℕ) (node : NodeId) (d : ℕ) → waits_for node s.ticks d (numbered more k) ≡ (if next_number s == k then waits_for node s.ticks d (Some x) else waits_for node s.ticks d (numbered l.sendings k))
    waits_now k node d = ap (waits_for node s.ticks d) (sending_now l.sendings x (next_number s) k number_is) ∙ waits_if (next_number s == k) node d (numbered l.sendings k)

    came_none : (k : ℕ) (node : NodeId) → (next_number s == k) ≡ true → came node s.ticks (numbered l.sendings k) ≡ 0
    came_none k node at = ap (came node s.ticks) (sending_before l.sendings (next_number s) k number_is at)

    waits_none : (k : ℕ) (node : NodeId) (d : ℕ) → (next_number s == k) ≡ true → waits_for node s.ticks d (numbered l.sendings k) ≡ 0
    waits_none k node d at = ap (waits_for node s.ticks d) (sending_before l.sendings (next_number s) k number_is at)

    due_puts : (k T old new mine : ℕ) (same b : Bool) (o : Option (List ℕ)) → (next_number s == k) ≡ b → new ≡ (if b then mine else old) → (b ≡ true → old ≡ 0) → mine ≡ cond same (copies_of fate) 0
        → Of (λ q. count k q + T ≡ old) o → Of (λ q. count k q + T ≡ new) (if same then option_map (puts (copies_of fate) (next_number s) fate.overtake) o else o)
    due_puts k T old new mine true b None at is none own of = tt {0}
    due_puts k T old new mine false b None at is none own of = tt {0}
    due_puts k T old new mine true true (Some q) at is none own of =
        let a = count-puts k (copies_of fate) (next_number s) fate.overtake q ∙ ap (λ c. cond c (copies_of fate) 0 + count k q) at in
        let z = none refl in
        omega (arith, a, z, is, own, of)
    due_puts k T old new mine true false (Some q) at is none own of =
        let a = count-puts k (copies_of fate) (next_number s) fate.overtake q ∙ ap (λ c. cond c (copies_of fate) 0 + count k q) at in
        omega (arith, a, is, of)
    due_puts k T old new mine false true (Some q) at is none own of = let z = none refl in omega (arith, z, is, own, of)
    due_puts k T old new mine false false (Some q) at is none own of = omega (arith, is, of)

    due_same : (k T old new mine : ℕ) (b : Bool) (o : Option (List ℕ)) → new ≡ (if b then mine else old) → (b ≡ true → old ≡ 0) → mine ≡ 0 → Of (λ q. count k q + T ≡ old) o → Of (λ q. count k q + T ≡ new) o
    due_same k T old new mine b None is none own of = tt {0}
    due_same k T old new mine true (Some q) is none own of = let z = none refl in omega (arith, z, is, own, of)
    due_same k T old new mine false (Some q) is none own of = omega (arith, is, of)

    most_more : (T old new mine : ℕ) (b : Bool) → new ≡ (if b then mine else old) → (b ≡ true → old ≡ 0) → T ≤ old → T ≤ new
    most_more T old new mine true is none most = let z = none refl in omega (arith, z, is, most)
    most_more T old new mine false is none most = omega (arith, is, most)

    held_same : (n old new mine : ℕ) (b : Bool) → new ≡ (if b then mine else old) → (b ≡ true → old ≡ 0) → mine ≡ 0 → n ≡ old → n ≡ new
    held_same n old new mine true is none own held = let z = none refl in omega (arith, z, is, own, held)
    held_same n old new mine false is none own held = omega (arith, is, held)

    -- of a message that is sent just now no copy was taken
    took_if : (b : Bool) (k : ℕ) (node : NodeId) (o : Option Posted) → (b ≡ true → o ≡ None) → took node (count k l.taken) o ≤ came node s.ticks o
        → took node (count k l.taken) (if b then Some x else o) ≡ took node (count k l.taken) o
    took_if false k node o none most = refl
    took_if true k node None none most = go (same_node x.to node) (count k l.taken) (omega (arith, most))
      where
        go : (b : Bool) (c : ℕ) → c ≡ 0 → cond b c 0 ≡ c
        go true c z = refl
        go false c z = sym z
    took_if true k node (Some y) none most = let e : Some y ≡ None = none refl in absurd (cc e)

    took_same : (k : ℕ) (node : NodeId) → took node (count k l.taken) (numbered more k) ≡ T k node
    took_same k node =
        ap (took node (count k l.taken)) (sending_now l.sendings x (next_number s) k number_is)
        ∙ took_if (next_number s == k) k node (numbered l.sendings k) (λ at. sending_before l.sendings (next_number s) k number_is at) (t.most k node)

    -- ---- due at once

    came_all : (same : Bool) (n hold now : ℕ) → (hold == 0) ≡ true → ◌≡◌ {A = ℕ} (cond (same && nat_le (now + hold) now) n 0) (cond same n 0)
    came_all false n hold now at = refl
    came_all true n hold now at = ap (λ (c : Bool). cond c n 0) (at_most (nat_le (now + hold) now) hold now refl at)

    waits_no : (same : Bool) (n hold now d : ℕ) → (hold == 0) ≡ true → ◌≡◌ {A = ℕ} (cond (same && ((now + hold == d) && nat_lt now d)) n 0) 0
    waits_no false n hold now d at = refl
    waits_no true n hold now d at = ap (λ (c : Bool). cond c n 0) (never_both hold now d (now + hold == d) (nat_lt now d) refl refl at)

    pub tallied_at_once : (fate.hold == 0) ≡ true → Tallied (sent_at_once s letter fate) (noted s l (Send letter fate))
    tallied_at_once at = record {
      as_many = numbered_more;
      due = λ k node queue is. ap (λ z. count k queue + z) (took_same k node) ∙ all_of (λ q. count k q + T k node ≡ came node s.ticks (numbered more k)) _ queue
          (due_puts k (T k node) (came node s.ticks (numbered l.sendings k)) (came node s.ticks (numbered more k)) (came node s.ticks (Some x)) (same_node letter.to node) (next_number s == k) (s.queues node)
          refl (came_now k node) (came_none k node) (came_all (same_node letter.to node) (copies_of fate) fate.hold s.ticks at) (due_of k node)) is;
      most = λ k node. subst (λ z. z ≤ came node s.ticks (numbered more k)) (sym (took_same k node)) (most_more (T k node) (came node s.ticks (numbered l.sendings k)) (came node s.ticks (numbered more k)) (came node s.ticks (Some x)) (next_number s == k) (came_now k node) (came_none k node) (t.most k node));
      held = λ k node d. held_same (count k (going_to node (s.held d))) (waits_for node s.ticks d (numbered l.sendings k)) (waits_for node s.ticks d (numbered more k)) (waits_for node s.ticks d (Some x)) (next_number s == k)
          (waits_now k node d) (waits_none k node d) (waits_no (same_node letter.to node) (copies_of fate) fate.hold s.ticks d at) (t.held k node d);
    }

    -- ---- due later

    came_no : (same : Bool) (n hold now : ℕ) → (hold == 0) ≡ false → ◌≡◌ {A = ℕ} (cond (same && nat_le (now + hold) now) n 0) 0
    came_no false n hold now at = refl
    came_no true n hold now at = ap (λ (c : Bool). cond c n 0) (not_yet (nat_le (now + hold) now) hold now refl at)

    waits_all : (same : Bool) (n hold now d : ℕ) → (hold == 0) ≡ false → ◌≡◌ {A = ℕ} (cond (same && ((now + hold == d) && nat_lt now d)) n 0) (cond (now + hold == d) (cond same n 0) 0)
    waits_all false n hold now d at = both_no (now + hold == d)
    waits_all true n hold now d at = still_waits n hold now d (now + hold == d) (nat_lt now d) refl refl at

    held_more : (k old new mine : ℕ) (b due : Bool) (node : NodeId) (held : List HeldCopy) → (next_number s == k) ≡ b → new ≡ (if b then mine else old) → (b ≡ true → old ≡ 0) → mine ≡ cond due (cond (same_node letter.to node) (copies_of fate) 0) 0
        → count k (going_to node held) ≡ old → count k (going_to node (if due then held ++ replicate (copies_of fate) (record { number = next_number s; to = letter.to }) else held)) ≡ new
    held_more k old new mine true false node held at is none own now = let z = none refl in omega (arith, z, is, own, now)
    held_more k old new mine false false node held at is none own now = omega (arith, is, now)
    held_more k old new mine b true node held at is none own now =
        let copies : List HeldCopy = replicate (copies_of fate) (record { number = next_number s; to = letter.to }) in
        let a : count k (going_to node (held ++ copies)) ≡ count k (going_to node held) + count k (going_to node copies) = ap (count k) (going_to-append node held copies) ∙ count-append k (going_to node held) (going_to node copies) in
        let c : count k (going_to node copies) ≡ cond (same_node letter.to node) (cond b (copies_of fate) 0) 0 =
        going-replicate k node (record { number = next_number s; to = letter.to }) (copies_of fate) ∙ ap (λ (z : Bool). cond (same_node letter.to node) (cond z (copies_of fate) 0) 0) at in
        a ∙ ends b old new mine (count k (going_to node held)) (count k (going_to node copies)) (same_node letter.to node) (copies_of fate) c is none own now

    pub tallied_later : (fate.hold == 0) ≡ false → Tallied (sent_later s letter fate) (noted s l (Send letter fate))
    tallied_later at = record {
      as_many = numbered_more;
      due = λ k node queue is. ap (λ z. count k queue + z) (took_same k node) ∙ all_of (λ q. count k q + T k node ≡ came node s.ticks (numbered more k)) _ queue
          (due_same k (T k node) (came node s.ticks (numbered l.sendings k)) (came node s.ticks (numbered more k)) (came node s.ticks (Some x)) (next_number s == k) (s.queues node)
          (came_now k node) (came_none k node) (came_no (same_node letter.to node) (copies_of fate) fate.hold s.ticks at) (due_of k node)) is;
      most = λ k node. subst (λ z. z ≤ came node s.ticks (numbered more k)) (sym (took_same k node)) (most_more (T k node) (came node s.ticks (numbered l.sendings k)) (came node s.ticks (numbered more k)) (came node s.ticks (Some x)) (next_number s == k) (came_now k node) (came_none k node) (t.most k node));
      held = λ k node d. held_more k (waits_for node s.ticks d (numbered l.sendings k)) (waits_for node s.ticks d (numbered more k)) (waits_for node s.ticks d (Some x)) (next_number s == k) (s.ticks + fate.hold == d) node (s.held d)
          refl (waits_now k node d) (waits_none k node d) (waits_all (same_node letter.to node) (copies_of fate) fate.hold s.ticks d at) (t.held k node d);
    }

    sent_either : (b : Bool) → (fate.hold == 0) ≡ b → Tallied (if b then sent_at_once s letter fate else sent_later s letter fate) (noted s l (Send letter fate))
    sent_either true at = tallied_at_once at
    sent_either false at = tallied_later at

    pub tallied_sent : Tallied (sent s letter fate) (noted s l (Send letter fate))
    tallied_sent = sent_either (fate.hold == 0) refl

-- ---- each call, and all calls

pub tallied_step : (s : State) (l : Tally) (call : Call) → Tallied s l → Tallied (step s call) (noted s l call)
tallied_step s l (Send letter fate) t = tallied_sent s l t letter fate
tallied_step s l (Take node) t = tallied_taken s l t node
tallied_step s l Pass t = tallied_passed s l t
tallied_step s l (Shut node) t = tallied_shut s l t node

pub tallied_flown : (s : State) (l : Tally) (calls : List Call) → Tallied s l → Tallied (flown s calls) (all_noted s l calls)
unfolding flown all_noted
tallied_flown s l [] t = t
tallied_flown s l (call ∷ calls) t = tallied_flown (step s call) (noted s l call) calls (tallied_step s l call t)

nothing_came : (node : NodeId) (now k : ℕ) → came node now (numbered [] k) ≡ 0
nothing_came node now zero = refl
nothing_came node now (suc k) = refl

nothing_waits : (node : NodeId) (now d k : ℕ) → waits_for node now d (numbered [] k) ≡ 0
nothing_waits node now d zero = refl
nothing_waits node now d (suc k) = refl

nothing_took : (node : NodeId) (k : ℕ) → took node 0 (numbered [] k) ≡ 0
nothing_took node zero = refl
nothing_took node (suc k) = refl

empty_at : (k : ℕ) (node : NodeId) (b : Bool) → Of (λ q. count k q + 0 ≡ came node 0 (numbered [] k)) (if b then Some [] else None)
empty_at k node true = sym (nothing_came node 0 k)
empty_at k node false = tt {0}

pub tallied_start : (nodes : List NodeId) → Tallied (start nodes) blank_tally
tallied_start nodes = record {
  as_many = refl;
  due = λ k node queue is. ap (λ z. count k queue + z) (nothing_took node k) ∙ all_of (λ q. count k q + 0 ≡ came node 0 (numbered [] k)) _ queue (empty_at k node (list_any (λ m. same_node m node) nodes)) is;
  most = λ k node. let z = nothing_took node k in omega (arith, z);
  held = λ k node d. sym (nothing_waits node 0 d k);
}

-- ---- what a queue says of the counts

ripe-parts : (a b : Bool) (n : ℕ) → 1 ≤ cond (a && b) n 0 → (a ≡ true) × (b ≡ true) × (cond (a && b) n 0 ≡ n)
ripe-parts true true n h = (refl, refl, refl)
ripe-parts true false n h = absurd (let never : ⊥ = omega (arith, h) in never)
ripe-parts false b n h = absurd (let never : ⊥ = omega (arith, h) in never)

module _ (s : State) (l : Tally) (t : Tallied s l) (n : NodeId) where
  -- what came to the node was sent to it, and its hold has passed
  came-due : (k : ℕ) (o : Option Posted) → numbered l.sendings k ≡ o → 1 ≤ came n s.ticks o → (x : Posted) × IsDue s l n k x × (came n s.ticks o ≡ copies_of x.fate) × (took n (count k l.taken) o ≡ count k l.taken)
  came-due k None is some = absurd (let never : ⊥ = omega (arith, some) in never)
  came-due k (Some x) is some =
      let p = ripe-parts (same_node x.to n) (nat_le (x.ticks + x.fate.hold) s.ticks) (copies_of x.fate) some in
      (x, record { there = is; to = same_is x.to n p.0; ripe = leb-true (x.ticks + x.fate.hold) s.ticks p.1 }, p.2, ap (λ b. cond b (count k l.taken) 0) p.0)

  front-one : (k : ℕ) (rest : List ℕ) → count k (k ∷ rest) ≡ 1 + count k rest
  front-one k rest = ap (λ b. cond b 1 0 + count k rest) (let e : (k == k) ≡ true = grind (arith, nat_tests) in e)

  some-queue : (o : Option (List ℕ)) (k : ℕ) (rest : List ℕ) → unwrap_or o [] ≡ k ∷ rest → o ≡ Some (k ∷ rest)
  some-queue None k rest h = absurd (let never : ⊥ = cc h in never)
  some-queue (Some q) k rest h = ap Some h

  -- a front copy is due, and was taken fewer times than its message has copies
  pub front-due : (k : ℕ) (rest : List ℕ) → waiting s n ≡ k ∷ rest → (x : Posted) × IsDue s l n k x × (count k l.taken < copies_of x.fate)
  front-due k rest front =
      let d = t.due k n (k ∷ rest) (some-queue (s.queues n) k rest front) in
      let one = front-one k rest in
      let c = came-due k (numbered l.sendings k) refl (omega (arith, d, one)) in
      let whole = c.2 in let own = c.3 in
      (c.0, c.1, (omega (arith, d, one, whole, own)))

  -- where the queue is empty, all copies that are due were taken
  pub empty-taken : (k : ℕ) (x : Posted) → s.queues n ≡ Some [] → IsDue s l n k x → count k l.taken ≡ copies_of x.fate
  empty-taken k x none is =
      let d = t.due k n [] none in
      let here : same_node x.to n ≡ true = ap (λ z. same_node z n) is.to ∙ same_node-refl n in
      let both : came n s.ticks (numbered l.sendings k) ≡ copies_of x.fate =
      ap (came n s.ticks) is.there ∙ ap (λ b. cond (b && nat_le (x.ticks + x.fate.hold) s.ticks) (copies_of x.fate) 0) here
      ∙ ap (λ b. cond b (copies_of x.fate) 0) (le-leb (x.ticks + x.fate.hold) s.ticks is.ripe) in
      let own : took n (count k l.taken) (numbered l.sendings k) ≡ count k l.taken = ap (took n (count k l.taken)) is.there ∙ ap (λ b. cond b (count k l.taken) 0) here in
      omega (arith, d, both, own)
