-- Which copies are due, by the messages that were sent.
use Rattle.std.proofs.lemmas.Option.{slice_get-map}
use Rattle.wire_core.proofs.Names.{NodeId, Fate, Arrival, IsFront, State, waiting, AllInRange, count, Sent, Sending, World, numbered, times_taken, post_of, fates_of, IsCopyOf, TookAll, Marked, sent_of, posted, tallied, IsTied, ◌≡◌, ℕ, zero, suc, ◌+◌, ◌-◌, ◌≤◌, ◌<◌, true, List, [], ◌∷◌, map, refl, sym, ap, ◌∙◌, Option, Some, None, is_some, slice_get, arith, option_map, unwrap_or, IsDue, front-due, empty-taken, IsReleased}
use Rattle.message_form.proofs.ReadLaws.{message_bytes-apart}
use Rattle.stream_port.specs.Fates.{copies_of}
use Rattle.message_core.specs.Tallies as tallies
use Rattle.message_core.proofs.SenderLemmas.{was_sent}

-- ---- numbers of lists that a map gives

module _ {X Y : Type 0} (f : X → Y) where
  pub numbered-map : (xs : List X) (k : ℕ) → numbered (map f xs) k ≡ option_map f (numbered xs k)
  numbered-map xs zero = refl
  numbered-map xs (suc k) = slice_get-map f xs k

  -- what stands at a number there comes from what stands at it here
  pub numbered-from : (xs : List X) (k : ℕ) (y : Y) → numbered (map f xs) k ≡ Some y → (x : X) × (numbered xs k ≡ Some x) × (f x ≡ y)
  numbered-from xs k y h = go (numbered xs k) refl (sym (numbered-map xs k) ∙ h)
    where
      go : (o : Option X) → numbered xs k ≡ o → option_map f (numbered xs k) ≡ Some y → (x : X) × (numbered xs k ≡ Some x) × (f x ≡ y)
      go None at is = absurd (let never : None ≡ Some y = sym (ap (option_map f) at) ∙ is in cc never)
      go (Some x) at is = (x, at, (let e : Some (f x) ≡ Some y = sym (ap (option_map f) at) ∙ is in cc e))

  pub numbered-to : (xs : List X) (k : ℕ) (x : X) → numbered xs k ≡ Some x → numbered (map f xs) k ≡ Some (f x)
  numbered-to xs k x h = numbered-map xs k ∙ ap (option_map f) h

pub numbered-before : {X : Type 0} (xs : List X) (k : ℕ) → 1 ≤ k → numbered xs k ≡ slice_get xs (k - 1)
numbered-before xs zero h = absurd (omega (arith, h))
numbered-before xs (suc k) h = ap (slice_get xs) (let e : k ≡ suc k - 1 = omega arith in e)

-- ---- due copies

queue-of : (s : State) (n : NodeId) (q : Option (List ℕ)) → s.queues n ≡ q → is_some q ≡ true → s.queues n ≡ Some (waiting s n)
queue-of s n None at some = absurd (cc some)
queue-of s n (Some q) at some = at ∙ ap Some (sym (ap (λ o. unwrap_or o []) at))

pub front-cons : (xs : List ℕ) (k : ℕ) → slice_get xs 0 ≡ Some k → (rest : List ℕ) × (xs ≡ k ∷ rest)
front-cons [] k h = absurd (cc h)
front-cons (x ∷ xs) k h = (xs, ap (λ y. y ∷ xs) (cc h))

module _ (s : State) (w : World) (sent : List Sent) (marks : List Marked) (t : IsTied s w sent marks) where
  -- the front copy of a queue is due
  pub due-front : (n : NodeId) (k : ℕ) (rest : List ℕ) → waiting s n ≡ k ∷ rest
      → (m : Marked) × (numbered marks k ≡ Some m) × (m.sent.to ≡ n) × (m.ticks + m.sent.fate.hold ≤ w.ticks) × (times_taken w k < copies_of m.sent.fate)
  due-front n k rest front =
      let d : (x : tallies.Posted) × IsDue s t.ledger n k x × (count k t.ledger.taken < copies_of x.fate) = front-due s t.ledger t.tally n k rest front in
      let m : (m : Marked) × (numbered marks k ≡ Some m) × (tallied m ≡ d.0) = numbered-from tallied marks k d.0 (ap (λ l. numbered l k) (sym t.sendings) ∙ d.1.there) in
      let hold : (tallied m.0).ticks + (tallied m.0).fate.hold ≡ d.0.ticks + d.0.fate.hold = ap (λ (y : tallies.Posted). y.ticks + y.fate.hold) m.2 in
      let copies : copies_of (tallied m.0).fate ≡ copies_of d.0.fate = ap (λ (y : tallies.Posted). copies_of y.fate) m.2 in
      let ripe = d.1.ripe in
      let ticks = t.ticks in
      let less = d.2 in
      let times = t.taken k in
      (m.0, m.1, ap (λ (y : tallies.Posted). y.to) m.2 ∙ d.1.to, omega (arith, hold, ripe, ticks), omega (arith, copies, less, times))

  -- where a queue is empty, all due copies were taken
  empty-took : (n : NodeId) (k : ℕ) (m : Marked) → waiting s n ≡ [] → is_some (s.queues n) ≡ true → numbered marks k ≡ Some m → m.sent.to ≡ n → m.ticks + m.sent.fate.hold ≤ w.ticks → times_taken w k ≡ copies_of m.sent.fate
  empty-took n k m none some here to ripe =
      let ticks = t.ticks in
      let due : IsDue s t.ledger n k (tallied m) = record { there = ap (λ l. numbered l k) t.sendings ∙ numbered-to tallied marks k m here; to = to; ripe = omega (arith, ripe, ticks) } in
      sym (t.taken k) ∙ empty-taken s t.ledger t.tally n k (tallied m) (queue-of s n (s.queues n) refl some ∙ ap Some none) due

  pub fate-of : (k : ℕ) (m : Marked) → numbered marks k ≡ Some m → numbered (fates_of sent) k ≡ Some m.sent.fate
  fate-of k m at = numbered-to (λ (x : Sent). x.fate) sent k m.sent (ap (λ l. numbered l k) t.sent_are ∙ numbered-to sent_of marks k m at)

  module _ (walked : w.sendings ≡ map posted marks) where
    -- an empty queue: all due copies were taken
    pub took-all : (n : NodeId) → waiting s n ≡ [] → is_some (s.queues n) ≡ true → TookAll (fates_of sent) w n
    took-all n none some k x here to =
        let m : (m : Marked) × (numbered marks k ≡ Some m) × (posted m ≡ x) = numbered-from posted marks k x (ap (λ l. numbered l k) (sym walked) ∙ here) in
        let there : m.0.sent.to ≡ n = ap (λ (y : Sending). y.post.to) m.2 ∙ to in
        let same : (posted m.0).ticks ≡ x.ticks = ap (λ (y : Sending). y.ticks) m.2 in
        (m.0.sent.fate, fate-of k m.0 m.1, λ released. empty-took n k m.0 none some m.1 there (omega (arith, same, released)))

    -- and only then
    pub took-empty : (n : NodeId) → TookAll (fates_of sent) w n → waiting s n ≡ []
    took-empty n all = go (waiting s n) refl
      where
        go : (q : List ℕ) → waiting s n ≡ q → waiting s n ≡ []
        go [] at = at
        go (k ∷ rest) at = absurd
            (let d = due-front n k rest at in
            let h : (fate : Fate) × (numbered (fates_of sent) k ≡ Some fate) × (IsReleased w (posted d.0) fate → times_taken w k ≡ copies_of fate)
            = all k (posted d.0) (ap (λ l. numbered l k) walked ∙ numbered-to posted marks k d.0 d.1) d.2 in
            let same : h.0 ≡ d.0.sent.fate = (let e : Some h.0 ≡ Some d.0.sent.fate = sym h.1 ∙ fate-of k d.0 d.1 in cc e) in
            let hold : h.0.hold ≡ d.0.sent.fate.hold = ap (λ (f : Fate). f.hold) same in
            let copies : copies_of h.0 ≡ copies_of d.0.sent.fate = ap copies_of same in
            let ripe = d.3 in
            let less = d.4 in
            let took : times_taken w k ≡ copies_of h.0 = h.2 (omega (arith, ripe, hold)) in
            omega (arith, copies, less, took))

  -- what arrives was sent
  pub is-copy : AllInRange (map post_of sent) → (n : NodeId) (a : Arrival) → IsFront s n a → IsCopyOf (map post_of sent) n a
  is-copy ranges n a front =
      numbered-before (map post_of sent) a.number front.from_one
      ∙ was_sent message_bytes-apart (map post_of sent) (a.number - 1) a.from n a.message ranges front.in_range (ap (λ l. slice_get l (a.number - 1)) (sym t.letters) ∙ front.letter)
