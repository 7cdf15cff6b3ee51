-- Turns of polls, one after the other.
use Rattle.std.proofs.Math.ListN.{get_or, set}
use Rattle.vote_run.proofs.Names.{broker, is_broker, same_node, NodeId, NodeKind, Repository, Broker, Out, PollState, Line, Entry, Gate, Go, Hear, Take, Flags, names, Hall, CourierParts, HasSent, with_entry, Stands, hall_of, IsReady, OnlyChanges, PollIsAt, keeps-join, keeps-still, keeps-wider, never-false, Lengthens, PollsGo, PollsTurned, PollsWent, is_poll, ◌≡◌, ◌≢◌, ℕ, zero, suc, ◌+◌, ◌<◌, Bool, true, false, List, [], ◌∷◌, ◌++◌, length, inl, inr, refl, sym, ap, subst, ◌∙◌, arith, Some, ◌&&◌, ◌⊎◌, not, is_some, nat_lt, slice_get, OnOk, Result, Ok, Err, slice_get-get_or, nat_tests, poll_goes, poll_hears, poll_takes, PollIsNew, goes-kept, turns-kept}
use Rattle.vote_courier.specs.Turns.{Goes, PollTurns}
use Rattle.vote_run.proofs.EntryLemmas.{lengthens-join, lengthens-one, lengthens-still}

-- ---- who isn't named stays

module _ (of : NodeId → Bool) (h k : Hall) (o : OnlyChanges of h k) where
  pub ready-stays : (n : NodeId) (behind : Bool) → of n ≡ false → IsReady h n behind → IsReady k n behind
  ready-stays n behind f r = record {
    up = ap (λ (z : Flags). z.up) (o.flags n f) ∙ r.up;
    closed = ap (λ (z : Flags). z.due) (o.flags n f) ∙ r.closed;
    gone = λ poll. ap (λ (z : Flags). z.gone) (o.flags n f) ∙ r.gone poll;
    behind_is = ap (λ l. is_some l && not (k.heard n)) o.last ∙ ap (λ v. is_some h.last && not v) (o.heard n f) ∙ r.behind_is;
  }

  pub poll-stays : (i : ℕ) (p : PollState) (behind : Bool) → of (broker i) ≡ false → PollIsAt h i p behind → PollIsAt k i p behind
  poll-stays i p behind f at = record { ready = ready-stays (broker i) behind f at.ready; poll = o.polls i f ∙ at.poll; owed = o.owed i f ∙ at.owed }

  pub new-stays : (i : ℕ) (p : PollState) → of (broker i) ≡ false → PollIsNew h i p → PollIsNew k i p
  new-stays i p f at = record {
    up = ap (λ (z : Flags). z.up) (o.flags (broker i) f) ∙ at.up;
    fresh = ap (λ (z : Flags). z.gone) (o.flags (broker i) f) ∙ at.fresh;
    still = o.last ∙ at.still;
    poll = o.polls i f ∙ at.poll;
    owed = o.owed i f ∙ at.owed;
  }

-- ---- lists

apart : (i k : ℕ) → i ≢ k → same_node (broker (suc i)) (broker (suc k)) ≡ false
apart i k e = grind (arith, nat_tests, e)

other-kind : (i number : ℕ) (k : NodeKind) → is_broker k ≡ false → same_node (broker i) (record { kind = k; number = number }) ≡ false
other-kind i number Repository f = refl
other-kind i number Broker f = never-false f

poll-wider : (i : ℕ) (m : NodeId) → is_poll m ≡ false → same_node (broker i) m ≡ false
poll-wider i m f = other-kind i m.number m.kind f

lt-self : (k : ℕ) → nat_lt k (suc k) ≡ true
lt-self k = grind (arith, nat_tests)

lt-none : (k : ℕ) → nat_lt k k ≡ false
lt-none k = grind (arith, nat_tests)

lt-other : (i k : ℕ) → i ≢ k → nat_lt k (suc i) ≡ nat_lt k i
lt-other i k e = grind (arith, nat_tests, e)

-- what stands in a list with one place set anew
set-cases : (ps : List PollState) (i : ℕ) (q : PollState) (k : ℕ) (p : PollState) → slice_get (set ps i q) k ≡ Some p → ((i ≡ k) × (p ≡ q)) ⊎ ((i ≢ k) × (slice_get ps k ≡ Some p))
set-cases [] i q zero p h = absurd (let never : ⊥ = cc h in never)
set-cases [] i q (suc k) p h = absurd (let never : ⊥ = cc h in never)
set-cases (x ∷ ps) zero q zero p h = inl (refl, sym (let e : q ≡ p = cc h in e))
set-cases (x ∷ ps) zero q (suc k) p h = inr ((λ e. omega (arith, e)), h)
set-cases (x ∷ ps) (suc i) q zero p h = inr ((λ e. omega (arith, e)), h)
set-cases (x ∷ ps) (suc i) q (suc k) p h = elim (set-cases ps i q k p h) [
  | inl r ↦ inl (ap suc r.0, r.1)
  | inr r ↦ inr ((λ e. r.0 (omega (arith, e))), r.1)
]

-- ---- one turn more

module _ (lines : List Line) (c d f : CourierParts) (i : ℕ) (ps : List PollState) (old q : PollState) (there : slice_get ps i ≡ Some old) where
  pub turned-more : (behind : Bool) → PollsTurned lines c d i behind ps → PollTurns behind (broker (suc i)) d f old q → PollsTurned lines c f (suc i) behind (set ps i q)
  turned-more behind t turn =
      let at : PollIsAt (hall_of lines d) (suc i) old behind = subst (λ b. PollIsAt (hall_of lines d) (suc i) old (not b && behind)) (lt-none i) (t.polls i old there) in
      let r = turns-kept lines (suc i) behind old q d f t.keeps.stands at turn in
      record {
        keeps = keeps-join lines is_poll c d f t.keeps (keeps-wider lines (same_node (broker (suc i))) is_poll d f (poll-wider (suc i)) r.0);
        polls = λ k p h. elim (set-cases ps i q k p h) [
          | inl e ↦ subst (λ j. PollIsAt (hall_of lines f) (suc j) p (not (nat_lt j (suc i)) && behind)) e.0
              (subst (λ b. PollIsAt (hall_of lines f) (suc i) p (not b && behind)) (sym (lt-self i)) (subst (λ z. PollIsAt (hall_of lines f) (suc i) z false) (sym e.1) r.1))
          | inr e ↦ subst (λ b. PollIsAt (hall_of lines f) (suc k) p (not b && behind)) (sym (lt-other i k e.0))
              (poll-stays (same_node (broker (suc i))) (hall_of lines d) (hall_of lines f) r.0.others (suc k) p (not (nat_lt k i) && behind) (apart i k e.0) (t.polls k p e.1))
        ];
      }

  pub went-more : PollsWent lines c d i ps → Goes (broker (suc i)) d f old q → PollsWent lines c f (suc i) (set ps i q)
  went-more t turn =
      let r = goes-kept lines (suc i) old q d f t.keeps.stands (t.polls.before i old there (lt-none i)) turn in
      record {
        keeps = keeps-join lines is_poll c d f t.keeps (keeps-wider lines (same_node (broker (suc i))) is_poll d f (poll-wider (suc i)) r.0);
        polls = record {
          before = λ k p h late. elim (set-cases ps i q k p h) [
            | inl e ↦ never-false (sym (lt-self i) ∙ ap (λ j. nat_lt j (suc i)) e.0 ∙ late)
            | inr e ↦ new-stays (same_node (broker (suc i))) (hall_of lines d) (hall_of lines f) r.0.others (suc k) p (apart i k e.0) (t.polls.before k p e.1 (sym (lt-other i k e.0) ∙ late))
          ];
          after = λ k p h early. elim (set-cases ps i q k p h) [
            | inl e ↦ subst (λ j. PollIsAt (hall_of lines f) (suc j) p false) e.0 (subst (λ z. PollIsAt (hall_of lines f) (suc i) z false) (sym e.1) r.1)
            | inr e ↦ poll-stays (same_node (broker (suc i))) (hall_of lines d) (hall_of lines f) r.0.others (suc k) p false (apart i k e.0) (t.polls.after k p e.1 (sym (lt-other i k e.0) ∙ early))
          ];
        };
      }

pub went-none : (lines : List Line) (c : CourierParts) (ps : List PollState) → Stands lines c → PollsGo (hall_of lines c) 0 ps → PollsWent lines c c 0 ps
went-none lines c ps s at = record { keeps = keeps-still lines is_poll c c s refl; polls = at }

-- as a loop has it
pub turned-on : (lines : List Line) (c d f : CourierParts) (i : ℕ) (ps : List PollState) (old q x : PollState) (node : NodeId) (behind : Bool) → i < length ps → old ≡ get_or ps i x → node ≡ broker (i + 1)
    → PollTurns behind node d f old q → PollsTurned lines c d i behind ps → PollsTurned lines c f (i + 1) behind (set ps i q)
turned-on lines c d f i ps old q x node behind less value is turn t =
    let next : suc i ≡ i + 1 = omega arith in
    subst (λ k. PollsTurned lines c f k behind (set ps i q)) next
    (turned-more lines c d f i ps old q (slice_get-get_or ps i x less ∙ ap Some (sym value)) behind t (subst (λ n. PollTurns behind n d f old q) (is ∙ ap broker (sym next)) turn))

pub went-on : (lines : List Line) (c d f : CourierParts) (i : ℕ) (ps : List PollState) (old q x : PollState) (node : NodeId) → i < length ps → old ≡ get_or ps i x → node ≡ broker (i + 1)
    → Goes node d f old q → PollsWent lines c d i ps → PollsWent lines c f (i + 1) (set ps i q)
went-on lines c d f i ps old q x node less value is turn t =
    let next : suc i ≡ i + 1 = omega arith in
    subst (λ k. PollsWent lines c f k (set ps i q)) next
    (went-more lines c d f i ps old q (slice_get-get_or ps i x less ∙ ap Some (sym value)) t (subst (λ n. Goes n d f old q) (is ∙ ap broker (sym next)) turn))

-- which entries a poll adds
sent-longer : (n : NodeId) (outs : List Out) (e : Entry) (c mid d : CourierParts) → ((m : NodeId) → is_poll m ≡ false → same_node n m ≡ false) → ((m : NodeId) → names m e ≡ same_node n m) → mid.entries ≡ c.entries ++ e ∷ [] → HasSent n outs mid d
    → Lengthens is_poll c.entries d.entries
sent-longer n outs e c mid d among own longer g =
    lengthens-join is_poll c.entries mid.entries d.entries (lengthens-one is_poll n e c.entries mid.entries among own longer) (lengthens-one is_poll n (Gate n) mid.entries d.entries among (λ m. refl) g.entries)

goes-own : (i : ℕ) (p q : PollState) (c d : CourierParts) → Goes (broker i) c d p q → Lengthens is_poll c.entries d.entries
goes-own i p q c d g = sent-longer (broker i) (poll_goes p) (Go (broker i)) c (with_entry c (Go (broker i))) d (poll-wider i) (λ m. refl) refl g.1

turns-own : (behind : Bool) (i : ℕ) (p q : PollState) (c d : CourierParts) → PollTurns behind (broker i) c d p q → Lengthens is_poll c.entries d.entries
turns-own true i p q c d g = sent-longer (broker i) (poll_hears p) (Hear (broker i)) c (with_entry c (Hear (broker i))) d (poll-wider i) (λ m. refl) refl g.1
turns-own false i p q c d (inl g) = lengthens-still is_poll c.entries d.entries (ap (λ (z : CourierParts). z.entries) g.still)
turns-own false i p q c d (inr g) =
    sent-longer (broker i) (poll_takes p g.arrival.from g.arrival.message).outs (Take (broker i) g.arrival.number) c g.mid d (poll-wider i) (λ m. refl) (ap (λ (z : CourierParts). z.entries) g.takes.2) g.sends

-- as a loop has it
pub goes-longer : (es : List Entry) (c d : CourierParts) (i : ℕ) (p q : PollState) (node : NodeId) → node ≡ broker (i + 1) → Goes node c d p q → Lengthens is_poll es c.entries → Lengthens is_poll es d.entries
goes-longer es c d i p q node is g l = lengthens-join is_poll es c.entries d.entries l (goes-own (i + 1) p q c d (subst (λ n. Goes n c d p q) is g))

pub turns-longer : (es : List Entry) (c d : CourierParts) (i : ℕ) (behind : Bool) (p q : PollState) (node : NodeId) → node ≡ broker (i + 1) → PollTurns behind node c d p q → Lengthens is_poll es c.entries → Lengthens is_poll es d.entries
turns-longer es c d i behind p q node is g l = lengthens-join is_poll es c.entries d.entries l (turns-own behind (i + 1) p q c d (subst (λ n. PollTurns behind n c d p q) is g))

-- what holds of Ok
pub ok-of : {T E P : Type 0} (r : Result T E) (x : T) → r ≡ Ok x → OnOk r P → P
ok-of {T} {E} {P} r x is h = subst (λ (z : Result T E). OnOk z P) is h

pub on-ok : {T E P Q : Type 0} (r : Result T E) → (P → Q) → OnOk r P → OnOk r Q
on-ok (Ok x) f h = f h
on-ok (Err e) f h = tt
