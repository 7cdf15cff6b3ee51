-- The copies in flight, entry by entry.
use Rattle.wire_core.proofs.Names.{DownCause, NodeId, NodeKind, Repository, Broker, same_node, Fate, State, waiting, sent, taken, passed, was_shut, count, Entry, Take, Go, Learn, Hear, Gate, Crash, Down, Tick, Sent, Base, World, Flags, names, flagged, flags_after, ticks_after, step, post_of, times_taken, Marked, sent_of, tallied, IsTied, all_marked, ◌≡◌, ℕ, ◌+◌, ◌==◌, Bool, true, false, ◌&&◌, cond, not, List, [], ◌∷◌, ◌++◌, map, take, if◌then◌else◌, refl, sym, ap, ◌∙◌, Option, Some, None, arith, map-append, sent_at_once, sent_later, letter_of, noted, kept-if, kept-map, kept-sent, gone, tallied_step, taken_after, is_down}
use Rattle.message_core.specs.declared.letters.Letter.{Letter}
use Rattle.message_core.specs.Flights as flights
use Rattle.message_core.proofs.Counting.{count-append}

-- ---- who is up

flagged-up : (last : Option ℕ) (k : NodeKind) (f : Flags) (e : Entry) → is_down e ≡ false → (flagged last k f e).up ≡ f.up
flagged-up last k f (Take node number) h = refl
flagged-up last Repository f (Go node) h = refl
flagged-up last Broker f (Go node) h = refl
flagged-up last Repository f (Learn node stamp committed) h = refl
flagged-up last Broker f (Learn node stamp committed) h = refl
flagged-up None k f (Hear node) h = refl
flagged-up (Some m) k f (Hear node) h = refl
flagged-up last k f (Gate node) h = refl
flagged-up last k f (Crash node kept) h = refl
flagged-up last k f (Down node cause) h = absurd (cc h)
flagged-up last k f (Tick moment) h = refl

up-if : (t : Bool) (f g : Flags) → g.up ≡ f.up → (if t then g else f).up ≡ f.up
up-if true f g h = h
up-if false f g h = refl

stays-up : (w : World) (e : Entry) (n : NodeId) → is_down e ≡ false → (flags_after w e n).up ≡ (w.flags n).up
stays-up w e n h = up-if (names n e && (w.flags n).known) (w.flags n) (flagged w.last n.kind (w.flags n) e) (flagged-up w.last n.kind (w.flags n) e h)

-- ---- how often a number was taken

-- an entry that leaves the flight
pub record LeavesCopies (e : Entry) : Type 0 where
  pub taken : (l : List ℕ) → taken_after l e ≡ l
  pub ticks : (k : ℕ) → ticks_after k e ≡ k
  pub up : is_down e ≡ false

module _ (b : Base) (w : World) (msgs : List Sent) (marks : List Marked) (s : State) where
  still-taken : (e : Entry) (k : ℕ) → ((l : List ℕ) → taken_after l e ≡ l) → times_taken w k ≡ times_taken (step b w e) k
  still-taken e k same = ap (count k) (sym (same w.taken))

  pub tied-left : (e : Entry) → LeavesCopies e → IsTied s w msgs marks → IsTied s (step b w e) msgs marks
  tied-left e leaves t = record {
    ledger = t.ledger;
    tally = t.tally;
    taken = λ k. t.taken k ∙ still-taken e k leaves.taken;
    sendings = t.sendings;
    sent_are = t.sent_are;
    letters = t.letters;
    ticks = t.ticks ∙ sym (leaves.ticks w.ticks);
    opened = λ n. t.opened n ∙ sym (stays-up w e n leaves.up);
  }

  one-last : (k number : ℕ) (xs : List ℕ) → count k (xs ++ number ∷ []) ≡ cond (number == k) 1 0 + count k xs
  one-last k number xs = let h = count-append k xs (number ∷ []) in omega (arith, h)

  -- a copy is taken
  pub tied-take : (node : NodeId) (number : ℕ) (rest : List ℕ) → waiting s node ≡ number ∷ rest → IsTied s w msgs marks → IsTied (taken s node) (step b w (Take node number)) msgs marks
  tied-take node number rest front t = record {
    ledger = noted s t.ledger (flights.Take node);
    tally = tallied_step s t.ledger (flights.Take node) t.tally;
    taken = λ k. ap (λ (q : List ℕ). count k (t.ledger.taken ++ take 1 q)) front ∙ one-last k number t.ledger.taken ∙ ap (λ c. cond (number == k) 1 0 + c) (t.taken k);
    sendings = t.sendings;
    sent_are = t.sent_are;
    letters = t.letters;
    ticks = t.ticks;
    opened = λ n. kept-if (same_node node n) _ (s.queues n) ∙ t.opened n ∙ sym (stays-up w (Take node number) n refl);
  }

  -- a Tick passes
  pub tied-tick : (moment : ℕ) → IsTied s w msgs marks → IsTied (passed s) (step b w (Tick moment)) msgs marks
  tied-tick moment t = record {
    ledger = t.ledger;
    tally = tallied_step s t.ledger flights.Pass t.tally;
    taken = t.taken;
    sendings = t.sendings;
    sent_are = t.sent_are;
    letters = t.letters;
    ticks = ap (λ k. k + 1) t.ticks;
    opened = λ n. kept-map _ (s.queues n) ∙ t.opened n ∙ sym (stays-up w (Tick moment) n refl);
  }

  -- a node goes down
  down-up : (b known : Bool) (f : Flags) (u : Bool) → f.known ≡ known → (f.up ≡ true → known ≡ true) → f.up ≡ u
      → (f.up && not b) ≡ (if b && known then record { known = f.known; up = false; gone = f.gone; due = f.due } else f).up
  down-up true true f u same up is = ap (λ t. t && false) is ∙ never u
    where
      never : (u : Bool) → (u && false) ≡ false
      never true = refl
      never false = refl
  down-up true false f true same up is = absurd (let never : false ≡ true = up is in cc never)
  down-up true false f false same up is = ap (λ t. t && false) is ∙ sym is
  down-up false known f true same up is = ap (λ t. t && true) is ∙ sym is
  down-up false known f false same up is = ap (λ t. t && true) is ∙ sym is

  pub tied-down : (node : NodeId) (cause : DownCause) → ((n : NodeId) → (w.flags n).up ≡ true → (w.flags n).known ≡ true)
      → IsTied s w msgs marks → IsTied (was_shut s node) (step b w (Down node cause)) msgs marks
  tied-down node cause known t = record {
    ledger = t.ledger;
    tally = tallied_step s t.ledger (flights.Shut node) t.tally;
    taken = t.taken;
    sendings = t.sendings;
    sent_are = t.sent_are;
    letters = t.letters;
    ticks = t.ticks;
    opened = λ n. gone (same_node node n) (s.queues n) ∙ ap (λ u. u && not (same_node node n)) (t.opened n) ∙ down-up (same_node node n) (w.flags n).known (w.flags n) (w.flags n).up refl (known n) refl;
  }

-- a message is sent
module _ (w : World) (msgs : List Sent) (marks : List Marked) (s : State) where
  sent-ways : (letter : Letter) (fate : Fate) (t : Bool) → ((if t then sent_at_once s letter fate else sent_later s letter fate).letters ≡ s.letters ++ letter ∷ []) × ((if t then sent_at_once s letter fate else sent_later s letter fate).ticks ≡ s.ticks)
  sent-ways letter fate true = (refl, refl)
  sent-ways letter fate false = (refl, refl)

  pub tied-send : (x : Sent) → IsTied s w msgs marks → IsTied (sent s (letter_of (post_of x)) x.fate) w (msgs ++ x ∷ []) (marks ++ all_marked w.ticks (x ∷ []))
  tied-send x t =
      let ways = sent-ways (letter_of (post_of x)) x.fate (x.fate.hold == 0) in
      record {
        ledger = noted s t.ledger (flights.Send (letter_of (post_of x)) x.fate);
        tally = tallied_step s t.ledger (flights.Send (letter_of (post_of x)) x.fate) t.tally;
        taken = t.taken;
        sendings = ap (λ l. l ++ record { to = x.to; fate = x.fate; ticks = s.ticks } ∷ []) t.sendings
            ∙ ap (λ k. map tallied marks ++ record { to = x.to; fate = x.fate; ticks = k } ∷ []) t.ticks
            ∙ sym (map-append tallied marks (all_marked w.ticks (x ∷ [])));
        sent_are = ap (λ l. l ++ x ∷ []) t.sent_are ∙ sym (map-append sent_of marks (all_marked w.ticks (x ∷ [])));
        letters = ways.0 ∙ ap (λ l. l ++ letter_of (post_of x) ∷ []) t.letters ∙ sym (map-append letter_of (map post_of msgs) (post_of x ∷ [])) ∙ ap (map letter_of) (sym (map-append post_of msgs (x ∷ [])));
        ticks = ways.1 ∙ t.ticks;
        opened = λ n. kept-sent s (letter_of (post_of x)) x.fate n ∙ t.opened n;
      }
