-- Each call of a courier keeps its trace a legal vote trace.
use Rattle.vote_courier.proofs.Names.{◌≡◌, ℕ, ◌+◌, ◌<◌, ◌≤◌, ◌^◌, Bool, true, false, List, [], ◌∷◌, ◌++◌, map, length, refl, sym, ap, subst, ◌∙◌, arith, Option, Some, None, ◌&&◌, ◌||◌, is_some, max, min, if◌then◌else◌, append-nil, map-append, same_node, DownCause, NodeId, Out, Post, posts, Asked, Arrival, AllEmpty, passed, taken, was_shut, state_of, blank_tally, Line, Entry, Take, Go, Learn, Hear, Gate, Crash, Down, Tick, Opened, Sent, Numbered, fates_of, post_of, asked_of, Flags, Sending, flagged, names, opened_log, sent_by, last_after, front-cons, Base, Hall, leaving, start_hall, step, walk_from, walk, world_of, JustVoters, Legal, Rule, base_of, hall_after, walk-more, begins-legal, goes-on, CourierParts, HasSent, IsNew, Takes, tick_moment, with_entry, MayAct, Stands, hall_of, owes, trace_of}
use Rattle.std.specs.List.{list_any}
use Rattle.std.specs.Option.{unwrap_or}
use Rattle.pseudo_time.specs.declared.nodes.NodeKind.{NodeKind}
use Rattle.pseudo_time.specs.declared.nodes.NodeKind.TheVariants.{Repository, Broker}
use Rattle.message_form.specs.Messages.{IsMessage}
use Rattle.message_form.specs.Ranges.{AreOuts}
use Rattle.message_core.specs.Senders.{AllInRange}
use Rattle.pseudo_time.proofs.ListLemmas.{every-append}
use Rattle.message_core.specs.Flights as flights
use Rattle.message_core.proofs.TallyLemmas.{tallied_start}
use Rattle.world_core.specs.declared.traces.Trace.{Trace}
use Rattle.vote_wire.specs.Copies.{Marked, IsTied, all_marked}
use Rattle.vote_wire.specs.Flagged.{names_of}
use Rattle.vote_wire.proofs.CauseLemmas.{at-if}
use Rattle.vote_wire.specs.Carried.{IsAtRest, IsCarried, LeavesFlight}
use Rattle.vote_wire.proofs.CarryLemmas.{takes, left-carried, down-carried, tick-carried, idles, gate-carried}

-- ---- a node that is up is known

known-on : (last : Option ℕ) (k : NodeKind) (f : Flags) (e : Entry) → (f.up ≡ true → f.known ≡ true) → (flagged last k f e).up ≡ true → (flagged last k f e).known ≡ true
known-on last k f (Take node number) h = h
known-on last Repository f (Go node) h = h
known-on last Broker f (Go node) h = h
known-on last Repository f (Learn node stamp committed) h = h
known-on last Broker f (Learn node stamp committed) h = h
known-on None k f (Hear node) h = h
known-on (Some t) k f (Hear node) h = h
known-on last k f (Gate node) h = h
known-on last k f (Crash node kept) h = h
known-on last k f (Down node cause) h = λ up. absurd (let z : false ≡ true = up in cc z)
known-on last k f (Tick moment) h = h

-- ---- one entry

module _ (lines : List Line) (c d : CourierParts) (s : Stands lines c) where
  abbrev b : Base
  b = base_of lines (trace_of c)

  abbrev h : Hall
  h = hall_after lines (trace_of c)

  on : (e : Entry) (news : List Sent) (marks : List Marked) → d.start ≡ c.start → d.opened ≡ c.opened → d.sent ≡ c.sent ++ news → d.entries ≡ c.entries ++ e ∷ [] → d.asked ≡ c.asked ++ map asked_of news
      → d.last ≡ last_after c.last e → Rule b (fates_of c.sent) h e → sent_by (world_of (step b h e)) ≡ sent_by (world_of h) ++ map post_of news → Numbered (length c.sent + 1) news
      → AllInRange (map post_of news) → IsCarried (state_of d.flight) (step b h e) (c.sent ++ news) marks → Stands lines d
  on e news marks start opened sent entries asked last rule sends numbers in_range carried =
      let longer : Trace = record { start = c.start; opened = c.opened; sent = c.sent ++ news; entries = c.entries ++ e ∷ [] } in
      let p : longer ≡ trace_of d = (λ i. record { start = sym start i; opened = sym opened i; sent = sym sent i; entries = sym entries i }) in
      let there : hall_after lines (trace_of d) ≡ step b h e = ap (hall_after lines) (sym p) ∙ walk-more b c.entries e in
      record {
        legal = subst (λ a. Legal lines a (trace_of d)) (sym asked) (subst (Legal lines (c.asked ++ map asked_of news)) p (goes-on lines c.asked (trace_of c) e news s.legal rule sends numbers));
        marks = marks;
        carried = subst (λ z. IsCarried (state_of d.flight) z d.sent marks) (sym there) (subst (λ z. IsCarried (state_of d.flight) (step b h e) z marks) (sym sent) carried);
        in_range = subst AllInRange (sym (map-append post_of c.sent news) ∙ ap (map post_of) (sym sent)) (every-append (λ (p : Post). IsMessage p.message) (map post_of c.sent) (map post_of news) s.in_range in_range);
        last = last ∙ ap (λ l. last_after l e) s.last ∙ ap (λ (z : Hall). z.last) (sym there);
        known = λ n. subst (λ (z : Hall). (z.flags n).up ≡ true → (z.flags n).known ≡ true) (sym there)
            (at-if (λ (f : Flags). f.up ≡ true → f.known ≡ true) (names n e && (h.flags n).known) (flagged h.last n.kind (h.flags n) e) (h.flags n) (λ is. known-on h.last n.kind (h.flags n) e (s.known n)) (s.known n));
      }

  -- an entry at which nothing is sent
  quietly : (e : Entry) → d.start ≡ c.start → d.opened ≡ c.opened → d.sent ≡ c.sent → d.entries ≡ c.entries ++ e ∷ [] → d.asked ≡ c.asked → d.last ≡ last_after c.last e
      → Rule b (fates_of c.sent) h e → (step b h e).sendings ≡ h.sendings → IsCarried (state_of d.flight) (step b h e) c.sent s.marks → Stands lines d
  quietly e start opened sent entries asked last rule sends carried =
      on e [] s.marks start opened (sent ∙ sym (append-nil c.sent)) entries (asked ∙ sym (append-nil c.asked)) last rule
      (ap (map (λ (x : Sending). x.post)) sends ∙ sym (append-nil (sent_by (world_of h)))) tt tt
      (subst (λ l. IsCarried (state_of d.flight) (step b h e) l s.marks) (sym (append-nil c.sent)) carried)

-- ---- the calls

pub takes-legal : (lines : List Line) (n : NodeId) (c d : CourierParts) (a : Arrival) → Stands lines c → MayAct lines c n → Takes n c d (Some a) → Stands lines d
takes-legal lines n c d a s may (front, flew, same) =
    let cut = front-cons (flights.waiting (state_of c.flight) n) a.number front.front in
    let t = takes (base_of lines (trace_of c)) (hall_of lines c) (state_of c.flight) c.sent s.marks s.carried n a.number cut.0 may.up may.gone may.heard cut.1 in
    quietly lines c d s (Take n a.number) (ap (λ (z : CourierParts). z.start) same) (ap (λ (z : CourierParts). z.opened) same) (ap (λ (z : CourierParts). z.sent) same) (ap (λ (z : CourierParts). z.entries) same)
    (ap (λ (z : CourierParts). z.asked) same) (ap (λ (z : CourierParts). z.last) same) t.0 refl
    (subst (λ z. IsCarried z (step (base_of lines (trace_of c)) (hall_of lines c) (Take n a.number)) c.sent s.marks) (sym flew) t.1)

pub notes-legal : (lines : List Line) (c : CourierParts) (e : Entry) → Stands lines c → LeavesFlight e → Rule (base_of lines (trace_of c)) (fates_of c.sent) (hall_of lines c) e → Stands lines (with_entry c e)
notes-legal lines c (Take node number) s l r = absurd l
notes-legal lines c (Go node) s l r = quietly lines c (with_entry c (Go node)) s (Go node) refl refl refl refl refl refl r refl (left-carried (base_of lines (trace_of c)) (hall_of lines c) (state_of c.flight) c.sent s.marks s.carried (Go node) l)
notes-legal lines c (Learn node stamp committed) s l r = absurd r
notes-legal lines c (Hear node) s l r = quietly lines c (with_entry c (Hear node)) s (Hear node) refl refl refl refl refl refl r refl (left-carried (base_of lines (trace_of c)) (hall_of lines c) (state_of c.flight) c.sent s.marks s.carried (Hear node) l)
notes-legal lines c (Gate node) s l r = absurd l
notes-legal lines c (Crash node kept) s l r = quietly lines c (with_entry c (Crash node kept)) s (Crash node kept) refl refl refl refl refl refl r refl (left-carried (base_of lines (trace_of c)) (hall_of lines c) (state_of c.flight) c.sent s.marks s.carried (Crash node kept) l)
notes-legal lines c (Down node cause) s l r = absurd l
notes-legal lines c (Tick moment) s l r = absurd l

map-map : {X Y Z : Type 0} (f : X → Y) (g : Y → Z) (xs : List X) → map g (map f xs) ≡ map (λ x. g (f x)) xs
map-map f g [] = refl
map-map f g (x ∷ xs) = ap (λ l. g (f x) ∷ l) (map-map f g xs)

map-same : (xs : List Post) → map (λ (p : Post). p) xs ≡ xs
map-same [] = refl
map-same (x ∷ xs) = ap (λ l. x ∷ l) (map-same xs)

outs-in-range : (n : NodeId) (outs : List Out) → AreOuts outs → AllInRange (posts n outs)
outs-in-range n [] h = tt
outs-in-range n (o ∷ outs) h = (h.0, outs-in-range n outs h.1)

pub gates-legal : (lines : List Line) (n : NodeId) (outs : List Out) (c d : CourierParts) → Stands lines c → ((hall_of lines c).flags n).up ≡ true → ((hall_of lines c).flags n).due ≡ true → outs ≡ owes lines c n → HasSent n outs c d → Stands lines d
gates-legal lines n outs c d s up due owed g =
    let h : Hall = hall_of lines c in
    let are : map post_of g.news ≡ leaving h n = g.posted ∙ ap (posts n) owed in
    let ways : Sending → Post = (λ (x : Sending). x.post) in
    let now : Post → Sending = (λ (p : Post). let r : Sending = record { post = p; ticks = h.ticks } in r) in
    on lines c d s (Gate n) g.news (s.marks ++ all_marked h.ticks g.news) g.start g.opened g.sent g.entries g.asked g.last (record { up = up; due = due })
    (map-append ways h.sendings (map now (leaving h n)) ∙ ap (λ l. map ways h.sendings ++ l) (map-map now ways (leaving h n) ∙ map-same (leaving h n) ∙ sym are))
    g.numbers (subst AllInRange (sym g.posted) (outs-in-range n outs g.in_range))
    (gate-carried (base_of lines (trace_of c)) h (state_of c.flight) (state_of d.flight) c.sent g.news s.marks n s.carried are
    (λ tied. subst (λ l. IsTied (state_of d.flight) (world_of h) l (s.marks ++ all_marked h.ticks g.news)) g.sent (g.copies (world_of h) s.marks tied)))

pub downs-legal : (lines : List Line) (n : NodeId) (cause : DownCause) (c d : CourierParts) → Stands lines c → Rule (base_of lines (trace_of c)) (fates_of c.sent) (hall_of lines c) (Down n cause)
    → state_of d.flight ≡ was_shut (state_of c.flight) n → d ≡ record (with_entry c (Down n cause)) { flight = d.flight } → Stands lines d
downs-legal lines n cause c d s r flew same =
    quietly lines c d s (Down n cause) (ap (λ (z : CourierParts). z.start) same) (ap (λ (z : CourierParts). z.opened) same) (ap (λ (z : CourierParts). z.sent) same) (ap (λ (z : CourierParts). z.entries) same)
    (ap (λ (z : CourierParts). z.asked) same) (ap (λ (z : CourierParts). z.last) same) r refl
    (subst (λ z. IsCarried z (step (base_of lines (trace_of c)) (hall_of lines c) (Down n cause)) c.sent s.marks) (sym flew)
    (down-carried (base_of lines (trace_of c)) (hall_of lines c) (state_of c.flight) c.sent s.marks s.carried n cause s.known))

tick-rule : (start : ℕ) (last : Option ℕ) (m answer : ℕ) → m ≡ max (min answer (2 ^ 62)) (unwrap_or last start + 1) → (unwrap_or last start < m) × (m ≤ max (unwrap_or last start + 1) (2 ^ 62))
tick-rule start last m answer is = (omega (arith, is), omega (arith, is))

pub ticks-legal : (lines : List Line) (c d : CourierParts) (answer : ℕ) → Stands lines c → AllEmpty (state_of c.flight) → IsAtRest (hall_of lines c)
    → d.entries ≡ c.entries ++ Tick (tick_moment c answer) ∷ [] → d.last ≡ Some (tick_moment c answer) → state_of d.flight ≡ passed (state_of c.flight)
    → (d.start ≡ c.start) × (d.opened ≡ c.opened) × (d.sent ≡ c.sent) × (d.asked ≡ c.asked) → Stands lines d
ticks-legal lines c d answer s empty rest entries last flew same =
    let h : Hall = hall_of lines c in
    let b : Base = base_of lines (trace_of c) in
    let t = tick-rule c.start h.last (tick_moment c answer) answer (ap (λ l. max (min answer (2 ^ 62)) (unwrap_or l c.start + 1)) s.last) in
    quietly lines c d s (Tick (tick_moment c answer)) same.0 same.1 same.2 entries same.3 last
    (record { idle = idles b h (state_of c.flight) c.sent s.marks s.carried empty rest; above = t.0; most = t.1 }) refl
    (subst (λ z. IsCarried z (step b h (Tick (tick_moment c answer))) c.sent s.marks) (sym flew) (tick-carried b h (state_of c.flight) c.sent s.marks s.carried (tick_moment c answer)))

-- ---- the beginning

opened-names : (opened : List Opened) (n : NodeId) → list_any (λ m. same_node m n) (names_of opened) ≡ is_some (opened_log opened n)
opened-names [] n = refl
opened-names (o ∷ opened) n = go (same_node o.node n) (opened-names opened n)
  where
    go : (t : Bool) → list_any (λ m. same_node m n) (names_of opened) ≡ is_some (opened_log opened n) → (t || list_any (λ m. same_node m n) (names_of opened)) ≡ is_some (if t then Some o.effects else opened_log opened n)
    go true h = refl
    go false h = h

made : (t : Bool) → is_some {T = List ℕ} (if t then Some [] else None) ≡ t
made true = refl
made false = refl

new-carried : (lines : List Line) (start : ℕ) (opened : List Opened) → IsCarried (flights.start (names_of opened)) (start_hall (record { start = start; opened = opened; lines = lines })) [] []
new-carried lines start opened = record {
  tied = record {
    ledger = blank_tally;
    tally = tallied_start (names_of opened);
    taken = λ k. refl;
    sendings = refl;
    sent_are = refl;
    letters = refl;
    ticks = refl;
    opened = λ n. made (list_any (λ m. same_node m n) (names_of opened)) ∙ opened-names opened n;
  };
  walked = refl;
}

none-walked : (b : Base) (es : List Entry) → es ≡ [] → walk b es ≡ start_hall b
unfolding walk_from
none-walked b es none = ap (walk_from b (start_hall b)) none

pub begins : (lines : List Line) (opened : List Opened) (asked : List Asked) (c : CourierParts) → JustVoters (length lines) opened → IsNew (names_of opened) opened asked c → Stands lines c
begins lines opened asked c nodes new =
    let b : Base = base_of lines (trace_of c) in
    let there : hall_of lines c ≡ start_hall b = none-walked b c.entries new.entries in
    record {
      legal = begins-legal lines c.asked (trace_of c) (subst (JustVoters (length lines)) (sym new.opened_is) nodes) new.sent new.entries;
      marks = [];
      carried = subst (λ z. IsCarried (state_of c.flight) z c.sent []) (sym there) (subst (λ z. IsCarried (state_of c.flight) (start_hall b) z []) (sym new.sent)
          (subst (λ z. IsCarried z (start_hall b) [] []) (sym (new.flight ∙ ap (λ l. flights.start (names_of l)) (sym new.opened_is))) (new-carried lines c.start c.opened)));
      in_range = subst (λ l. AllInRange (map post_of l)) (sym new.sent) tt;
      last = new.last ∙ ap (λ (z : Hall). z.last) (sym there);
      known = λ n. subst (λ (z : Hall). (z.flags n).up ≡ true → (z.flags n).known ≡ true) (sym there) (λ up. up);
    }
