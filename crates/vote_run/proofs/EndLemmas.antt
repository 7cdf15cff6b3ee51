-- Rounds, Ticks and idle places.
use Rattle.vote_run.proofs.Names.{broker, repository, NodeId, NodeKind, Repository, Broker, state_of, MemberNumber, First, Second, Third, PollState, member, Line, Entry, Take, Go, Learn, Hear, Gate, Crash, Down, Tick, is_behind, is_within, Flags, names, opened_log, Media, Base, Hall, world_of, down_cause, WasNotOpened, base_of, most_of, CourierParts, tick_moment, hall_of, trace_of, Adds, IsReady, PollIsAt, and-false, never-false, Between, Follows, HasCome, HasGoneRound, HaveSat, all_late, is_member, late, PollsAre, PollsTurned, is_poll, Sits, Limits, Next, Over, Round, Ticked, Members, Seat, Up, Fallen, Wanting, ◌≡◌, ℕ, zero, suc, ◌+◌, ◌<◌, ◌≤◌, Bool, true, false, List, [], ◌∷◌, ◌++◌, map, length, inl, inr, refl, sym, ap, subst, ◌∙◌, arith, Option, Some, None, ◌⊎◌, ◌&&◌, not, is_some, nat_le, nat_lt, slice_get, is_err, IfOk, OnOk, Result, Ok, Err, unwrap_or, and_parts, append-nil, nat_tests, slice_get_within, AllEmpty, held, Idle, asked_of, fates_of, flagged, not-behind, start_hall, step, walk, walk_from, Tells, ticks-legal, adds-join, adds-still, there, HasEnded, HasTicked, IsOver, TicksAreWanted, all_held, any_node, MayTurn, is_late, some_late}
use Rattle.stream_port.specs.declared.fates.Asked.{Asked}
use Rattle.vote_courier.specs.Clocked.{IsClocked, tick_moments}
use Rattle.vote_courier.proofs.MomentLemmas.{clocked-tick, latest}
use Rattle.vote_courier.proofs.CauseLemmas.{at-if}
use Rattle.vote_courier.proofs.WalkLemmas.{walk-append}
use Rattle.vote_law.specs.Smooth.{HoldAll, TicksForPolls}
use Rattle.vote_courier.specs.Carried.{IsAtRest, IsAtRestAt}
use Rattle.vote_courier.proofs.CarryLemmas.{idles}
use Rattle.vote_run.proofs.EntryLemmas.{down-still, out-stays}
use Rattle.vote_run.proofs.MembersLemmas.{or-parts, sits-stay}
use Rattle.vote_run.proofs.PollLemmas.{poll-stays}

-- ---- what every walk keeps

flagged-known : (last : Option ℕ) (k : NodeKind) (f : Flags) (e : Entry) → (flagged last k f e).known ≡ f.known
flagged-known last k f (Take node number) = refl
flagged-known last Repository f (Go node) = refl
flagged-known last Broker f (Go node) = refl
flagged-known last Repository f (Learn node stamp committed) = refl
flagged-known last Broker f (Learn node stamp committed) = refl
flagged-known None k f (Hear node) = refl
flagged-known (Some t) k f (Hear node) = refl
flagged-known last k f (Gate node) = refl
flagged-known last k f (Crash node kept) = refl
flagged-known last k f (Down node cause) = refl
flagged-known last k f (Tick moment) = refl

module _ (b : Base) where
  known-kept : (h : Hall) (es : List Entry) (n : NodeId) → ((walk_from b h es).flags n).known ≡ (h.flags n).known
  unfolding walk_from
  known-kept h [] n = refl
  known-kept h (e ∷ es) n = known-kept (step b h e) es n
      ∙ at-if (λ (f : Flags). f.known ≡ (h.flags n).known) (names n e && (h.flags n).known) (flagged h.last n.kind (h.flags n) e) (h.flags n) (λ is. flagged-known h.last n.kind (h.flags n) e) refl

  last-kept : (h : Hall) (es : List Entry) (start : ℕ) → unwrap_or (walk_from b h es).last start ≡ latest (unwrap_or h.last start) (tick_moments es)
  unfolding walk_from
  last-kept h [] start = refl
  last-kept h (Take node number ∷ es) start = last-kept (step b h (Take node number)) es start
  last-kept h (Go node ∷ es) start = last-kept (step b h (Go node)) es start
  last-kept h (Learn node stamp committed ∷ es) start = last-kept (step b h (Learn node stamp committed)) es start
  last-kept h (Hear node ∷ es) start = last-kept (step b h (Hear node)) es start
  last-kept h (Gate node ∷ es) start = last-kept (step b h (Gate node)) es start
  last-kept h (Crash node kept ∷ es) start = last-kept (step b h (Crash node kept)) es start
  last-kept h (Down node cause ∷ es) start = last-kept (step b h (Down node cause)) es start
  last-kept h (Tick moment ∷ es) start = last-kept (step b h (Tick moment)) es start

-- ---- numbers

none-below : (k : ℕ) → nat_lt k 0 ≡ false
none-below k = grind (arith, nat_tests)

all-below : (k n : ℕ) → k < n → nat_lt k n ≡ true
all-below k n less = grind (arith, nat_tests, less)

within-parts : (i most : ℕ) → is_within i most ≡ true → (1 ≤ i) × (i ≤ most)
within-parts i most h =
    let p = and_parts (nat_le 1 i) (nat_le i most) h in
    let low = p.0 in
    let high = p.1 in
    (grind (arith, nat_tests, low), grind (arith, nat_tests, high))

three : (i : ℕ) → is_within i 3 ≡ true → (i ≡ 1) ⊎ ((i ≡ 2) ⊎ (i ≡ 3))
three zero h = absurd (let p = (within-parts 0 3 h).0 in omega (arith, p))
three (suc zero) h = inl refl
three (suc (suc zero)) h = inr (inl refl)
three (suc (suc (suc zero))) h = inr (inr refl)
three (suc (suc (suc (suc k)))) h = absurd (let p = (within-parts (suc (suc (suc (suc k)))) 3 h).1 in omega (arith, p))

some-at : (ps : List PollState) (k : ℕ) → k < length ps → (p : PollState) × (slice_get ps k ≡ Some p)
some-at [] k less = absurd (omega (arith, less))
some-at (p ∷ ps) zero less = (p, refl)
some-at (p ∷ ps) (suc k) less = some-at ps k (omega (arith, less))

-- ---- which Ticks stand

-- an entry among two lists stands in the one or in the other
record IsIn (xs front : List Entry) (e : Entry) : Type 0 where
  rest : List Entry
  is : xs ≡ front ++ e ∷ rest

record IsBehind (xs ys front : List Entry) (e : Entry) : Type 0 where
  middle : List Entry
  rest : List Entry
  front_is : front ≡ xs ++ middle
  is : ys ≡ middle ++ e ∷ rest

one-of-two : (xs ys front rest : List Entry) (e : Entry) → xs ++ ys ≡ front ++ e ∷ rest → IsIn xs front e ⊎ IsBehind xs ys front e
one-of-two [] ys front rest e is = inr (record { middle = front; rest = rest; front_is = refl; is = is })
one-of-two (x ∷ xs) ys [] rest e is = inl (record { rest = xs; is = ap (λ z. z ∷ xs) (let k : x ≡ e = cc is in k) })
one-of-two (x ∷ xs) ys (y ∷ front) rest e is =
    let head : x ≡ y = cc is in
    let tail : xs ++ ys ≡ front ++ e ∷ rest = cc is in
    elim (one-of-two xs ys front rest e tail) [
      | inl a ↦ inl (record { rest = a.rest; is = ap (λ z. z ∷ xs) head ∙ ap (λ z. y ∷ z) a.is })
      | inr a ↦ inr (record { middle = a.middle; rest = a.rest; front_is = ap (λ z. z ∷ front) (sym head) ∙ ap (λ z. x ∷ z) a.front_is; is = a.is })
    ]

module _ (b : Base) where
  ticks-rise : (h : Hall) (es : List Entry) → h.ticks ≤ (walk_from b h es).ticks
  unfolding walk_from
  ticks-rise h [] = omega arith
  ticks-rise h (Take node number ∷ es) = ticks-rise (step b h (Take node number)) es
  ticks-rise h (Go node ∷ es) = ticks-rise (step b h (Go node)) es
  ticks-rise h (Learn node stamp committed ∷ es) = ticks-rise (step b h (Learn node stamp committed)) es
  ticks-rise h (Hear node ∷ es) = ticks-rise (step b h (Hear node)) es
  ticks-rise h (Gate node ∷ es) = ticks-rise (step b h (Gate node)) es
  ticks-rise h (Crash node kept ∷ es) = ticks-rise (step b h (Crash node kept)) es
  ticks-rise h (Down node cause ∷ es) = ticks-rise (step b h (Down node cause)) es
  ticks-rise h (Tick moment ∷ es) = let k : h.ticks + 1 ≤ (walk_from b (step b h (Tick moment)) es).ticks = ticks-rise (step b h (Tick moment)) es in omega (arith, k)

  one-tick : (h : Hall) (moment : ℕ) (es : List Entry) → suc h.ticks ≤ (walk_from b h (Tick moment ∷ es)).ticks
  unfolding walk_from
  one-tick h moment es = let k : h.ticks + 1 ≤ (walk_from b (step b h (Tick moment)) es).ticks = ticks-rise (step b h (Tick moment)) es in omega (arith, k)

  -- where no time has passed over these entries, no Tick is among them
  no-tick : (h : Hall) (es front rest : List Entry) (moment : ℕ) → (walk_from b h es).ticks ≡ h.ticks → es ≡ front ++ Tick moment ∷ rest → ⊥
  no-tick h es front rest moment same is =
      let whole : walk_from b h es ≡ walk_from b (walk_from b h front) (Tick moment ∷ rest) = ap (walk_from b h) is ∙ walk-append b h front (Tick moment ∷ rest) in
      let more : suc (walk_from b h front).ticks ≤ (walk_from b (walk_from b h front) (Tick moment ∷ rest)).ticks = one-tick (walk_from b h front) moment rest in
      let k : (walk_from b h es).ticks ≡ (walk_from b (walk_from b h front) (Tick moment ∷ rest)).ticks = ap (λ (z : Hall). z.ticks) whole in
      absurd (omega (arith, same, more, k, ticks-rise h front))

-- no Tick stands at the beginning
none-wanted : (lines : List Line) (c : CourierParts) → (hall_of lines c).ticks ≡ 0 → TicksAreWanted lines c
none-wanted lines c none front rest moment is all = no-tick (base_of lines (trace_of c)) (start_hall (base_of lines (trace_of c))) c.entries front rest moment none is

-- entries without a Tick behind others
module _ (lines : List Line) (c d : CourierParts) (a : Adds any_node c d) where
  abbrev b-old : Base
  b-old = base_of lines (trace_of c)

  same-base : base_of lines (trace_of d) ≡ b-old
  same-base i = record { start = a.start i; opened = a.opened i; lines = lines }

  hall-later : hall_of lines d ≡ walk_from b-old (hall_of lines c) a.more
  hall-later = (λ i. walk_from (same-base i) (start_hall (same-base i)) (a.longer i)) ∙ walk-append b-old (start_hall b-old) c.entries a.more

  wanted-later : (hall_of lines d).ticks ≡ (hall_of lines c).ticks → TicksAreWanted lines c → TicksAreWanted lines d
  wanted-later same wanted = subst (λ z. TicksForPolls z d.entries) (sym same-base) (λ front rest moment is all. go front rest moment all (one-of-two c.entries a.more front rest (Tick moment) (sym a.longer ∙ is)))
    where
      go : (front rest : List Entry) (moment : ℕ) → HoldAll lines (walk b-old front) → IsIn c.entries front (Tick moment) ⊎ IsBehind c.entries a.more front (Tick moment) → ⊥
      go front rest moment all (inl here) = wanted front here.rest moment here.is all
      go front rest moment all (inr later) = no-tick b-old (hall_of lines c) a.more later.middle later.rest moment (ap (λ (z : Hall). z.ticks) (sym hall-later) ∙ same) later.is

-- and a Tick behind them
module _ (lines : List Line) (c d : CourierParts) (moment : ℕ) (longer : d.entries ≡ c.entries ++ Tick moment ∷ []) (base-is : base_of lines (trace_of d) ≡ base_of lines (trace_of c)) (unheld : HoldAll lines (hall_of lines c) → ⊥) (wanted : TicksAreWanted lines c) where
  last : (middle rest : List Entry) (e : Entry) → Tick moment ∷ [] ≡ middle ++ e ∷ rest → middle ≡ []
  last [] rest e is = refl
  last (x ∷ []) rest e is = absurd (let k : ◌≡◌ {A = List Entry} [] (e ∷ rest) = cc is in cc k)
  last (x ∷ y ∷ middle) rest e is = absurd (let k : ◌≡◌ {A = List Entry} [] (y ∷ (middle ++ e ∷ rest)) = cc is in cc k)

  tick-place : (front rest : List Entry) (other : ℕ) → HoldAll lines (walk (base_of lines (trace_of c)) front) → IsIn c.entries front (Tick other) ⊎ IsBehind c.entries (Tick moment ∷ []) front (Tick other) → ⊥
  tick-place front rest other all (inl here) = wanted front here.rest other here.is all
  tick-place front rest other all (inr later) =
      unheld (subst (λ z. HoldAll lines (walk (base_of lines (trace_of c)) z)) (later.front_is ∙ ap (λ z. c.entries ++ z) (last later.middle later.rest (Tick other) later.is) ∙ append-nil c.entries) all)

  wanted-tick : TicksAreWanted lines d
  wanted-tick = subst (λ z. TicksForPolls z d.entries) (sym base-is) (λ front rest other is all. tick-place front rest other all (one-of-two c.entries (Tick moment ∷ []) front rest (Tick other) (sym longer ∙ is)))

adds-any : (of : NodeId → Bool) (c d : CourierParts) → Adds of c d → Adds any_node c d
adds-any of c d a = record { more = a.more; longer = a.longer; own_entries = λ m f. never-false f; start = a.start; opened = a.opened; tells = a.tells }

module _ {M : Type 0} {g : _} (w : Media M) (lines : List Line) where
  -- ---- a round

  pub has-gone : (c mid d : CourierParts) (ms : Members M g) (qs : List PollState) (behind : Bool) → HaveSat w lines c mid ms → PollsTurned lines mid d (length qs) behind qs → HasGoneRound w lines c d ms qs
  has-gone c mid d ms qs behind sat turned =
      let stay : (s : MemberNumber) (seat : Seat M g) → Sits w lines mid s seat → Sits w lines d s seat = (λ s seat sits. sits-stay w lines is_poll mid d s seat turned.keeps.others turned.keeps.adds refl sits) in
      record {
        between = record {
          stands = turned.keeps.stands;
          sit = record { first = stay First ms.first sat.sit.first; second = stay Second ms.second sat.sit.second; third = stay Third ms.third sat.sit.third };
          polls = λ k p h. subst (PollIsAt (hall_of lines d) (suc k) p)
              (ap (λ t. not t && behind) (all-below k (length qs) (slice_get_within qs k p h)) ∙ sym (and-false (not (nat_lt k 0)))) (turned.polls k p h);
        };
        adds = adds-join any_node c mid d (adds-any is_member c mid sat.keeps.adds) (adds-any is_poll mid d turned.keeps.adds);
        ticks = turned.keeps.others.ticks ∙ sat.keeps.others.ticks;
      }

  pub polls-wait : (c mid : CourierParts) (ms : Members M g) (ps : List PollState) (behind : Bool) → HaveSat w lines c mid ms → PollsAre (hall_of lines c) 0 behind ps → PollsAre (hall_of lines mid) 0 behind ps
  polls-wait c mid ms ps behind sat at k p h = poll-stays is_member (hall_of lines c) (hall_of lines mid) sat.keeps.others (suc k) p (not (nat_lt k 0) && behind) refl (at k p h)

  -- ---- an idle place

  module _ (c : CourierParts) (ms : Members M g) (ps : List PollState) (b : Between w lines c ms ps false) (count : length lines ≡ length ps) (late_none : some_late ms ≡ false) where
    abbrev h : Hall
    h = hall_of lines c

    ready-rests : (n : NodeId) → IsReady h n false → IsAtRestAt h n
    ready-rests n r = record { closed = r.closed; heard = not-behind (world_of h) n r.behind_is; gone = r.gone }

    seat-rests : (s : MemberNumber) (seat : Seat M g) → Sits w lines c s seat → is_late seat ≡ false → (h.flags (member s)).up ≡ true → IsAtRestAt h (member s)
    seat-rests s (Up m store durable behind) sits never up = ready-rests (member s) (subst (IsReady h (member s)) never sits.at.ready)
    seat-rests s (Fallen left) (inl sits) never up = never-false (sym up ∙ sits.at.down)
    seat-rests s (Fallen left) (inr sits) never up = never-false (sym up ∙ sits.down)
    seat-rests s (Wanting left) sits never up = absurd sits

    none-late : (is_late ms.first ≡ false) × (is_late ms.second ≡ false) × (is_late ms.third ≡ false)
    none-late = or-parts (is_late ms.first) (is_late ms.second) (is_late ms.third) late_none

    poll-ready : (k : ℕ) (p : PollState) → slice_get ps k ≡ Some p → PollIsAt h (suc k) p false
    poll-ready k p there = subst (PollIsAt h (suc k) p) (and-false (not (nat_lt k 0))) (b.polls k p there)

    repository-rests : (i : ℕ) → (i ≡ 1) ⊎ ((i ≡ 2) ⊎ (i ≡ 3)) → (h.flags (repository i)).up ≡ true → IsAtRestAt h (repository i)
    repository-rests i (inl e) up = subst (λ j. (h.flags (repository j)).up ≡ true → IsAtRestAt h (repository j)) (sym e) (λ up. seat-rests First ms.first b.sit.first none-late.0 up) up
    repository-rests i (inr (inl e)) up = subst (λ j. (h.flags (repository j)).up ≡ true → IsAtRestAt h (repository j)) (sym e) (λ up. seat-rests Second ms.second b.sit.second none-late.1 up) up
    repository-rests i (inr (inr e)) up = subst (λ j. (h.flags (repository j)).up ≡ true → IsAtRestAt h (repository j)) (sym e) (λ up. seat-rests Third ms.third b.sit.third none-late.2 up) up

    broker-rests : (i : ℕ) → (1 ≤ i) × (i ≤ length lines) → IsAtRestAt h (broker i)
    broker-rests zero within = absurd (let low = within.0 in omega (arith, low))
    broker-rests (suc k) within =
        let high = within.1 in
        let p = some-at ps k (omega (arith, high, count)) in
        ready-rests (broker (suc k)) (poll-ready k p.0 p.1).ready

    node-rests : (k : NodeKind) (i : ℕ) → is_within i (most_of (length lines) k) ≡ true → (h.flags (record { kind = k; number = i })).up ≡ true → IsAtRestAt h (record { kind = k; number = i })
    node-rests Repository i within up = repository-rests i (three i within) up
    node-rests Broker i within up = broker-rests i (within-parts i (length lines) within)

    pub at-rest : IsAtRest h
    at-rest n up =
        let known : is_some (opened_log c.opened n) ≡ true = sym (known-kept (base_of lines (trace_of c)) (start_hall (base_of lines (trace_of c))) c.entries n) ∙ b.stands.known n up in
        node-rests n.kind n.number (sym (b.stands.legal.nodes.just n) ∙ known) up

    pub is-idle : AllEmpty (state_of c.flight) → Idle (fates_of c.sent) (world_of h)
    is-idle empty = idles (base_of lines (trace_of c)) h (state_of c.flight) c.sent b.stands.marks b.stands.carried empty at-rest

    -- ---- a Tick

    module _ (d : CourierParts) (empty : AllEmpty (state_of c.flight)) (t : HasTicked c d) where
      leads : hall_of lines d ≡ step (base_of lines (trace_of c)) h (Tick (tick_moment c t.answer))
      leads = there lines c d (Tick (tick_moment c t.answer)) t.start t.opened t.entries

      ready-late : (n : NodeId) → IsReady h n false → IsReady (hall_of lines d) n true
      ready-late n r = record {
        up = ap (λ (z : Hall). (z.flags n).up) leads ∙ r.up;
        closed = ap (λ (z : Hall). (z.flags n).due) leads ∙ r.closed;
        gone = λ poll. ap (λ (z : Hall). (z.flags n).gone) leads ∙ r.gone poll;
        behind_is = ap (λ (z : Hall). is_behind (world_of z) n) leads;
      }

      seat-late : (s : MemberNumber) (seat : Seat M g) → Sits w lines c s seat → is_late seat ≡ false → Sits w lines d s (late seat)
      seat-late s (Up m store durable behind) sits never = record {
        number = sits.number;
        sound = sits.sound;
        count = sits.count;
        at = record { ready = ready-late (member s) (subst (IsReady h (member s)) never sits.at.ready); member = ap (λ (z : Hall). z.members s) leads ∙ sits.at.member };
        has = sits.has;
        left = sits.left;
        never = subst (λ z. down_cause (member s) z ≡ None) (sym t.entries) (down-still (member s) c.entries (Tick (tick_moment c t.answer) ∷ []) refl None sits.never);
      }
      seat-late s (Fallen left) (inl sits) never = inl (record {
        medium = sits.medium;
        is = sits.is;
        log = sits.log;
        effects = sits.effects;
        at = record {
          down = ap (λ (z : Hall). (z.flags (member s)).up) leads ∙ sits.at.down;
          gated = ap (λ (z : Hall). (z.members s).gated) leads ∙ sits.at.gated;
          fresh = ap (λ (z : Hall). (z.members s).fresh) leads ∙ sits.at.fresh;
        };
        leaves = sits.leaves;
        cause = sits.cause;
        down_is = subst (λ z. down_cause (member s) z ≡ Some sits.cause) (sym t.entries) (down-still (member s) c.entries (Tick (tick_moment c t.answer) ∷ []) refl (Some sits.cause) sits.down_is);
        shows = sits.shows;
      })
      seat-late s (Fallen left) (inr sits) never = inr (record {
        down = ap (λ (z : Hall). (z.flags (member s)).up) leads ∙ sits.down;
        out = subst (λ z. WasNotOpened z (member s)) (sym t.entries) (out-stays (member s) c.entries (Tick (tick_moment c t.answer) ∷ []) sits.out);
      })
      seat-late s (Wanting left) sits never = absurd sits

      tells-tick : (asked : List Asked) (answers : Option (List ℕ)) → Tells asked answers c → Tells asked answers d
      tells-tick asked answers f =
          let last : unwrap_or c.last c.start ≡ latest c.start (tick_moments c.entries) = ap (λ l. unwrap_or l c.start) b.stands.last ∙ last-kept (base_of lines (trace_of c)) (start_hall (base_of lines (trace_of c))) c.entries c.start in
          record {
            fates = t.asked ∙ f.fates ∙ ap (λ l. asked ++ map asked_of l) (sym t.sent);
            clock = subst (λ (es : List Entry). IsClocked answers d.answers d.start es) (sym t.entries) (subst (λ k. IsClocked answers d.answers k (c.entries ++ Tick (tick_moment c t.answer) ∷ [])) (sym t.start)
                (clocked-tick answers c.answers d.answers c.start (unwrap_or c.last c.start) c.entries t.answer (tick_moment c t.answer) last refl t.answered f.clock));
          }

      pub ticked-between : Between w lines d (all_late ms) ps true
      ticked-between = record {
        stands = ticks-legal lines c d t.answer b.stands empty at-rest t.entries t.last t.flight (t.start, t.opened, t.sent, t.asked);
        sit = record { first = seat-late First ms.first b.sit.first none-late.0; second = seat-late Second ms.second b.sit.second none-late.1; third = seat-late Third ms.third b.sit.third none-late.2 };
        polls = λ k p at. subst (λ v. PollIsAt (hall_of lines d) (suc k) p (not v && true)) (sym (none-below k)) (record {
          ready = ready-late (broker (suc k)) (poll-ready k p at).ready;
          poll = ap (λ (z : Hall). z.polls (suc k)) leads ∙ (poll-ready k p at).poll;
          owed = ap (λ (z : Hall). z.owed (suc k)) leads ∙ (poll-ready k p at).owed;
        });
      }

      pub ticked-adds : Adds any_node c d
      ticked-adds = record { more = Tick (tick_moment c t.answer) ∷ []; longer = t.entries; own_entries = λ m f. never-false f; start = t.start; opened = t.opened; tells = tells-tick }

      -- a poll that holds no decision
      not-all : all_held ps ≡ false → HoldAll lines h → ⊥
      not-all unheld all = never-false (sym (held-all 0 ps (λ k p there. poll-holds k p there)) ∙ unheld)
        where
          line-at : (ls : List Line) (k : ℕ) → k < length ls → (l : Line) × (slice_get ls k ≡ Some l)
          line-at [] k less = absurd (omega (arith, less))
          line-at (l ∷ ls) zero less = (l, refl)
          line-at (l ∷ ls) (suc k) less = line-at ls k (omega (arith, less))

          poll-holds : (k : ℕ) (p : PollState) → slice_get ps k ≡ Some p → is_some (held p) ≡ true
          poll-holds k p there =
              let l : (l : Line) × (slice_get lines k ≡ Some l) = line-at lines k (let within = slice_get_within ps k p there in omega (arith, within, count)) in
              ap (λ (q : PollState). is_some (held q)) (sym (poll-ready k p there).poll) ∙ all (suc k) l.0 l.1

          held-all : (n : ℕ) (qs : List PollState) → ((k : ℕ) (p : PollState) → slice_get qs k ≡ Some p → is_some (held p) ≡ true) → all_held qs ≡ true
          held-all n [] f = refl
          held-all n (q ∷ qs) f = ap (λ t. t && all_held qs) (f 0 q refl) ∙ held-all n qs (λ k p there. f (suc k) p there)

      pub ticked-wanted : all_held ps ≡ false → TicksAreWanted lines c → TicksAreWanted lines d
      ticked-wanted unheld wanted = wanted-tick lines c d (tick_moment c t.answer) t.entries (λ i. record { start = t.start i; opened = t.opened i; lines = lines }) (not-all unheld) wanted

      pub ticked-ticks : (hall_of lines d).ticks ≡ h.ticks + 1
      ticked-ticks = ap (λ (z : Hall). z.ticks) leads

  -- ---- one round more

  module _ (limits : Limits) (o c mid d : CourierParts) (old new : Members M g) (ps qs : List PollState) (behind : Bool) (ticks : ℕ) (come : HasCome w lines o c old ps behind ticks)
      (gone : HasGoneRound w lines c mid new qs) (count : length lines ≡ length qs) where
    there-adds : Adds any_node o mid
    there-adds = adds-join any_node o c mid come.adds gone.adds

    there-ticks : (hall_of lines mid).ticks ≡ ticks
    there-ticks = gone.ticks ∙ come.ticks_are

    there-wanted : TicksAreWanted lines mid
    there-wanted = wanted-later lines c mid gone.adds gone.ticks come.wanted

    pub goes-round : d ≡ mid → HasCome w lines o d new qs false ticks
    goes-round same = subst (λ z. HasCome w lines o z new qs false ticks) (sym same) (record { between = gone.between; adds = there-adds; ticks_are = there-ticks; wanted = there-wanted })

    pub goes-ticked : (some_late new ≡ false) × AllEmpty (state_of mid.flight) × (ticks < limits.ticks) × HasTicked mid d × (all_held qs ≡ false) → HasCome w lines o d (all_late new) qs true (ticks + 1)
    goes-ticked (calm, empty, less, t, unheld) = record {
      between = ticked-between mid new qs gone.between count calm d empty t;
      adds = adds-join any_node o mid d there-adds (ticked-adds mid new qs gone.between count calm d empty t);
      ticks_are = ticked-ticks mid new qs gone.between count calm d empty t ∙ ap (λ k. k + 1) there-ticks;
      wanted = ticked-wanted mid new qs gone.between count calm d empty t unheld there-wanted;
    }

    over-for : ticks ≤ limits.ticks → (all_held qs ≡ true) ⊎ ((limits.messages ≤ length mid.sent) ⊎ ((some_late new ≡ false) × AllEmpty (state_of mid.flight) × (limits.ticks ≤ ticks))) → IsOver lines limits mid qs
    over-for few (inl e) = inl e
    over-for few (inr (inl e)) = inr (inl e)
    over-for few (inr (inr (calm, empty, most))) = inr (inr (is-idle mid new qs gone.between count calm empty, there-ticks ∙ (let e : ticks ≡ limits.ticks = omega (arith, few, most) in e)))

    pub goes-over : ticks ≤ limits.ticks → (d ≡ mid) × ((all_held qs ≡ true) ⊎ ((limits.messages ≤ length mid.sent) ⊎ ((some_late new ≡ false) × AllEmpty (state_of mid.flight) × (limits.ticks ≤ ticks)))) → HasEnded w lines limits o d new qs
    goes-over few (same, why) = subst (λ z. HasEnded w lines limits o z new qs) (sym same) (record { between = gone.between; adds = there-adds; few = subst (λ k. k ≤ limits.ticks) (sym there-ticks) few; wanted = there-wanted; over = over-for few why })

    -- what a step leaves
    abbrev pub Stepped : Next → Type 0
    Stepped Over = HasEnded w lines limits o d new qs
    Stepped Round = HasCome w lines o d new qs false ticks
    Stepped Ticked = HasCome w lines o d (all_late new) qs true (ticks + 1)

    stepped : (next : Next) → Follows limits (some_late new) ticks qs mid d next → ticks ≤ limits.ticks → Stepped next
    stepped Over f few = goes-over few f
    stepped Round f few = goes-round f
    stepped Ticked f few = goes-ticked f

    pub step-came : (late : Bool) (shown : List PollState) → late ≡ some_late new → shown ≡ qs → (next named : Next) → next ≡ named → Follows limits late ticks shown mid d next → ticks ≤ limits.ticks → Stepped named
    step-came late shown late_is shown_is next named is f few =
        stepped named (subst (Follows limits (some_late new) ticks qs mid d) is
        (subst (λ z. Follows limits (some_late new) ticks z mid d next) shown_is (subst (λ z. Follows limits z ticks shown mid d next) late_is f))) few

  pub come-first : (c : CourierParts) (ms : Members M g) (ps : List PollState) → Between w lines c ms ps false → (hall_of lines c).ticks ≡ 0 → HasCome w lines c c ms ps false 0
  come-first c ms ps b none = record { between = b; adds = adds-still any_node c c refl; ticks_are = none; wanted = none-wanted lines c none }

  -- ---- a turn may follow

  may-late : (number : ℕ) (seat : Seat M g) → MayTurn w number seat → MayTurn w number (late seat)
  may-late number (Up m store durable behind) h = h
  may-late number (Fallen left) h = h
  may-late number (Wanting left) h = h

-- ---- results

pub not-err : {T E : Type 0} (r : Result T E) (P : Type 0) → is_err r ≡ false → OnOk r P → P
not-err (Ok x) P e h = h
not-err (Err x) P e h = never-false e

pub if-ok : {T E : Type 0} (r : Result T E) (P : T → Type 0) (x : T) → r ≡ Ok x → IfOk r P → P x
if-ok {T} {E} r P x is h = subst (λ (z : Result T E). IfOk z P) is h
