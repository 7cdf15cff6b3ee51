-- A run of votes has begun: the members sit or are down, and the polls have gone.
use Rattle.vote_call.proofs.Names.{Option, Some, None, Ok, Err, Result, not, nat_lt, IsTrue, OnOk, unwrap_or, nat_tests, append-nil, same_Some, slice_get_within, broker, same_node, DownCause, NodeId, Asked, storage, PollState, member, number_of, Line, new_poll, MemberNumber, First, Second, Third, Entry, opened_log, tick_moments, Opening, Media, HasOpened, IsWanting, log_in, PollLine, Hall, line_at, log_at, start_hall, WasNotOpened, base_of, CourierParts, Keeps, Tells, Stands, hall_of, trace_of, never-false, Fares, Lengthens, some_wants, wants, PollsGo, MemberIsAt, Sits, Members, Seat, out-stays, HaveOpened, medium_of, lines_of, polls_from, BeginsOver, BegunFor, Fall, Falls, HasBegun, LastFor, seat_for, MemberMedia, Openings, ◌≡◌, ℕ, suc, ◌+◌, ◌<◌, ◌≤◌, ◌^◌, Bool, true, false, List, [], ◌++◌, length, map, refl, sym, ap, subst, ◌∙◌, arith, opened, asked_of, JustVoters, is_node, PollIsAt, PollIsNew, and-false, begins, MayAllTurn, PollsWent, is_poll, fares-along, SomeOpened, opening_of, SeatsAll, opened_for}
use Rattle.vote_run.specs.Opening.TheVariants as opening
use Rattle.vote_run.proofs.MembersLemmas.{or-parts, sits-stay}
use Rattle.vote_run.proofs.VoterLemmas.{just-voters}
use Rattle.vote_call.proofs.StartLemmas.{AreOthers, lasts-sit, may-sit, fall-keeps, falls-longer, fares-open, lines-count, member-stays, none-below, none-walked, others-stay, own-sits, polls-at, polls-count, polls-stay, seated, voter-log, within-lines}

all-below : (k n : ℕ) → k < n → nat_lt k n ≡ true
all-below k n less = grind (arith, nat_tests, less)

-- one that can't be opened
own-out : {M : Type 0} {g : _} (n : NodeId) (o : Opening M g) (left : Option M) (cause : DownCause) (c d : CourierParts) → o ≡ opening.Shut left cause → Falls n o c d → AreOthers n c.entries → WasNotOpened d.entries n
own-out {M} {g} n o left cause c d is f a = (c.entries, [], cause, ap (λ (z : CourierParts). z.entries) (subst (λ (z : Opening M g). Falls n z c d) is f).1, a.downs)

out-along : (of : NodeId → Bool) (n : NodeId) (es fs : List Entry) → Lengthens of es fs → WasNotOpened es n → WasNotOpened fs n
out-along of n es fs l out = subst (λ z. WasNotOpened z n) (sym l.longer) (out-stays n es l.more out)

-- the log that an opened medium held
held-log : {M : Type 0} {g : _} (w : Media M) (first : Option M) (o : Opening M g) (old : M) (n : NodeId) (es : List Entry) → IsTrue w.tells → HasOpened w first o → (IsWanting o → ⊥)
    → ((left : Option M) (cause : DownCause) → o ≡ opening.Shut left cause → WasNotOpened es n) → (WasNotOpened es n → ⊥) → first ≡ Some old → storage (w.reads old) ≡ Ok (log_in o)
held-log w None (opening.Open store effects) old n es told h not out is was = absurd h
held-log w (Some x) (opening.Open store effects) old n es told h not out is was = subst (λ z. storage (w.reads z) ≡ Ok effects.items) (same_Some _ _ was) (h.held told)
held-log w first (opening.Shut left cause) old n es told h not out is was = absurd (is (out left cause refl))
held-log w first (opening.Wanting left) old n es told h not out is was = absurd (not tt)

module _ {M : Type 0} {g : Media M} (w : Media M) (media : MemberMedia M) (os : Openings M g) (h : HaveOpened w media os) (polls : List PollLine) (asked : List Asked) (answers : Option (List ℕ)) (c : CourierParts)
    (b : BeginsOver os (length polls) asked answers c) where
  abbrev lines : List Line
  lines = lines_of polls

  nodes : JustVoters (length lines) (opened_for os (length polls))
  nodes = subst (λ k. JustVoters k (opened_for os (length polls))) (sym (lines-count polls)) (just-voters (log_in os.first) (log_in os.second) (log_in os.third) (length polls))

  st : Stands lines c
  st = begins lines (opened_for os (length polls)) asked c nodes b.new

  there : hall_of lines c ≡ start_hall (base_of lines (trace_of c))
  there = none-walked (base_of lines (trace_of c)) c.entries b.new.entries

  log : (s : MemberNumber) → opened_log c.opened (member s) ≡ Some (log_in (opening_of os s))
  log First = ap (λ l. opened_log l (member First)) b.new.opened_is ∙ voter-log (log_in os.first) (log_in os.second) (log_in os.third) (length polls) First
  log Second = ap (λ l. opened_log l (member Second)) b.new.opened_is ∙ voter-log (log_in os.first) (log_in os.second) (log_in os.third) (length polls) Second
  log Third = ap (λ l. opened_log l (member Third)) b.new.opened_is ∙ voter-log (log_in os.first) (log_in os.second) (log_in os.third) (length polls) Third

  is-node : (s : MemberNumber) → is_node (length lines) (member s) ≡ true
  is-node First = refl
  is-node Second = refl
  is-node Third = refl

  fresh : (s : MemberNumber) → MemberIsAt (hall_of lines c) s (record { number = number_of s; log = log_in (opening_of os s); moment = c.start }) false
  fresh s = subst (λ z. MemberIsAt z s (record { number = number_of s; log = log_in (opening_of os s); moment = c.start }) false) (sym there) (record {
    ready = record { up = st.legal.nodes.just (member s) ∙ is-node s; closed = refl; gone = λ poll. never-false (sym poll); behind_is = refl };
    member = ap (λ o. opened c.start (unwrap_or o [])) (log s);
  })

  polls-new : PollsGo (hall_of lines c) 0 (polls_from 1 polls)
  polls-new = record {
    before = λ k p at early.
        (let less = slice_get_within (polls_from 1 polls) k p at in
        let size = polls-count 1 polls in
        let same = lines-count polls in
        let next : 1 + k ≡ suc k = omega arith in
        subst (λ z. PollIsNew z (suc k) p) (sym there) (record {
          up = st.legal.nodes.just (broker (suc k)) ∙ within-lines k (length lines) (omega (arith, less, size, same));
          fresh = refl;
          still = refl;
          poll = sym (polls-at 1 k polls p at ∙ ap (λ j. new_poll j (line_at lines (suc k))) next);
          owed = refl;
        }));
    after = λ k p at late. never-false (sym late ∙ none-below k);
  }

  first-told : Tells asked answers c
  first-told = record {
    fates = b.new.asked_is ∙ sym (ap (λ l. asked ++ map asked_of l) b.new.sent ∙ append-nil asked);
    clock = record { first = b.first; rest = []; added = b.added; start_is = b.start; moments = ap tick_moments b.new.entries };
  }

  alone : (n : NodeId) → AreOthers n c.entries
  alone n = subst (AreOthers n) (sym b.new.entries) (record { downs = tt; others = refl })

  -- ---- who can't be opened is down

  module _ (d : CourierParts) (f : Fall os c d) where
    one : Keeps lines (same_node (member First)) c f.one
    one = fall-keeps lines First os.first c f.one st (fresh First).ready.up (log First) f.first

    second-at : MemberIsAt (hall_of lines f.one) Second (record { number = 2; log = log_in os.second; moment = c.start }) false
    second-at = member-stays lines (same_node (member First)) c f.one Second (log_in os.second) c.start one.others refl (fresh Second)

    two : Keeps lines (same_node (member Second)) f.one f.two
    two = fall-keeps lines Second os.second f.one f.two one.stands second-at.ready.up (ap (λ l. opened_log l (member Second)) one.adds.opened ∙ log Second) f.second

    third-at : MemberIsAt (hall_of lines f.two) Third (record { number = 3; log = log_in os.third; moment = c.start }) false
    third-at = member-stays lines (same_node (member Second)) f.one f.two Third (log_in os.third) c.start two.others refl
        (member-stays lines (same_node (member First)) c f.one Third (log_in os.third) c.start one.others refl (fresh Third))

    three : Keeps lines (same_node (member Third)) f.two d
    three = fall-keeps lines Third os.third f.two d two.stands third-at.ready.up (ap (λ l. opened_log l (member Third)) (two.adds.opened ∙ one.adds.opened) ∙ log Third) f.third

    second-alone : AreOthers (member Second) f.one.entries
    second-alone = others-stay (member First) (member Second) os.first c f.one refl f.first (alone (member Second))

    third-alone : AreOthers (member Third) f.two.entries
    third-alone = others-stay (member Second) (member Third) os.second f.one f.two refl f.second (others-stay (member First) (member Third) os.first c f.one refl f.first (alone (member Third)))

    pub fallen-legal : Stands lines d
    fallen-legal = three.stands

    pub polls-wait : PollsGo (hall_of lines d) 0 (polls_from 1 polls)
    polls-wait = polls-stay lines (same_node (member Third)) f.two d (polls_from 1 polls) three.others (λ i. refl)
        (polls-stay lines (same_node (member Second)) f.one f.two (polls_from 1 polls) two.others (λ i. refl) (polls-stay lines (same_node (member First)) c f.one (polls_from 1 polls) one.others (λ i. refl) polls-new))

    -- ---- the others sit, and the polls have gone

    module _ (ms : Members M g) (seats : SeatsAll c.start os ms) (enough : some_wants ms ≡ false) (e : CourierParts) (qs : List PollState) (went : PollsWent lines d e (length qs) qs) (l : Lengthens is_poll d.entries e.entries) where
      abbrev none : (wants ms.first ≡ false) × (wants ms.second ≡ false) × (wants ms.third ≡ false)
      none = or-parts (wants ms.first) (wants ms.second) (wants ms.third) enough

      sat-one : (ms.first ≡ seat_for 1 c.start os.first) × (IsWanting os.first → ⊥)
      sat-one = seated w 1 c.start os.first ms.first seats.first none.0

      sat-two : (ms.second ≡ seat_for 2 c.start os.second) × (IsWanting os.second → ⊥)
      sat-two = seated w 2 c.start os.second ms.second seats.second none.1

      sat-three : (ms.third ≡ seat_for 3 c.start os.third) × (IsWanting os.third → ⊥)
      sat-three = seated w 3 c.start os.third ms.third seats.third none.2

      on-poll : (s : MemberNumber) (seat : Seat M g) → Sits w lines d s seat → Sits w lines e s seat
      on-poll s seat sits = sits-stay w lines is_poll d e s seat went.keeps.others went.keeps.adds refl sits

      first-sits : IsTrue w.tells → Sits w lines e First ms.first
      first-sits told = subst (Sits w lines e First) (sym sat-one.0) (on-poll First (seat_for 1 c.start os.first)
          (sits-stay w lines (same_node (member Third)) f.two d First (seat_for 1 c.start os.first) three.others three.adds refl
          (sits-stay w lines (same_node (member Second)) f.one f.two First (seat_for 1 c.start os.first) two.others two.adds refl
          (own-sits lines First w told media.first c.start os.first c f.one h.first st (fresh First) (alone (member First)) f.first sat-one.1))))

      second-sits : IsTrue w.tells → Sits w lines e Second ms.second
      second-sits told = subst (Sits w lines e Second) (sym sat-two.0) (on-poll Second (seat_for 2 c.start os.second)
          (sits-stay w lines (same_node (member Third)) f.two d Second (seat_for 2 c.start os.second) three.others three.adds refl
          (own-sits lines Second w told media.second c.start os.second f.one f.two h.second one.stands second-at second-alone f.second sat-two.1)))

      third-sits : IsTrue w.tells → Sits w lines e Third ms.third
      third-sits told = subst (Sits w lines e Third) (sym sat-three.0) (on-poll Third (seat_for 3 c.start os.third)
          (own-sits lines Third w told media.third c.start os.third f.two d h.third two.stands third-at third-alone f.third sat-three.1))

      longer-two : Lengthens (same_node (member Second)) f.one.entries f.two.entries
      longer-two = falls-longer (member Second) os.second f.one f.two f.second

      longer-three : Lengthens (same_node (member Third)) f.two.entries d.entries
      longer-three = falls-longer (member Third) os.third f.two d f.third

      first-fares : Fares w (member First) media.first e.entries ms.first
      first-fares = subst (Fares w (member First) media.first e.entries) (sym sat-one.0)
          (fares-along w (member First) media.first is_poll d.entries e.entries (seat_for 1 c.start os.first) l refl
          (fares-along w (member First) media.first (same_node (member Third)) f.two.entries d.entries (seat_for 1 c.start os.first) longer-three refl
          (fares-along w (member First) media.first (same_node (member Second)) f.one.entries f.two.entries (seat_for 1 c.start os.first) longer-two refl
          (fares-open (member First) w media.first 1 c.start os.first c f.one h.first f.first (alone (member First)) sat-one.1))))

      second-fares : Fares w (member Second) media.second e.entries ms.second
      second-fares = subst (Fares w (member Second) media.second e.entries) (sym sat-two.0)
          (fares-along w (member Second) media.second is_poll d.entries e.entries (seat_for 2 c.start os.second) l refl
          (fares-along w (member Second) media.second (same_node (member Third)) f.two.entries d.entries (seat_for 2 c.start os.second) longer-three refl
          (fares-open (member Second) w media.second 2 c.start os.second f.one f.two h.second f.second second-alone sat-two.1)))

      third-fares : Fares w (member Third) media.third e.entries ms.third
      third-fares = subst (Fares w (member Third) media.third e.entries) (sym sat-three.0)
          (fares-along w (member Third) media.third is_poll d.entries e.entries (seat_for 3 c.start os.third) l refl
          (fares-open (member Third) w media.third 3 c.start os.third f.two d h.third f.third third-alone sat-three.1))

      opened-still : e.opened ≡ c.opened
      opened-still = went.keeps.adds.opened ∙ three.adds.opened ∙ two.adds.opened ∙ one.adds.opened

      log-now : (s : MemberNumber) → log_at e.opened s ≡ log_in (opening_of os s)
      log-now s = ap (λ z. log_at z s) opened-still ∙ ap (λ o. unwrap_or o []) (log s)

      logs-held : IsTrue w.tells → (s : MemberNumber) (old : M) → (WasNotOpened e.entries (member s) → ⊥) → medium_of media s ≡ Some old → storage (w.reads old) ≡ Ok (log_at e.opened s)
      logs-held told First old is was = held-log w media.first os.first old (member First) e.entries told h.first sat-one.1
          (λ left cause shut. out-along is_poll (member First) d.entries e.entries l (out-along (same_node (member Third)) (member First) f.two.entries d.entries longer-three
          (out-along (same_node (member Second)) (member First) f.one.entries f.two.entries longer-two (own-out (member First) os.first left cause c f.one shut f.first (alone (member First))))))
          is was ∙ ap Ok (sym (log-now First))
      logs-held told Second old is was = held-log w media.second os.second old (member Second) e.entries told h.second sat-two.1
          (λ left cause shut. out-along is_poll (member Second) d.entries e.entries l (out-along (same_node (member Third)) (member Second) f.two.entries d.entries longer-three
          (own-out (member Second) os.second left cause f.one f.two shut f.second second-alone)))
          is was ∙ ap Ok (sym (log-now Second))
      logs-held told Third old is was = held-log w media.third os.third old (member Third) e.entries told h.third sat-three.1
          (λ left cause shut. out-along is_poll (member Third) d.entries e.entries l (own-out (member Third) os.third left cause f.two d shut f.third third-alone))
          is was ∙ ap Ok (sym (log-now Third))

      start-still : e.start ≡ c.start
      start-still = went.keeps.adds.start ∙ three.adds.start ∙ two.adds.start ∙ one.adds.start

      pub has-begun : HasBegun w media polls asked answers e ms qs
      has-begun = record {
        between = λ told. record {
          stands = went.keeps.stands;
          sit = record { first = first-sits told; second = second-sits told; third = third-sits told };
          polls = λ k p at. subst (PollIsAt (hall_of lines e) (suc k) p) (sym (and-false (not (nat_lt k 0)))) (went.polls.after k p at (all-below k (length qs) (slice_get_within qs k p at)));
        };
        ticks = λ told. went.keeps.others.ticks ∙ three.others.ticks ∙ two.others.ticks ∙ one.others.ticks ∙ ap (λ (z : Hall). z.ticks) there;
        fares = record { one = first-fares; two = second-fares; three = third-fares };
        logs = logs-held;
        told = λ told. went.keeps.adds.tells asked answers (three.adds.tells asked answers (two.adds.tells asked answers (one.adds.tells asked answers first-told)));
        start = subst (λ k. k ≤ 2 ^ 62) (sym start-still) b.new.start;
      }

-- ---- seats

module _ {M : Type 0} {g : Media M} (w : Media M) (start : ℕ) (os : Openings M g) (ms : Members M g) (seats : SeatsAll start os ms) where
  pub may-all : SomeOpened w os → MayAllTurn w ms
  may-all (media, h) = record {
    first = may-sit w 1 start media.first os.first ms.first h.first seats.first;
    second = may-sit w 2 start media.second os.second ms.second h.second seats.second;
    third = may-sit w 3 start media.third os.third ms.third h.third seats.third;
  }

  pub lasts-all : LastFor w os ms
  lasts-all media h = record {
    one = lasts-sit w 1 start media.first os.first ms.first h.first seats.first;
    two = lasts-sit w 2 start media.second os.second ms.second h.second seats.second;
    three = lasts-sit w 3 start media.third os.third ms.third h.third seats.third;
  }

-- the run has begun, where the polls could go
pub begun-for : {M T E : Type 0} {g : Media M} (w : Media M) (os : Openings M g) (c d e : CourierParts) (ps qs : List PollState) (ms : Members M g) (r : Result T E) → Fall os c d → (start : ℕ) → start ≡ d.start → SeatsAll start os ms → some_wants ms ≡ false
    → ((lines : List Line) → Stands lines d → PollsGo (hall_of lines d) 0 ps → OnOk r (PollsWent lines d e (length qs) qs)) → OnOk r (Lengthens is_poll d.entries e.entries) → OnOk r (BegunFor w os c ps e ms qs)
begun-for w os c d e ps qs ms (Err x) f start at seats enough went longer = tt
begun-for w os c d e ps qs ms (Ok x) f start at seats enough went longer = λ media polls asked answers h are b.
    (let same : d.start ≡ c.start = (three w media os h polls asked answers c b d f).adds.start ∙ (two w media os h polls asked answers c b d f).adds.start ∙ (one w media os h polls asked answers c b d f).adds.start in
    has-begun w media os h polls asked answers c b d f ms (subst (λ k. SeatsAll k os ms) (at ∙ same) seats) enough e qs
    (went (lines_of polls) (fallen-legal w media os h polls asked answers c b d f) (subst (PollsGo (hall_of (lines_of polls) d) 0) (sym are) (polls-wait w media os h polls asked answers c b d f))) longer)
