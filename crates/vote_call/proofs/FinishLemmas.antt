-- What a run of votes comes to, once it is over.
use Rattle.vote_call.proofs.Names.{Option, Some, None, Ok, Err, Result, ◌⊎◌, cond, OnOk, slice_get, IsTrue, unwrap_or, append-nil, same_Some, slice_get_within, DownCause, NodeId, RoseBy, Asked, StaysClean, storage, PollState, member, Line, MemberNumber, First, Second, Third, Entry, Down, own, tick_moments, Media, HasOpened, IsAsItWas, Opening, down_cause, costs, PollLine, Base, Hall, log_at, start_hall, walk_from, WasNotOpened, base_of, CourierParts, Tells, hall_of, trace_of, never-false, Fares, ShutAs, KeepsWhole, Lasts, Sits, SitsUp, Members, Seat, Up, Fallen, Wanting, out-stays, Grows, clean-same, grows-same, AreKept, HaveOpened, medium_of, lines_of, polls_from, BeginsOver, BegunFor, HasBegun, LastFor, Openings, MemberMedia, ◌≡◌, ℕ, zero, suc, ◌+◌, ◌<◌, ◌≤◌, ◌^◌, Bool, true, false, List, [], ◌∷◌, ◌++◌, length, map, take, inl, inr, refl, sym, ap, subst, ◌∙◌, arith, IsOk, is_some, max, Rose, filling, held, Member, Take, Go, Learn, Hear, Gate, Crash, Tick, fates_of, IsUntouched, IsShutFor, is_tick, tick_count, step, Legal, Meets, AllFare, FareOn, FellLater, AllLast, HasLonger, LosesNothing, medium_in, PollsAre, ShowsCause, SitsDown, SitsFallen, out-down, was-opened, given_back, handed_back, IsKeptBack, standing_from, standings_of}
use Rattle.std.specs.List.{count_by, list_all}
use Rattle.std.proofs.lemmas.Bool.{and_parts}
use Rattle.std.proofs.lemmas.List.Sums.{sum_by-cons}
use Rattle.pseudo_time.specs.Lists.{Every}
use Rattle.pseudo_time.specs.declared.down_causes.DownCause.TheVariants as down
use Rattle.stream_port.specs.declared.fates.Fate.{Fate}
use Rattle.page_gate.specs.States.{is_blank}
use Rattle.version_store.specs.StoreWords as words
use Rattle.version_store.specs.declared.stores.Store.{Store}
use Rattle.record_votes.specs.Books.{MemberState}
use Rattle.world_core.specs.declared.traces.Trace.{Trace}
use Rattle.vote_run.specs.Openings as openings
use Rattle.vote_run.specs.Opening.TheVariants as opening
use Rattle.vote_report.specs.declared.standings.PollStanding.{PollStanding}
use Rattle.vote_promise.specs.Clauses.{AllHold, AreCounted, AreDownFor, HasEnded, HasRunOut, HaveVoted, IsTold, KeepsLog, RestoresLogs, gated_log, open_effects}
use Rattle.vote_promise.proofs.ClauseLemmas.{caused, stand}
use Rattle.vote_run.specs.Ends.{IsOver, all_held}
use Rattle.vote_run.specs.Ends as ends
use Rattle.vote_run.specs.declared.limits.Limits.{Limits}
use Rattle.vote_promise.proofs.CompleteLemmas.{completes}
use Rattle.vote_call.specs.Ends.{EndedFor, EndsAs, IsOver as HasBeenOver, RunsAs, Tells as TellsEnd, tellers}
use Rattle.vote_call.specs.declared.voting.VoteEnd.{VoteEnd}
use Rattle.vote_call.specs.declared.voting.VoteEnd.TheVariants.{Told, NoMemory}
use Rattle.vote_call.proofs.StartLemmas.{lines-count, polls-count}

-- what holds of Ok
ok-then : {T E P : Type 0} (r : Result T E) → IsOk r → OnOk r P → P
ok-then (Ok x) is h = h
ok-then (Err e) is h = never-false (sym is)

-- ---- Ticks and their moments

counted : (e : Entry) (es : List Entry) → tick_count (e ∷ es) ≡ cond (is_tick e) 1 0 + tick_count es
counted e es = sum_by-cons (λ x. cond (is_tick x) 1 0) e es

module _ (b : Base) where
  ticks-by : (h : Hall) (e : Entry) → (step b h e).ticks ≡ h.ticks + cond (is_tick e) 1 0
  ticks-by h (Take node number) = omega arith
  ticks-by h (Go node) = omega arith
  ticks-by h (Learn node stamp committed) = omega arith
  ticks-by h (Hear node) = omega arith
  ticks-by h (Gate node) = omega arith
  ticks-by h (Crash node kept) = omega arith
  ticks-by h (Down node cause) = omega arith
  ticks-by h (Tick moment) = omega arith

  ticks-are : (h : Hall) (es : List Entry) → (walk_from b h es).ticks ≡ h.ticks + tick_count es
  unfolding walk_from
  ticks-are h [] = let none : h.ticks ≡ h.ticks + 0 = omega arith in none
  ticks-are h (e ∷ es) =
      let rest = ticks-are (step b h e) es in
      let one = ticks-by h e in
      let all = counted e es in
      omega (arith, rest, one, all)

  -- a moment is no later than 2^62 and as many moments as there are Ticks
  small-after : (start : ℕ) (last : Option ℕ) (fates : List Fate) (h : Hall) (moment : ℕ) → moment ≤ max (unwrap_or last start + 1) (2 ^ 62) → unwrap_or last start ≤ 2 ^ 62 + h.ticks → moment ≤ 2 ^ 62 + (h.ticks + 1)
  small-after start last fates h moment most low = omega (arith, most, low)

  moments-small : (fates : List Fate) (h : Hall) (es : List Entry) → Meets b fates h es → unwrap_or h.last b.start ≤ 2 ^ 62 + h.ticks → Every (λ moment. moment ≤ 2 ^ 62 + (walk_from b h es).ticks) (tick_moments es)
  unfolding Meets walk_from
  moments-small fates h [] m low = tt
  moments-small fates h (Take node number ∷ es) m low = moments-small fates (step b h (Take node number)) es m.1 low
  moments-small fates h (Go node ∷ es) m low = moments-small fates (step b h (Go node)) es m.1 low
  moments-small fates h (Learn node stamp committed ∷ es) m low = moments-small fates (step b h (Learn node stamp committed)) es m.1 low
  moments-small fates h (Hear node ∷ es) m low = moments-small fates (step b h (Hear node)) es m.1 low
  moments-small fates h (Gate node ∷ es) m low = moments-small fates (step b h (Gate node)) es m.1 low
  moments-small fates h (Crash node kept ∷ es) m low = moments-small fates (step b h (Crash node kept)) es m.1 low
  moments-small fates h (Down node cause ∷ es) m low = moments-small fates (step b h (Down node cause)) es m.1 low
  moments-small fates h (Tick moment ∷ es) m low =
      let next : moment ≤ 2 ^ 62 + (h.ticks + 1) = small-after b.start h.last fates h moment m.0.most low in
      let grown = ticks-are (step b h (Tick moment)) es in
      (omega (arith, next, grown), moments-small fates (step b h (Tick moment)) es m.1 next)

every-weaker : {A : Type 0} (P Q : A → Type 0) → ((x : A) → P x → Q x) → (xs : List A) → Every P xs → Every Q xs
every-weaker P Q f [] h = tt
every-weaker P Q f (x ∷ xs) h = (f x h.0, every-weaker P Q f xs h.1)

-- ---- polls

some-at : {A : Type 0} (xs : List A) (k : ℕ) → k < length xs → (x : A) × (slice_get xs k ≡ Some x)
some-at [] k less = absurd (omega (arith, less))
some-at (x ∷ xs) zero less = (x, refl)
some-at (x ∷ xs) (suc k) less = some-at xs k (omega (arith, less))

all-at : {A : Type 0} (p : A → Bool) (xs : List A) (k : ℕ) (x : A) → list_all p xs ≡ true → slice_get xs k ≡ Some x → p x ≡ true
all-at p [] k x all at = absurd (let never : ⊥ = cc at in never)
all-at p (y ∷ xs) zero x all at = subst (λ z. p z ≡ true) (same_Some _ _ at) (and_parts (p y) (list_all p xs) all).0
all-at p (y ∷ xs) (suc k) x all at = all-at p xs k x (and_parts (p y) (list_all p xs) all).1 at

standings-from : (h : Hall) (i : ℕ) (ls : List PollLine) (ps : List PollState) → length ps ≡ length ls → ((k : ℕ) (p : PollState) → slice_get ps k ≡ Some p → h.polls (i + k) ≡ p) → standings_of ls ps ≡ standing_from h i ls
standings-from h i [] ps count at = refl
standings-from h i (l ∷ ls) [] count at = absurd (let never : ⊥ = omega (arith, count) in never)
standings-from h i (l ∷ ls) (p ∷ ps) count at =
    let here : i + 0 ≡ i = omega arith in
    let first : p ≡ h.polls i = sym (at 0 p refl) ∙ ap h.polls here in
    let rest : length ps ≡ length ls = omega (arith, count) in
    ap (λ q. record { stamp = l.stamp; held = held q } ∷ standings_of ls ps) first
    ∙ ap (λ s. record { stamp = l.stamp; held = held (h.polls i) } ∷ s)
    (standings-from h (suc i) ls ps rest (λ k q there. let next : suc i + k ≡ i + suc k = omega arith in ap h.polls next ∙ at (suc k) q there))

pub stamps-are : (ls : List PollLine) (ps : List PollState) → length ps ≡ length ls → map (λ (s : PollStanding). s.stamp) (standings_of ls ps) ≡ map (λ (l : PollLine). l.stamp) ls
stamps-are [] ps count = refl
stamps-are (l ∷ ls) [] count = absurd (let never : ⊥ = omega (arith, count) in never)
stamps-are (l ∷ ls) (p ∷ ps) count = let rest : length ps ≡ length ls = omega (arith, count) in ap (λ s. l.stamp ∷ s) (stamps-are ls ps rest)

module _ (lines : List Line) (d : CourierParts) (qs : List PollState) (count : length lines ≡ length qs) (are : PollsAre (hall_of lines d) 0 false qs) where
  poll-is : (k : ℕ) (p : PollState) → slice_get qs k ≡ Some p → (hall_of lines d).polls (suc k) ≡ p
  poll-is k p at = (are k p at).poll

  pub all-hold : all_held qs ≡ true → AllHold lines (trace_of d)
  all-hold all zero l there = absurd (let never : ⊥ = cc there in never)
  all-hold all (suc k) l there =
      let less = slice_get_within lines k l there in
      let q = some-at qs k (omega (arith, less, count)) in
      ap (λ p. is_some (held p)) (poll-is k q.0 q.1) ∙ all-at (λ (p : PollState). is_some (held p)) qs k q.0 all q.1

  pub they-stand : (polls : List PollLine) → length qs ≡ length polls → standings_of polls qs ≡ standing_from (hall_of lines d) 1 polls
  they-stand polls same = standings-from (hall_of lines d) 1 polls qs same (λ k p at. let next : 1 + k ≡ suc k = omega arith in ap (hall_of lines d).polls next ∙ poll-is k p at)

-- ---- one member and its medium

cause-one : (o : Option DownCause) (x y : DownCause) → o ≡ Some x → o ≡ Some y → x ≡ y
cause-one o x y e f = same_Some _ _ (sym e ∙ f)

cause-none : {X : Type 0} (o : Option DownCause) (x : DownCause) → o ≡ None → o ≡ Some x → X
cause-none o x e f = absurd (let k : ◌≡◌ {A = Option DownCause} None (Some x) = sym e ∙ f in let never : ⊥ = cc k in never)

some-none : {A X : Type 0} (o : Option A) (x : A) → o ≡ None → o ≡ Some x → X
some-none {A} o x e f = absurd (let k : ◌≡◌ {A = Option A} None (Some x) = sym e ∙ f in let never : ⊥ = cc k in never)

module _ {M : Type 0} (w : Media M) (lines : List Line) (d : CourierParts) (s : MemberNumber) (first : Option M) where
  abbrev pub n : NodeId
  n = member s

  abbrev pub t : Trace
  t = trace_of d

  later-opened : (now : M) → FellLater w n first d.entries now → WasNotOpened d.entries n → ⊥
  later-opened now f = was-opened n d.entries f.before f.after f.deed f.are f.acted f.up

  kept-fallen : (now : M) → SitsFallen w lines d s (Some now) → (old : M) → storage (w.reads old) ≡ Ok (log_at d.opened s) → KeepsLog w lines t s old now
  kept-fallen now sits old held =
      let same : sits.medium ≡ now = sym (same_Some _ _ sits.is) in
      let gated : sits.log ≡ gated_log lines t s = sym sits.at.gated in
      let fresh : sits.effects ≡ open_effects lines t s = sym sits.at.fresh in
      record {
        opened = held;
        images = λ image may.
            (let p = sits.leaves image (subst (λ z. w.may_leave z image) (sym same) may) in
            record {
              kept = p.kept;
              few = subst (λ l. p.kept ≤ length l) fresh p.few;
              is = p.is ∙ ap (λ l. Ok (l ++ take p.kept sits.effects)) gated ∙ ap (λ l. Ok (gated_log lines t s ++ take p.kept l)) fresh;
            });
        up = λ never. cause-none (down_cause n d.entries) sits.cause never sits.down_is;
      }

  -- what is left of one that wasn't opened
  shut-same : (old new now : M) (cause : DownCause) → first ≡ Some old → ◌≡◌ {A = Option M} (Some now) (Some new) → ShutAs w n first (Some now) cause → IsAsItWas w old new × IsShutFor w cause old new
  shut-same old new now cause was is shut =
      let h : IsAsItWas w old now × IsShutFor w cause old now = subst (λ z. ShutAs w n z (Some now) cause) was shut in
      subst (λ z. IsAsItWas w old z × IsShutFor w cause old z) (same_Some _ _ is) h

  paid-one : (old new taken now : M) → first ≡ Some old → ◌≡◌ {A = Option M} (Some now) (Some new) → first ≡ Some taken → RoseBy (costs (own n d.entries)) (w.faults taken) (w.faults now) → RoseBy (costs (own n d.entries)) (w.faults old) (w.faults new)
  paid-one old new taken now was is had rose =
      subst (λ z. RoseBy (costs (own n d.entries)) (w.faults z) (w.faults new)) (same_Some _ _ (sym had ∙ was)) (subst (λ z. RoseBy (costs (own n d.entries)) (w.faults taken) (w.faults z)) (same_Some _ _ is) rose)

  abbrev pub ShutCause : Type 0
  ShutCause = (down_cause n d.entries ≡ Some down.Medium) ⊎ ((page : ℕ) × (down_cause n d.entries ≡ Some (down.Damaged page)))

  shut-cause : (cause : DownCause) (old new : M) → down_cause n d.entries ≡ Some cause → IsShutFor w cause old new → ShutCause
  shut-cause down.Medium old new is shut = inl is
  shut-cause (down.Damaged page) old new is shut = inr (page, is)
  shut-cause (down.Full pages) old new is shut = absurd shut

  shut-why : (o left : Option M) (cause : DownCause) → down_cause n d.entries ≡ Some cause → ShutAs w n o left cause → ShutCause
  shut-why None None cause is shut = inl (is ∙ ap Some shut)
  shut-why None (Some now) cause is shut = absurd shut
  shut-why (Some old) None cause is shut = absurd shut
  shut-why (Some old) (Some now) cause is shut = shut-cause cause old now is shut.1

  abbrev pub FullFor : ℕ → M → Type 0
  FullFor pages new = (pages ≡ w.page_count new) × (storage (w.reads new) ≡ Ok (gated_log lines t s)) × (count_by is_blank (w.reads new) < length (filling (open_effects lines t s)))

  full-one : (now new : M) (pages : ℕ) (x : SitsFallen w lines d s (Some now)) → x.cause ≡ down.Full pages → ◌≡◌ {A = Option M} (Some now) (Some new) → FullFor pages new
  full-one now new pages x cause is =
      let h : ShowsCause w (down.Full pages) x.medium x.log x.effects = subst (λ c. ShowsCause w c x.medium x.log x.effects) cause x.shows in
      let same : x.medium ≡ new = sym (same_Some _ _ x.is) ∙ same_Some _ _ is in
      subst (FullFor pages) same (h.0, h.1 ∙ ap Ok (sym x.at.gated), subst (λ l. count_by is_blank (w.reads x.medium) < length (filling l)) (sym x.at.fresh) h.2)

  clean-one : (old new taken now : M) → first ≡ Some old → ◌≡◌ {A = Option M} (Some now) (Some new) → first ≡ Some taken → StaysClean (w.reads taken) (w.reads now) → StaysClean (w.reads old) (w.reads new)
  clean-one old new taken now was is had clean =
      subst (λ z. StaysClean (w.reads z) (w.reads new)) (same_Some _ _ (sym had ∙ was)) (subst (λ z. StaysClean (w.reads taken) (w.reads z)) (same_Some _ _ is) clean)

  grows-one : (old new taken now : M) → first ≡ Some old → ◌≡◌ {A = Option M} (Some now) (Some new) → first ≡ Some taken → Grows (w.reads taken) (w.reads now) → Grows (w.reads old) (w.reads new)
  grows-one old new taken now was is had grows =
      subst (λ z. Grows (w.reads z) (w.reads new)) (same_Some _ _ (sym had ∙ was)) (subst (λ z. Grows (w.reads taken) (w.reads z)) (same_Some _ _ is) grows)

  module _ {g : Media M} where
    abbrev pub now_is : Seat M g → M → Type 0
    now_is seat new = medium_in seat ≡ Some new

    kept-up : (m : MemberState) (store : Store M g) (durable : ℕ) (behind : Bool) → SitsUp {g = g} w lines d s m store durable behind → (old : M) → storage (w.reads old) ≡ Ok (log_at d.opened s) → KeepsLog w lines t s old (words.medium_of store)
    kept-up m store durable behind sits old held =
        let gated : m.log ≡ gated_log lines t s = sym (ap (λ (z : Member). z.gated) sits.at.member) in
        let none : open_effects lines t s ≡ [] = ap (λ (z : Member). z.fresh) sits.at.member in
        record {
          opened = held;
          images = λ image may. record { kept = 0; few = omega arith; is = sits.left image may ∙ ap Ok gated ∙ ap Ok (sym (append-nil (gated_log lines t s))) };
          up = λ never. none;
        }

    abbrev pub Opened : Seat M g → Type 0
    Opened seat = (old : M) × (new : M) × ((first ≡ Some old) × now_is seat new) × (IsTrue w.tells → KeepsLog w lines t s old new)

    module _ (held : IsTrue w.tells → (old : M) → (WasNotOpened d.entries n → ⊥) → first ≡ Some old → storage (w.reads old) ≡ Ok (log_at d.opened s)) where
      pub opened-one : (seat : Seat M g) → Fares w n first d.entries seat → (IsTrue w.tells → Sits w lines d s seat) → (WasNotOpened d.entries n → ⊥) → Opened seat
      opened-one (Up m store durable behind) f sits is = (f.taken, words.medium_of store, (f.was, refl), λ told. kept-up m store durable behind (sits told) f.taken (held told f.taken is f.was))
      opened-one (Fallen None) f sits is = absurd (is f.out)
      opened-one (Fallen (Some now)) (inl f) sits is = (f.taken, now, (f.was, refl), λ told. fallen told (sits told))
        where
          fallen : IsTrue w.tells → SitsFallen w lines d s (Some now) ⊎ SitsDown lines d s → KeepsLog w lines t s f.taken now
          fallen told (inl x) = kept-fallen now x f.taken (held told f.taken is f.was)
          fallen told (inr x) = absurd (is x.out)
      opened-one (Fallen (Some now)) (inr f) sits is = absurd (is f.out)
      opened-one (Wanting left) f sits is = absurd f

    pub unopened-one : (seat : Seat M g) → Fares w n first d.entries seat → (old new : M) → WasNotOpened d.entries n → first ≡ Some old → now_is seat new → IsUntouched w old new
    unopened-one (Up m store durable behind) f old new out was is = absurd (out-down n d.entries out f.never)
    unopened-one (Fallen None) f old new out was is = absurd (let never : ⊥ = cc is in never)
    unopened-one (Fallen (Some now)) (inl f) old new out was is = absurd (later-opened now f out)
    unopened-one (Fallen (Some now)) (inr f) old new out was is = (shut-same old new now f.cause was is f.shut).0.untouched
    unopened-one (Wanting left) f old new out was is = absurd f

    pub either-one : (seat : Seat M g) → Fares w n first d.entries seat → WasNotOpened d.entries n ⊎ (WasNotOpened d.entries n → ⊥)
    either-one (Up m store durable behind) f = inr (λ out. out-down n d.entries out f.never)
    either-one (Fallen None) f = inl f.out
    either-one (Fallen (Some now)) (inl f) = inr (later-opened now f)
    either-one (Fallen (Some now)) (inr f) = inl f.out
    either-one (Wanting left) f = absurd f

    -- ---- counts

    pub counted-one : (seat : Seat M g) → Fares w n first d.entries seat → (old new : M) → (WasNotOpened d.entries n → ⊥) → first ≡ Some old → now_is seat new → RoseBy (costs (own n d.entries)) (w.faults old) (w.faults new)
    counted-one (Up m store durable behind) f old new opened was is = paid-one old new f.taken (words.medium_of store) was is f.was f.has_paid.paid
    counted-one (Fallen None) f old new opened was is = absurd (opened f.out)
    counted-one (Fallen (Some now)) (inl f) old new opened was is = paid-one old new f.taken now was is f.was f.has_paid.paid
    counted-one (Fallen (Some now)) (inr f) old new opened was is = absurd (opened f.out)
    counted-one (Wanting left) f old new opened was is = absurd f

    pub shut-counted : (seat : Seat M g) → Fares w n first d.entries seat → (old new : M) → WasNotOpened d.entries n → down_cause n d.entries ≡ Some down.Medium → first ≡ Some old → now_is seat new → Rose (w.faults old) (w.faults new)
    shut-counted (Up m store durable behind) f old new out cause was is = absurd (out-down n d.entries out f.never)
    shut-counted (Fallen None) f old new out cause was is = absurd (let never : ⊥ = cc is in never)
    shut-counted (Fallen (Some now)) (inl f) old new out cause was is = absurd (later-opened now f out)
    shut-counted (Fallen (Some now)) (inr f) old new out cause was is =
        subst (λ c. IsShutFor w c old new) (cause-one (down_cause n d.entries) f.cause down.Medium f.down_is cause) (shut-same old new now f.cause was is f.shut).1
    shut-counted (Wanting left) f old new out cause was is = absurd f

    pub missing-one : (seat : Seat M g) → Fares w n first d.entries seat → first ≡ None → down_cause n d.entries ≡ Some down.Medium
    missing-one (Up m store durable behind) f none = some-none first f.taken none f.was
    missing-one (Fallen None) f none = f.down_is ∙ ap Some (subst (λ z. ShutAs w n z None f.cause) none f.shut)
    missing-one (Fallen (Some now)) (inl f) none = some-none first f.taken none f.was
    missing-one (Fallen (Some now)) (inr f) none = absurd (subst (λ z. ShutAs w n z (Some now) f.cause) none f.shut)
    missing-one (Wanting left) f none = absurd f

    -- ---- why it stopped

    pub why-one : (seat : Seat M g) → Fares w n first d.entries seat → WasNotOpened d.entries n → ShutCause
    why-one (Up m store durable behind) f out = absurd (out-down n d.entries out f.never)
    why-one (Fallen None) f out = shut-why first None f.cause f.down_is f.shut
    why-one (Fallen (Some now)) (inl f) out = absurd (later-opened now f out)
    why-one (Fallen (Some now)) (inr f) out = shut-why first (Some now) f.cause f.down_is f.shut
    why-one (Wanting left) f out = absurd f

    pub damaged-one : IsTrue w.tells → (seat : Seat M g) → Fares w n first d.entries seat → Sits w lines d s seat → (old new : M) (page : ℕ) → down_cause n d.entries ≡ Some (down.Damaged page) → first ≡ Some old → now_is seat new
        → WasNotOpened d.entries n × (storage (w.reads old) ≡ Err page)
    damaged-one told (Up m store durable behind) f sits old new page cause was is = cause-none (down_cause n d.entries) (down.Damaged page) f.never cause
    damaged-one told (Fallen None) f sits old new page cause was is = absurd (let never : ⊥ = cc is in never)
    damaged-one told (Fallen (Some now)) (inl f) (inl x) old new page cause was is =
        absurd (subst (λ c. ShowsCause w c x.medium x.log x.effects) (cause-one (down_cause n d.entries) x.cause (down.Damaged page) x.down_is cause) x.shows)
    damaged-one told (Fallen (Some now)) (inl f) (inr x) old new page cause was is = absurd (later-opened now f x.out)
    damaged-one told (Fallen (Some now)) (inr f) sits old new page cause was is =
        (f.out, (subst (λ c. IsShutFor w c old new) (cause-one (down_cause n d.entries) f.cause (down.Damaged page) f.down_is cause) (shut-same old new now f.cause was is f.shut).1) told)
    damaged-one told (Wanting left) f sits old new page cause was is = absurd f

    pub full-for : (seat : Seat M g) → Fares w n first d.entries seat → Sits w lines d s seat → (old new : M) (pages : ℕ) → down_cause n d.entries ≡ Some (down.Full pages) → first ≡ Some old → now_is seat new → FullFor pages new
    full-for (Up m store durable behind) f sits old new pages cause was is = cause-none (down_cause n d.entries) (down.Full pages) f.never cause
    full-for (Fallen None) f sits old new pages cause was is = absurd (let never : ⊥ = cc is in never)
    full-for (Fallen (Some now)) (inl f) (inl x) old new pages cause was is = full-one now new pages x (cause-one (down_cause n d.entries) x.cause (down.Full pages) x.down_is cause) is
    full-for (Fallen (Some now)) (inl f) (inr x) old new pages cause was is = absurd (later-opened now f x.out)
    full-for (Fallen (Some now)) (inr f) sits old new pages cause was is =
        absurd (subst (λ c. IsShutFor w c old new) (cause-one (down_cause n d.entries) f.cause (down.Full pages) f.down_is cause) (shut-same old new now f.cause was is f.shut).1)
    full-for (Wanting left) f sits old new pages cause was is = absurd f

    pub clean-for : IsTrue w.tells → (seat : Seat M g) → Fares w n first d.entries seat → (old new : M) → costs (own n d.entries) ≡ 0 → first ≡ Some old → now_is seat new → StaysClean (w.reads old) (w.reads new)
    clean-for told (Up m store durable behind) f old new free was is = clean-one old new f.taken (words.medium_of store) was is f.was (f.has_paid.clean told free)
    clean-for told (Fallen None) f old new free was is = absurd (let never : ⊥ = cc is in never)
    clean-for told (Fallen (Some now)) (inl f) old new free was is = clean-one old new f.taken now was is f.was (f.has_paid.clean told free)
    clean-for told (Fallen (Some now)) (inr f) old new free was is = subst (λ z. StaysClean (w.reads old) z) (sym ((shut-same old new now f.cause was is f.shut).0.still told)) (clean-same w n old)
    clean-for told (Wanting left) f old new free was is = absurd f

    pub grows-for : IsTrue w.tells → (seat : Seat M g) → Fares w n first d.entries seat → (old new : M) → costs (own n d.entries) ≡ 0 → first ≡ Some old → now_is seat new → Grows (w.reads old) (w.reads new)
    grows-for told (Up m store durable behind) f old new free was is = grows-one old new f.taken (words.medium_of store) was is f.was (f.has_paid.grows told free)
    grows-for told (Fallen None) f old new free was is = absurd (let never : ⊥ = cc is in never)
    grows-for told (Fallen (Some now)) (inl f) old new free was is = grows-one old new f.taken now was is f.was (f.has_paid.grows told free)
    grows-for told (Fallen (Some now)) (inr f) old new free was is = subst (λ z. Grows (w.reads old) z) (sym ((shut-same old new now f.cause was is f.shut).0.still told)) (grows-same (w.reads old))
    grows-for told (Wanting left) f old new free was is = absurd f

-- ---- all of it

module _ {M : Type 0} {g : Media M} (w : Media M) (media : MemberMedia M) (polls : List PollLine) (asked : List Asked) (answers : Option (List ℕ)) (limits : Limits) (e d : CourierParts) (first ms : Members M g) (ps qs : List PollState)
    (begun : HasBegun w media polls asked answers e first ps) (over : IsTrue w.tells → ends.HasEnded w (lines_of polls) limits e d ms qs) (fares : AllFare w (medium_of media) d.entries ms) (few : limits.ticks < 2 ^ 32)
    (count : length (lines_of polls) ≡ length qs) where
  abbrev voted : List Line
  voted = lines_of polls

  abbrev left : MemberNumber → Option M
  left = medium_of (handed_back ms)

  abbrev seat_of : MemberNumber → Seat M g
  seat_of First = ms.first
  seat_of Second = ms.second
  seat_of Third = ms.third

  left-is : (s : MemberNumber) → left s ≡ medium_in (seat_of s)
  left-is First = refl
  left-is Second = refl
  left-is Third = refl

  fare : (s : MemberNumber) → Fares w (member s) (medium_of media s) d.entries (seat_of s)
  fare First = fares.one
  fare Second = fares.two
  fare Third = fares.three

  sit : IsTrue w.tells → (s : MemberNumber) → Sits w voted d s (seat_of s)
  sit told First = (over told).between.sit.first
  sit told Second = (over told).between.sit.second
  sit told Third = (over told).between.sit.third

  logs-held : (s : MemberNumber) → IsTrue w.tells → (old : M) → (WasNotOpened d.entries (member s) → ⊥) → medium_of media s ≡ Some old → storage (w.reads old) ≡ Ok (log_at d.opened s)
  logs-held s told old is was =
      let adds = (over told).adds in
      begun.logs told s old (λ out. is (subst (λ z. WasNotOpened z (member s)) (sym adds.longer) (out-stays (member s) e.entries adds.more out))) was ∙ ap (λ z. Ok (log_at z s)) (sym adds.opened)

  legal : IsTrue w.tells → Legal voted d.asked (trace_of d)
  legal told = (over told).between.stands.legal

  restores : RestoresLogs w voted (medium_of media) left (trace_of d)
  restores = record {
    opened = λ s is. (let o = opened-one w voted d s (medium_of media s) (logs-held s) (seat_of s) (fare s) (λ told. sit told s) is in (o.0, o.1, (o.2.0, left-is s ∙ o.2.1), o.3));
    unopened = λ s old new out b. unopened-one w voted d s (medium_of media s) (seat_of s) (fare s) old new out b.0 (sym (left-is s) ∙ b.1);
    either = λ s. either-one w voted d s (medium_of media s) (seat_of s) (fare s);
  }

  ticked : tick_count d.entries ≡ (hall_of voted d).ticks
  ticked = let all = ticks-are (base_of voted (trace_of d)) (start_hall (base_of voted (trace_of d))) d.entries in omega (arith, all)

  told-so : IsTrue w.tells → IsTold voted (trace_of d) (record { asked_before = asked; asked = d.asked; answers_before = answers; answers = d.answers })
  told-so told =
      let ended = over told in
      let tells : Tells asked answers d = ended.adds.tells asked answers (begun.told told) in
      let last = ended.few in
      record {
        legal = legal told;
        fates = tells.fates;
        clock = tells.clock;
        start = subst (λ k. k ≤ 2 ^ 62) (sym ended.adds.start) begun.start;
        moments = every-weaker (λ moment. moment ≤ 2 ^ 62 + (hall_of voted d).ticks) (λ moment. moment < 2 ^ 63) (λ moment most. omega (arith, most, last, few)) (tick_moments d.entries)
            (moments-small (base_of voted (trace_of d)) (fates_of d.sent) (start_hall (base_of voted (trace_of d))) d.entries (legal told).meets (omega arith));
      }

  ended-so : IsTrue w.tells → HasEnded limits.ticks limits.messages voted (trace_of d)
  ended-so told = record { few = subst (λ k. k ≤ limits.ticks) (sym ticked) (over told).few; wanted = (over told).wanted; why = why (over told).over }
    where
      why : IsOver voted limits d qs → AllHold voted (trace_of d) ⊎ ((limits.messages ≤ length d.sent) ⊎ HasRunOut limits.ticks voted (trace_of d))
      why (inl all) = inl (all-hold voted d qs count (over told).between.polls all)
      why (inr (inl enough)) = inr (inl enough)
      why (inr (inr (idle, most))) = inr (inr (idle, ticked ∙ most))

  counts : AreCounted w voted (medium_of media) left (trace_of d)
  counts = record {
    opened = λ s old new is b. counted-one w voted d s (medium_of media s) (seat_of s) (fare s) old new is b.0 (sym (left-is s) ∙ b.1);
    unopened = λ s old new out cause b. shut-counted w voted d s (medium_of media s) (seat_of s) (fare s) old new out cause b.0 (sym (left-is s) ∙ b.1);
    missing = λ s none. missing-one w voted d s (medium_of media s) (seat_of s) (fare s) none;
  }

  stops : IsTrue w.tells → AreDownFor w voted (medium_of media) left (trace_of d)
  stops told = record {
    unopened = λ s out. why-one w voted d s (medium_of media s) (seat_of s) (fare s) out;
    damaged = λ s old new page cause b. damaged-one w voted d s (medium_of media s) told (seat_of s) (fare s) (sit told s) old new page cause b.0 (sym (left-is s) ∙ b.1);
    full = λ s old new pages cause b. full-for w voted d s (medium_of media s) (seat_of s) (fare s) (sit told s) old new pages cause b.0 (sym (left-is s) ∙ b.1);
    clean = λ s old new free b. clean-for w voted d s (medium_of media s) told (seat_of s) (fare s) old new free b.0 (sym (left-is s) ∙ b.1);
    grows = λ s old new free b. grows-for w voted d s (medium_of media s) told (seat_of s) (fare s) old new free b.0 (sym (left-is s) ∙ b.1);
  }

  pub have-voted : HaveVoted w limits.ticks limits.messages voted (record { asked_before = asked; asked = d.asked; answers_before = answers; answers = d.answers }) (medium_of media) left (trace_of d)
  have-voted = record {
    is_told = told-so;
    ended = ended-so;
    logs = restores;
    stand = λ told. stand w voted d.asked (trace_of d) (medium_of media) left told (legal told) restores;
    causes = λ told. caused w voted d.asked (trace_of d) (medium_of media) left told (legal told) restores;
    counts = counts;
    stops = stops;
    completes = λ told. completes w limits.ticks limits.messages voted d.asked (medium_of media) left (trace_of d) told (legal told) (ended-so told) restores counts (stops told);
  }

  pub standings-now : IsTrue w.tells → length qs ≡ length polls → standings_of polls qs ≡ standing_from (hall_of voted d) 1 polls
  standings-now told same = they-stand voted d qs count (over told).between.polls polls same

-- ---- what is handed back

module _ {M : Type 0} {g : Media M} (w : Media M) where
  longer-whole : (first : Option M) (s : Store M g) → HasLonger w first s → KeepsWhole w first (Some (words.medium_of s))
  longer-whole first s h = subst (λ z. KeepsWhole w z (Some (words.medium_of s))) (sym h.was) (inr (h.log, h.held, λ image may. (h.more, h.left image may)))

  whole-of : (first : Option M) (seat : Seat M g) → LosesNothing w first seat → KeepsWhole w first (medium_in seat)
  whole-of first (Up m store durable behind) h = longer-whole first store h
  whole-of first (Fallen left) h = h
  whole-of first (Wanting left) h = h

  kept-of : (first : Option M) (seat : Seat M g) → Lasts w first seat → IsKeptBack w first (medium_in seat)
  kept-of first seat h = record { back = h.back; whole = λ told. whole-of first seat (h.safe told) }

  pub all-kept : (media : MemberMedia M) (ms : Members M g) → AllLast w (medium_of media) ms → AreKept w media (handed_back ms)
  all-kept media ms h = record { first = kept-of media.first ms.first h.one; second = kept-of media.second ms.second h.two; third = kept-of media.third ms.third h.three }

  -- media that were opened, and nothing else
  opening-kept : (first : Option M) (o : Opening M g) → HasOpened w first o → IsKeptBack w first (openings.medium_in o)
  opening-kept None (opening.Open store effects) h = absurd h
  opening-kept (Some old) (opening.Open store effects) h = record { back = tt; whole = λ told. inl (h.same.untouched told) }
  opening-kept None (opening.Shut None cause) h = record { back = tt; whole = λ told. tt }
  opening-kept None (opening.Shut (Some new) cause) h = absurd h
  opening-kept (Some old) (opening.Shut None cause) h = absurd h
  opening-kept (Some old) (opening.Shut (Some new) cause) h = record { back = tt; whole = λ told. inl (h.0.untouched told) }
  opening-kept None (opening.Wanting new) h = absurd h
  opening-kept (Some old) (opening.Wanting new) h = record { back = tt; whole = λ told. inl (h.untouched told) }

  pub given-kept : (media : MemberMedia M) (os : Openings M g) → HaveOpened w media os → AreKept w media (given_back os)
  given-kept media os h = record { first = opening-kept media.first os.first h.first; second = opening-kept media.second os.second h.second; third = opening-kept media.third os.third h.third }

-- ---- the end of a run

pub trace-same : (t : Trace) (d : CourierParts) → t.start ≡ d.start → t.opened ≡ d.opened → t.sent ≡ d.sent → t.entries ≡ d.entries → t ≡ trace_of d
trace-same t d start opened sent entries = λ i. record { start = start i; opened = opened i; sent = sent i; entries = entries i }

module _ {M : Type 0} {g : Media M} (w : Media M) (limits : Limits) (few : limits.ticks < 2 ^ 32) (polls : List PollLine) (c d : CourierParts) (os : Openings M g) (ms : Members M g) (ps qs : List PollState) (count : length qs ≡ length ps) where
  over-ends : (media : MemberMedia M) (asked : List Asked) (answers : Option (List ℕ)) (t : Trace) (standings : List PollStanding) → HasBeenOver w limits media polls asked answers d ms qs → length qs ≡ length polls → t ≡ trace_of d → standings ≡ standings_of polls qs
      → EndsAs w limits polls (tellers asked d.asked answers d.answers) media (handed_back ms) (Told t standings)
  over-ends media asked answers t standings o same is-trace are =
      let size : length (lines_of polls) ≡ length qs = lines-count polls ∙ sym same in
      subst (λ z. EndsAs w limits polls (tellers asked d.asked answers d.answers) media (handed_back ms) (Told z standings)) (sym is-trace) (
        have-voted w media polls asked answers limits o.first d o.members ms o.polls_then qs o.begun o.ended o.fares few size,
        record {
          stamps = ap (λ l. map (λ (s : PollStanding). s.stamp) l) are ∙ stamps-are polls qs same;
          held = λ told. are ∙ standings-now w media polls asked answers limits o.first d o.members ms o.polls_then qs o.begun o.ended o.fares few size told same;
        },
      )

  told-ends : {E : Type 0} (end : VoteEnd) (t : Trace) (ended : Result Unit E) → TellsEnd polls qs t ended end → (media : MemberMedia M) → HaveOpened w media os → OnOk ended (EndedFor w limits os c ps d ms qs) → t ≡ trace_of d
      → (asked : List Asked) (answers : Option (List ℕ)) → ps ≡ polls_from 1 polls → BeginsOver os (length polls) asked answers c → EndsAs w limits polls (tellers asked d.asked answers d.answers) media (handed_back ms) end
  told-ends NoMemory t ended h media opened over is asked answers are b = tt
  told-ends (Told x standings) t ended h media opened over is asked answers are b =
      over-ends media asked answers x standings (ok-then ended h.0 over media polls asked answers opened are b) (count ∙ ap length are ∙ polls-count 1 polls) (h.1 ∙ is) h.2

  -- what a run hands back
  pub run-ends : {E : Type 0} (end : VoteEnd) (t : Trace) (ended : Result Unit E) (left : MemberMedia M) (asked_now : List Asked) (answers_now : Option (List ℕ)) → TellsEnd polls qs t ended end → OnOk ended (EndedFor w limits os c ps d ms qs) → LastFor w os ms
      → left ≡ handed_back ms → asked_now ≡ d.asked → answers_now ≡ d.answers → t ≡ trace_of d → RunsAs w limits polls c os ps end left asked_now answers_now
  run-ends end t ended left asked_now answers_now tells over lasts left-are asked-are answers-are is media h = record {
    kept = subst (AreKept w media) (sym left-are) (all-kept w media ms (lasts media h));
    ended = λ asked answers are b.
        subst (λ z. EndsAs w limits polls (tellers asked asked_now answers answers_now) media z end) (sym left-are)
        (subst (λ z. EndsAs w limits polls (tellers asked z answers answers_now) media (handed_back ms) end) (sym asked-are)
        (subst (λ z. EndsAs w limits polls (tellers asked d.asked answers z) media (handed_back ms) end) (sym answers-are) (told-ends end t ended tells media h over is asked answers are b)));
  }

-- members and polls went on until it was over
pub ended-for : {M T E : Type 0} {g : Media M} (w : Media M) (limits : Limits) (os : Openings M g) (c e d : CourierParts) (ps ps1 qs : List PollState) (ms0 ms : Members M g) (r : Result T E) → BegunFor w os c ps e ms0 ps1 → length ps1 ≡ length ps
    → (IsTrue w.tells → (lines : List Line) → length lines ≡ length ps1 → ends.Between w lines e ms0 ps1 false → (hall_of lines e).ticks ≡ 0 → OnOk r (ends.HasEnded w lines limits e d ms qs)) → OnOk r (FareOn w e.entries ms0 d.entries ms)
    → OnOk r (EndedFor w limits os c ps d ms qs)
ended-for w limits os c e d ps ps1 qs ms0 ms (Err x) begun count ended fares = tt
ended-for w limits os c e d ps ps1 qs ms0 ms (Ok x) begun count ended fares = λ media polls asked answers h are b.
    (let g = begun media polls asked answers h are b in
    let size : length (lines_of polls) ≡ length ps1 = lines-count polls ∙ sym (count ∙ ap length are ∙ polls-count 1 polls) in
    record { first = e; members = ms0; polls_then = ps1; begun = g; ended = λ told. ended told (lines_of polls) size (g.between told) (g.ticks told); fares = fares (medium_of media) g.fares })
