-- A smooth run is complete.
use Rattle.run_command.proofs.Names.{eqb-true, append-nil, length-map, filter-append, Every, Has, every-has, NodeId, DownCause, broker, same_node-refl, RoseBy, rise_of_fewer, Effect, Outcome, pages_apart, Plan, InRange, CanRun, Act, Book, Try, book, keep, reading, Entry, Take, Crash, Down, Tick, Trace, Base, names, own, start_world, walk, Meets, in_plan, IsLegal, counted_by, shown_end, tasks_of, Media, IsBack, place_of, some_down, Became, inner, medium_at, Account, Ran, HasOutcome, filled_by, AllBegun, WentSmoothly, IsSmoothRun, blank-none, ◌≡◌, ◌⊎◌, ◌+◌, ◌≤◌, ◌∙◌, ◌++◌, ◌&&◌, ◌==◌, ℕ, zero, suc, Bool, true, false, IsTrue, List, [], ◌∷◌, Option, Some, None, is_some, length, reverse, slice_get, cond, inl, inr, refl, ap, sym, subst, arith, if◌then◌else◌, every-right, every-left, every-map, has-right, tries_of, Life, all_effects, base_of, fates_of, post_of, gated_log, life_after, HasEnded, IsUnopened, AllDone, CalmPlace, CalmRun, IsUnstopped, MayStop, book_at, log_at, most_pages, WasRefused, blank-count, filling-apart, and-left, down_cause, named-opened, one-down, told-of}
use Rattle.pseudo_time.specs.Nodes.{repository}
use Rattle.world_core.specs.Counts.{tick_count}
use Rattle.world_core.specs.Readings.{world_after}
use Rattle.run_command.specs.Smooth.{LeavesNoDoubt}
use Rattle.pseudo_time.specs.declared.down_causes.DownCause.TheVariants as down
use Rattle.effect_form.specs.declared.outcomes.Outcome.TheVariants as ended
use Rattle.value_form.proofs.ValueLaws.{ok_is}
use Rattle.broker_core.specs.Owed.{all_over, done}
use Rattle.broker_core.specs.Heard.{Heard}
use Rattle.world_core.specs.Pasts.{WasNotOpened}
use Rattle.run_rounds.specs.Costs.{cost_of, costs}
use Rattle.run_rounds.proofs.TrailLemmas.{costs-append}
use Rattle.run_rounds.proofs.AlongLemmas.{zip-at}
use Rattle.run_rounds.specs.Ends as ends
use Rattle.complete_law.specs.Calm as calm
use Rattle.complete_law.proofs.Counts.{few-pages}
use Rattle.complete_law.proofs.Totals.{few-messages}
use Rattle.complete_law.proofs.OneBroker.{never-ended}
use Rattle.complete_law.proofs.Outcomes.{outcomes}
use Rattle.complete_law.proofs.Steps.{never-stuck}
use Rattle.complete_law.proofs.Stops.{nothing-stops}
use Rattle.run_command.proofs.DownLemmas.{life-down}
use Rattle.run_command.proofs.PageLemmas.{apart-filled, filled-append, filled-reverse}
use Rattle.run_command.proofs.StandingLemmas.{all-finished, all-tries}
use Rattle.complete_law.proofs.SerialRanges.{in-range, within}

-- ---- quiet entries

-- no node is down
pub none-down : (es : List Entry) → Every IsUnstopped es → some_down es ≡ false
none-down [] h = refl
none-down (Crash node kept ∷ es) h = absurd h.0
none-down (Down node cause ∷ es) h = absurd h.0
none-down (Tick moment ∷ es) h = absurd h.0
none-down (e ∷ es) h = none-down es h.1

no-ticks : (es : List Entry) → Every IsUnstopped es → tick_count es ≡ 0
no-ticks [] h = refl
no-ticks (Crash node kept ∷ es) h = absurd h.0
no-ticks (Down node cause ∷ es) h = absurd h.0
no-ticks (Tick moment ∷ es) h = absurd h.0
no-ticks (e ∷ es) h = no-ticks es h.1

no-cause : (n : NodeId) (es : List Entry) → Every IsUnstopped es → down_cause n es ≡ None
no-cause n [] h = refl
no-cause n (Crash node kept ∷ es) h = absurd h.0
no-cause n (Down node cause ∷ es) h = absurd h.0
no-cause n (Tick moment ∷ es) h = absurd h.0
no-cause n (e ∷ es) h = no-cause n es h.1

-- ---- costs

-- what an entry of a node costs, the node's entries cost
costs-one : (n : NodeId) (front : List Entry) (e : Entry) (rest : List Entry) → names n e ≡ true → cost_of e ≤ costs (own n (front ++ e ∷ rest))
costs-one n front e rest is =
    let a : own n (front ++ e ∷ rest) ≡ own n front ++ own n (e ∷ rest) = filter-append (names n) front (e ∷ rest) in
    let b : own n (e ∷ rest) ≡ e ∷ own n rest = ap (λ (t : Bool). cond t (e ∷ own n rest) (own n rest)) is in
    let c : costs (own n (front ++ e ∷ rest)) ≡ costs (own n front) + costs (own n (e ∷ rest)) = ap costs a ∙ costs-append (own n front) (own n (e ∷ rest)) in
    let d : costs (own n (e ∷ rest)) ≡ cost_of e + costs (own n rest) = ap costs b in
    omega (arith, c, d)

-- ---- brokers that are done

begun-by : (plan : Plan) (b : ℕ) (k : Book) (heard : Heard) → done (reading plan.acts) plan.run (tasks_of plan b) k heard ≡ true → AllBegun plan b k
begun-by plan b k heard h = by (k.run == plan.run) refl (and-left (if k.run == plan.run then (length k.acts == length (tasks_of plan b)) && all_over k.acts else length (tasks_of plan b) == 0) _ h)
  where
    none : {A : Type 0} (xs : List A) → (length xs == 0) ≡ true → xs ≡ []
    none [] e = refl
    none (x ∷ xs) e = absurd (let z : length (x ∷ xs) ≡ 0 = eqb-true _ _ e in omega (arith, z))

    by : (t : Bool) → (k.run == plan.run) ≡ t → (if t then (length k.acts == length (tasks_of plan b)) && all_over k.acts else length (tasks_of plan b) == 0) ≡ true → AllBegun plan b k
    by true e q = inr (eqb-true _ _ e, eqb-true _ _ (and-left (length k.acts == length (tasks_of plan b)) (all_over k.acts) q))
    by false e q = inl (none (tasks_of plan b) q)

refused-shown : (o : Option Outcome) → WasRefused (shown_end o) → calm.WasRefused o
refused-shown None h = absurd h
refused-shown (Some ended.Committed) h = absurd h
refused-shown (Some (ended.Withdrawn l)) h = absurd h
refused-shown (Some (ended.Failed l k)) h = absurd h
refused-shown (Some (ended.LaterRead o e)) h = tt
refused-shown (Some (ended.LaterVersion o x)) h = tt
refused-shown (Some (ended.Expired d m)) h = absurd h
refused-shown (Some (ended.Spent c)) h = absurd h

none-shown : (acts : List Act) → Every (λ (t : Try). calm.WasRefused t.end → ⊥) (tries_of acts) → Every (λ (a : Act). Every (λ (t : Try). WasRefused (shown_end t.end) → ⊥) a.tries) acts
none-shown [] h = tt
none-shown (a ∷ acts) h = (
  every-map (λ (t : Try). calm.WasRefused t.end → ⊥) (λ (t : Try). WasRefused (shown_end t.end) → ⊥) (λ t not r. not (refused-shown t.end r)) a.tries (every-left (λ (t : Try). calm.WasRefused t.end → ⊥) a.tries (tries_of acts) h),
  none-shown acts (every-right (λ (t : Try). calm.WasRefused t.end → ⊥) a.tries (tries_of acts) h),
)

-- ---- a smooth run

module _ {M : Type 0} (w : Media M) (told : IsTrue w.tells) (most_ticks enough most : ℕ) (plan : Plan) (lang : CanRun plan) (account : Account) (media left : List (Option M))
    (ran : Ran w most_ticks enough plan account media left) (smooth : IsSmoothRun w most enough plan account.trace media left) where
  abbrev t : Trace
  t = account.trace

  abbrev base : Base
  base = base_of (reading plan.acts) plan t

  legal : IsLegal plan account.asked t
  legal = (ran.is_told told).legal

  -- ---- media

  became-of : (n : NodeId) → in_plan plan n ≡ true → (old : M) × (new : M) × Became plan media left n old new
  became-of n is =
      let h = smooth.had n is in
      let found = there (slice_get media (place_of plan n)) h.0 h.1 in
      let k = zip-at IsBack media left (place_of plan n) (Some h.0) ran.logs.back found in
      by k.0 h.0 k.2 h.1 k.1
    where
      there : (o : Option (Option M)) (m : M) → inner o ≡ Some m → o ≡ Some (Some m)
      there None m e = absurd cc
      there (Some x) m e = ap (λ (y : Option M). Some y) e

      by : (y : Option M) (m : M) → IsBack (Some m) y → medium_at plan media n ≡ Some m → slice_get left (place_of plan n) ≡ Some y → (old : M) × (new : M) × Became plan media left n old new
      by None m back e f = absurd back
      by (Some x) m back e f = (m, x, (e, ap inner f))

  costless : (n : NodeId) → in_plan plan n ≡ true → (WasNotOpened t.entries n → ⊥) → costs (own n t.entries) ≡ 0
  costless n is opened = by (costs (own n t.entries)) (ran.counts.opened n b.0 b.1 is opened b.2)
    where
      b : (old : M) × (new : M) × Became plan media left n old new
      b = became-of n is

      by : (k : ℕ) → RoseBy k (w.faults b.0) (w.faults b.1) → k ≡ 0
      by zero r = refl
      by (suc k) r = absurd (smooth.faultless n b.0 b.1 is b.2 (rise_of_fewer 1 (suc k) (w.faults b.0) (w.faults b.1) (omega arith) r))

  undamaged : (n : NodeId) (page : ℕ) → in_plan plan n ≡ true → down_cause n t.entries ≡ Some (down.Damaged page) → ⊥
  undamaged n page is d =
      let b = became-of n is in
      let err = ((ran.stops told).damaged n b.0 b.1 page is d b.2).1 in
      let z = sym (blank-none (w.reads b.0) (smooth.blank n b.0 is b.2.0)) ∙ err in
      cc z

  all-opened : (n : NodeId) → in_plan plan n ≡ true → WasNotOpened t.entries n → ⊥
  all-opened n is not = by ((ran.stops told).unopened n is not)
    where
      b : (old : M) × (new : M) × Became plan media left n old new
      b = became-of n is

      by : (down_cause n t.entries ≡ Some down.Medium) ⊎ ((page : ℕ) × (down_cause n t.entries ≡ Some (down.Damaged page))) → ⊥
      by (inl d) = smooth.faultless n b.0 b.1 is b.2 (ran.counts.unopened n b.0 b.1 is not d b.2)
      by (inr d) = undamaged n d.0 is d.1

  empty : calm.AreEmpty t.opened
  empty n log e =
      let is : in_plan plan n ≡ true = sym (ran.nodes.just n) ∙ ap is_some e in
      let o = ran.logs.opened n is (all-opened n is) in
      let held = (o.3 told).opened log e in
      let z = sym held ∙ blank-none (w.reads o.0) (smooth.blank n o.0 is o.2.0) in
      cc z

  abbrev run : CalmRun
  run = record { script = reading plan.acts; plan = plan; asked = account.asked; trace = t; whole = lang; legal = legal; empty = empty; plain = smooth.plain }

  -- ---- entries

  -- each entry is of a node of the plan, or a Tick
  all-named : Every (λ (e : Entry). (m : NodeId) → names m e ≡ true → in_plan plan m ≡ true) t.entries
  all-named = every-map _ _ (λ e h m is. sym (legal.nodes.just m) ∙ h m is) t.entries
      (named-opened base (fates_of t.sent) (start_world base) t.entries (λ m up. up) (λ m. refl) legal.meets)

  abbrev AtEntry : List Entry → Entry → List Entry → Type 0
  AtEntry front e rest = t.entries ≡ front ++ e ∷ rest

  here-has : (front : List Entry) (e : Entry) (rest : List Entry) → AtEntry front e rest → Has e t.entries
  here-has front e rest is = subst (Has e) (sym is) (has-right front (e ∷ rest) e (inl refl))

  node-here : (front : List Entry) (e : Entry) (rest : List Entry) (n : NodeId) → AtEntry front e rest → names n e ≡ true → in_plan plan n ≡ true
  node-here front e rest n is named = every-has (λ (x : Entry). (m : NodeId) → names m x ≡ true → in_plan plan m ≡ true) t.entries e all-named (here-has front e rest is) n named

  -- an entry that costs something
  dear : (front : List Entry) (e : Entry) (rest : List Entry) (n : NodeId) → AtEntry front e rest → names n e ≡ true → 1 ≤ cost_of e → ⊥
  dear front e rest n is named some =
      let p = node-here front e rest n is named in
      let none = costless n p (all-opened n p) in
      let at : costs (own n t.entries) ≡ costs (own n (front ++ e ∷ rest)) = ap (λ (es : List Entry). costs (own n es)) is in
      let one = costs-one n front e rest named in
      omega (arith, none, at, one, some)

  known : (n : NodeId) → in_plan plan n ≡ true → ((start_world base).flags n).known ≡ true
  known n is = legal.nodes.just n ∙ is

  cause-here : (front : List Entry) (n : NodeId) (cause : DownCause) (rest : List Entry) → AtEntry front (Down n cause) rest → in_plan plan n ≡ true → down_cause n t.entries ≡ Some cause
  cause-here front n cause rest is p =
      let has = here-has front (Down n cause) rest is in
      let x = told-of n cause t.entries has in
      x.1 ∙ ap (λ (c : DownCause). Some c) (one-down base (fates_of t.sent) (start_world base) t.entries n x.0 cause (known n p) legal.meets x.1 has)

  module _ (front : List Entry) (e : Entry) (rest : List Entry) (is : AtEntry front e rest) (quiet : Every IsUnstopped front) where
    abbrev place : CalmPlace
    place = record { run = run; front = front; rest = e ∷ rest; here = is; quiet = quiet }

  -- no medium is full
  unfilled : (front : List Entry) (n : NodeId) (pages : ℕ) (rest : List Entry) (is : AtEntry front (Down n (down.Full pages)) rest) → Every IsUnstopped front → ⊥
  unfilled front n pages rest is quiet =
      let p = node-here front (Down n (down.Full pages)) rest n is (same_node-refl n) in
      let b = became-of n p in
      let f = ((ran.stops told).full n b.0 b.1 pages p (cause-here front n (down.Full pages) rest is p) b.2).1 in
      let intact = (ran.stops told).intact n b.0 b.1 p (costless n p (all-opened n p)) b.2 in
      let count = intact.count in
      let none = smooth.blank n b.0 p b.2.0 in
      let grown = intact.grown [] (blank-none (w.reads b.0) none) in
      let same : grown.more ≡ (life_after plan t n).gated = ok_is grown.more (life_after plan t n).gated (sym grown.is ∙ f.durable) in
      let all = blank-count (w.reads b.0) none in
      let used = grown.pages in
      let stored : pages_apart grown.more ≤ filled_by (life_after plan t n).gated = subst (λ (es : List Effect). pages_apart grown.more ≤ filled_by es) same (apart-filled grown.more grown.ranges) in
      let fill = filling-apart (life_after plan t n).fresh in
      let fresh = apart-filled (life_after plan t n).fresh f.ranges in
      let blank = f.blank in
      let large = smooth.large n b.0 p b.2.0 in
      let at = place front (Down n (down.Full pages)) rest is quiet in
      let few = few-pages at most n smooth.asks in
      let life : life_after plan t n ≡ (walk base front).life n =
      ap (λ (es : List Entry). (walk base es).life n) is ∙ life-down base (fates_of t.sent) front rest n (down.Full pages) (known n p) (subst (λ (es : List Entry). Meets base (fates_of t.sent) (start_world base) es) is legal.meets) in
      let size : filled_by (log_at at n) ≡ filled_by (life_after plan t n).gated + filled_by (life_after plan t n).fresh =
      filled-reverse (all_effects ((walk base front).life n)) ∙ (ap (λ (l : Life). filled_by (all_effects l)) (sym life) ∙ filled-append (life_after plan t n).gated (life_after plan t n).fresh) in
      omega (arith, all, used, stored, fill, fresh, blank, large, count, few, size)

  no-unopened : IsUnopened plan t → ⊥
  no-unopened h = all-opened h.0 h.1 h.2

  has-ended : HasEnded most_ticks enough plan t
  has-ended = by (ran.over told)
    where
      by : HasEnded most_ticks enough plan t ⊎ IsUnopened plan t → HasEnded most_ticks enough plan t
      by (inl h) = h
      by (inr h) = absurd (no-unopened h)

  may-stop : (front : List Entry) (e : Entry) (rest : List Entry) (is : AtEntry front e rest) (quiet : Every IsUnstopped front) → MayStop (most_pages run most) (place front e rest is quiet) e
  may-stop front (Crash node kept) rest is quiet = dear front (Crash node kept) rest node is (same_node-refl node) (omega arith)
  may-stop front (Down node down.Medium) rest is quiet = dear front (Down node down.Medium) rest node is (same_node-refl node) (omega arith)
  may-stop front (Down node (down.Damaged page)) rest is quiet =
      let p = node-here front (Down node (down.Damaged page)) rest node is (same_node-refl node) in
      undamaged node page p (cause-here front node (down.Damaged page) rest is p)
  may-stop front (Down node (down.Full pages)) rest is quiet = absurd (unfilled front node pages rest is quiet)
  may-stop front (Tick moment) rest is quiet = λ all.
      let late = has-ended.wanted front moment rest is in
      let z : true ≡ false = sym (all late.0 (in-range late.0 plan.brokers late.1)) ∙ late.2 in
      cc z
  may-stop front e rest is quiet = tt

  -- no Tick, Crash or Down stands
  whole-quiet : Every IsUnstopped t.entries
  whole-quiet = nothing-stops never-stuck few-pages run most smooth.asks (λ p e more same next. at p.run (sym same) p.front p.rest p.here p.quiet e more next)
    where
      first : (front rest : List Entry) (here : t.entries ≡ front ++ rest) (quiet : Every IsUnstopped front) (e : Entry) (more : List Entry) → rest ≡ e ∷ more → MayStop (most_pages run most) (record { run = run; front = front; rest = rest; here = here; quiet = quiet }) e
      first front rest here quiet e more next = move e (may-stop front e more (here ∙ ap (λ (es : List Entry). front ++ es) next) quiet)
        where
          move : (x : Entry) → MayStop (most_pages run most) (place front e more (here ∙ ap (λ (es : List Entry). front ++ es) next) quiet) x → MayStop (most_pages run most) (record { run = run; front = front; rest = rest; here = here; quiet = quiet }) x
          move (Take node number) h = h
          move e h = h

      Stops : CalmRun → Type 0
      Stops r = (front rest : List Entry) (here : r.trace.entries ≡ front ++ rest) (quiet : Every IsUnstopped front) (e : Entry) (more : List Entry) → rest ≡ e ∷ more → MayStop (most_pages run most) (record { run = r; front = front; rest = rest; here = here; quiet = quiet }) e

      at : (r : CalmRun) → run ≡ r → Stops r
      at r same = subst Stops same first

  -- ---- the end

  abbrev end : CalmPlace
  end = record { run = run; front = t.entries; rest = []; here = sym (append-nil t.entries); quiet = whole-quiet }

  too-many : enough ≤ length t.sent → ⊥
  too-many many =
      let few = few-messages end most smooth.asks in
      let bound = smooth.few in
      let sent : length t.sent ≡ length (calm.sent_at end) = sym (length-map t.sent post_of) ∙ ap length legal.sent in
      omega (arith, many, few, bound, sent)

  all-done : AllDone end
  all-done = by has-ended.why
    where
      by : (some_down t.entries ≡ true) ⊎ ((ends.AllDone plan t × ends.AllSettled plan t) ⊎ ((enough ≤ length t.sent) ⊎ ends.HasRunOut most_ticks plan t)) → AllDone end
      by (inl d) = absurd (let z : true ≡ false = sym d ∙ none-down t.entries whole-quiet in cc z)
      by (inr (inl d)) = λ b inside. d.0 b (within b plan.brokers inside)
      by (inr (inr (inl many))) = absurd (too-many many)
      by (inr (inr (inr out))) = never-stuck end out.0

  -- and nothing is in doubt
  settled : 1 ≤ most_ticks → LeavesNoDoubt plan t
  settled some r inside = by has-ended.why
    where
      n : NodeId
      n = repository r

      by : (some_down t.entries ≡ true) ⊎ ((ends.AllDone plan t × ends.AllSettled plan t) ⊎ ((enough ≤ length t.sent) ⊎ ends.HasRunOut most_ticks plan t)) → ends.IsSettled plan (world_after plan t) r
      by (inl d) = absurd (let z : true ≡ false = sym d ∙ none-down t.entries whole-quiet in cc z)
      by (inr (inl d)) = d.1 r inside (costless n inside (all-opened n inside))
      by (inr (inr (inl many))) = absurd (too-many many)
      by (inr (inr (inr out))) = absurd (let none = no-ticks t.entries whole-quiet in let all = out.1 in omega (arith, some, none, all))

  -- nothing is open
  all-durable : (b : ℕ) → InRange plan.brokers b → book_at end b ≡ counted_by plan b (gated_log plan t (broker b))
  all-durable b inside =
      let n = broker b in
      let is : in_plan plan n ≡ true = within b plan.brokers inside in
      let o = ran.logs.opened n is (all-opened n is) in
      let fresh = (o.3 told).up (no-cause n t.entries whole-quiet) in
      ap (λ (es : List Effect). book (keep (reading plan.acts) b plan.run (tasks_of plan b) (reverse ((life_after plan t n).gated ++ es)))) fresh
      ∙ ap (λ (es : List Effect). book (keep (reading plan.acts) b plan.run (tasks_of plan b) (reverse es))) (append-nil (life_after plan t n).gated)

  done-each : (b : ℕ) → InRange plan.brokers b → AllBegun plan b (counted_by plan b (gated_log plan t (broker b))) × Every HasOutcome (counted_by plan b (gated_log plan t (broker b))).acts
  done-each b within =
      subst (λ (k : Book). AllBegun plan b k × Every HasOutcome k.acts) (all-durable b within) (begun-by plan b (book_at end b) ((calm.world_at end).life (broker b)).mind.heard (all-done b within), outcomes end all-done b)

  -- the run is complete
  pub complete : WentSmoothly most_ticks plan t
  complete = record {
    settled = settled;
    quiet = whole-quiet;
    acts = all-finished plan lang (gated_log plan t) done-each;
    one = λ one. all-tries plan lang (gated_log plan t) done-each (λ o. WasRefused o → ⊥) (λ b within.
        none-shown (counted_by plan b (gated_log plan t (broker b))).acts (subst (λ (k : Book). Every (λ (x : Try). calm.WasRefused x.end → ⊥) (tries_of k.acts)) (all-durable b within) (never-ended end b one)));
  }
