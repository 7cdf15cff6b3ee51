-- Calm votes come to their decisions.
use Rattle.std.specs.Option.{unwrap_or}
use Rattle.vote_law.proofs.Names.{Every, Has, every-append, broker, same_node, StampParts, Decision, NodeId, Effect, Out, count, numbered, same_is, Fate, is_commit, Wish, MemberNumber, First, Second, Third, member, PollState, ballot, held, held_of, Member, Line, all_effects, Entry, Crash, Tick, Flags, Sending, names, flagged, Base, Hall, log_at, world_of, step, flagged-up, AreVotes, IsPlain, ◌≡◌, ℕ, zero, suc, ◌+◌, ◌*◌, ◌≤◌, Bool, true, false, List, [], ◌∷◌, ◌++◌, length, inl, inr, refl, sym, ap, subst, ◌∙◌, arith, Option, Some, None, ◌==◌, ◌&&◌, ◌⊎◌, ◌≢◌, is_some, min, not, nat_le, slice_get, and_parts, le-leb, append-nil, append_assoc, length-append, every-has, has-left, entered, run, new_poll, Two, votes_of, two-hold, Idle, IsReleased, fates_of, is_within, World, opened_log, line_at, no_line, start_hall, walk_from, walk, Meets, Legal, base_of, HaveLines, start-causes, walk-causes, numbered-within, HoldAll, IsUp, IsFit, WishAlike, HasQuorum, IsCalm, TicksForPolls}
use Rattle.pseudo_time.specs.declared.decisions.Decision.TheVariants as decision
use Rattle.effect_form.specs.declared.effects.Effect.TheVariants as effect
use Rattle.stream_port.specs.declared.fates.Asked.{Asked}
use Rattle.record_votes.specs.declared.ballots.Wish.TheVariants as wish
use Rattle.record_votes.specs.Voting as voting
use Rattle.record_votes.proofs.LogLemmas.{voted, voted-has}
use Rattle.record_votes.proofs.WorldLemmas.{run-facts, entered-facts}
use Rattle.world_core.specs.declared.traces.Trace.{Trace}
use Rattle.vote_traces.specs.Causes.{IsCaused, HasCause, HaveCauses}
use Rattle.vote_traces.proofs.WalkLemmas.{walk-append, meets-parts}
use Rattle.vote_traces.proofs.ReplayLemmas.{Follow, walk-follows}
use Rattle.world_core.specs.Counts.{is_crash, is_tick}
use Rattle.vote_law.proofs.Letters.{Mark, is_taken, waiting, between, marks, all-taken, Taken}
use Rattle.vote_law.proofs.Talks.{Talks, Silent, settled, few-asks, few-answers}
use Rattle.vote_law.proofs.Halls.{either-way, no, plain-at, asks_of, answers_of, TalksAt, PollFacts, HallFacts, is_quiet, step-facts}
use Rattle.vote_law.proofs.Ways.{HallWays, step-ways, counted, few-of-polls, every-place}
use Rattle.vote_law.proofs.Loads.{HaveVotes, Loads, load, few-load, step-loads, step-votes}

-- ---- the beginning

numbered-inside : (lines : List Line) (i : ℕ) (l : Line) → numbered lines i ≡ Some l → (1 ≤ i) × (i ≤ length lines)
numbered-inside lines zero l e = absurd (cc e)
numbered-inside [] (suc i) l e = absurd (cc e)
numbered-inside (x ∷ lines) (suc zero) l e = (omega arith, omega arith)
numbered-inside (x ∷ lines) (suc (suc i)) l e = let k : (1 ≤ suc i) × (suc i ≤ length lines) = numbered-inside lines (suc i) l e in (omega arith, omega (arith, k.1))

line-within : (lines : List Line) (i : ℕ) (l : Line) → numbered lines i ≡ Some l → is_within i (length lines) ≡ true
line-within lines i l e = let k : (1 ≤ i) × (i ≤ length lines) = numbered-inside lines i l e in
    ap (λ t. t && nat_le i (length lines)) (le-leb 1 i k.0) ∙ le-leb i (length lines) k.1

abbrev HaveNodes : Base → Type 0
HaveNodes b = (i : ℕ) (l : Line) → numbered b.lines i ≡ Some l → is_some (opened_log b.opened (broker i)) ≡ true

new-ballot : (i : ℕ) (l : Line) (s : MemberNumber) → ballot (new_poll i l) s ≡ record { begun = false; vote = None }
new-ballot i l First = refl
new-ballot i l _ = refl

start-facts : (b : Base) → HaveNodes b → HallFacts b (start_hall b)
start-facts b have = record {
  polls = λ i l there.
      let at : line_at b.lines i ≡ l = ap (λ o. unwrap_or o no_line) there in
      record {
        says = record { stamp = ap (λ (z : Line). z.stamp) at; timeout = ap (λ (z : Line). z.timeout) at; wish = ap (λ (z : Line). z.wish) at };
        up = have i l there;
        known = have i l there;
        talks = λ s. record {
          stage = Silent;
          talk = record { asks_are = refl; answers_are = refl; ballot_is = new-ballot i (line_at b.lines i) s; begun = λ e. no e; passed = λ e. no e };
          went = refl;
        };
      };
  free = λ j above. refl;
  known = λ n up. up;
  polls_closed = λ i due. refl;
  members_closed = λ s due. refl;
  last = refl;
  ticks = refl;
  early = tt;
}

start-ways : (b : Base) → HaveLines b → HallWays b (start_hall b)
start-ways b have = record { sent = tt; polls = λ i. tt; members = λ s. tt; lines = λ i up. (let r = have i up in record { line = r.0; there = r.1 }) }

abbrev AllQuiet : List Entry → Type 0
AllQuiet es = Every (λ (e : Entry). is_quiet e ≡ true) es

module _ (b : Base) (fates : List Fate) (plain : Every IsPlain fates) where
  abbrev AllFacts : Hall → Type 0
  AllFacts h = HallFacts b h × HallWays b h × Loads b h × HaveVotes b h

  walk-facts : (h : Hall) (es : List Entry) → AllFacts h → Meets b fates h es → AllQuiet es → AllFacts (walk_from b h es)
  unfolding Meets walk_from
  walk-facts h [] f m q = f
  walk-facts h (e ∷ es) f m q = walk-facts (step b h e) es (step-facts b h f.0 fates plain e m.0 q.0, step-ways b h f.1 fates e m.0 q.0 f.0.last, step-loads b h f.0 f.1 fates plain e m.0 q.0 f.2, step-votes b h f.0 fates e m.0 q.0 f.3) m.1 q.1

  -- ---- where all is idle

  module _ (h : Hall) (f : HallFacts b h) (idle : Idle fates (world_of h)) where
    one-copy : (fate : Fate) (n : ℕ) → IsPlain fate → n ≡ min fate.copies 3 → not (n == 0) ≡ true
    one-copy fate n p e = ap (λ c. not (c == 0)) (e ∙ ap (λ c. min c 3) p.0)

    -- what went to a node that is up was taken
    was-taken : (from to : NodeId) → (h.flags to).up ≡ true → (j : ℕ) (x : Sending) → slice_get h.sendings j ≡ Some x → between from to x.post ≡ true → is_taken h.taken (1 + j) ≡ true
    was-taken from to up j x there it =
        let node-is : x.post.to ≡ to = same_is x.post.to to (and_parts (same_node x.post.from from) (same_node x.post.to to) it).1 in
        let r : (fate : Fate) × (numbered fates (suc j) ≡ Some fate) × (IsReleased (world_of h) x fate → count (suc j) h.taken ≡ min fate.copies 3) = (idle to up).taken (suc j) x there node-is in
        let p : IsPlain r.0 = plain-at fates j r.0 plain r.1 in
        let released : x.ticks + r.0.hold ≤ h.ticks = omega (arith, every-place (λ (z : Sending). z.ticks ≡ 0) h.sendings j x f.early there, p.1) in
        let next : suc j ≡ 1 + j = omega arith in
        subst (λ k. is_taken h.taken k ≡ true) next (one-copy r.0 (count (suc j) h.taken) p (r.2 released))

    all-marks : (from to : NodeId) (outs : List Out) → (h.flags to).up ≡ true → outs ≡ [] → Every (λ (m : Mark). m.1 ≡ true) (marks from to h.taken 1 h.sendings ++ waiting to outs)
    all-marks from to outs up none = every-append Taken (marks from to h.taken 1 h.sendings) (waiting to outs) (all-taken from to h.taken 1 h.sendings (was-taken from to up))
        (subst (λ z. Every Taken (waiting to z)) (sym none) tt)

    -- so each member that is up has voted, unless the poll holds a decision
    voted-or-held : (i : ℕ) (l : Line) (s : MemberNumber) → numbered b.lines i ≡ Some l → IsUp h s → (is_some (ballot (h.polls i) s).vote ≡ true) ⊎ (is_some (held (h.polls i)) ≡ true)
    voted-or-held i l s there up =
        let p : PollFacts h i l = f.polls i l there in
        let gone : (h.flags (broker i)).gone ≡ true = (idle (broker i) p.up).gone refl in
        let t : Talks l (asks_of h i s) (answers_of h i s) (ballot (h.polls i) s) (all_effects (h.members s)) (is_some (held (h.polls i))) true =
        subst (λ g. Talks l (asks_of h i s) (answers_of h i s) (ballot (h.polls i) s) (all_effects (h.members s)) (is_some (held (h.polls i))) g) gone (p.talks s) in
        settled l (asks_of h i s) (answers_of h i s) (ballot (h.polls i) s) (all_effects (h.members s)) (is_some (held (h.polls i))) t
        (all-marks (broker i) (member s) (h.owed i) up (f.polls_closed i (idle (broker i) p.up).closed))
        (all-marks (member s) (broker i) (h.members s).owed p.up (f.members_closed s (idle (member s) up).closed))

  -- ---- few messages

  at-line : (lines : List Line) (i : ℕ) → 1 ≤ i → i ≤ length lines → (l : Line) × (numbered lines i ≡ Some l)
  at-line lines zero above most = absurd (omega (arith, above))
  at-line [] (suc i) above most = absurd (omega (arith, most))
  at-line (x ∷ lines) (suc zero) above most = (x, refl)
  at-line (x ∷ lines) (suc (suc i)) above most = at-line lines (suc i) (omega arith) (omega (arith, most))

  front-few : (xs ys : List Mark) → length (xs ++ ys) ≤ 2 → length xs ≤ 2
  front-few xs ys e = omega (arith, e, length-append xs ys)

  few-between : (h : Hall) → HallFacts b h → (i : ℕ) (s : MemberNumber) → 1 ≤ i → i ≤ length b.lines
      → (length (marks (broker i) (member s) h.taken 1 h.sendings) ≤ 2) × (length (marks (member s) (broker i) h.taken 1 h.sendings) ≤ 2)
  few-between h f i s above most =
      let r : (l : Line) × (numbered b.lines i ≡ Some l) = at-line b.lines i above most in
      let t : TalksAt h i r.0 s = (f.polls i r.0 r.1).talks s in (
        front-few (marks (broker i) (member s) h.taken 1 h.sendings) (waiting (member s) (h.owed i))
            (few-asks r.0 (asks_of h i s) (answers_of h i s) (ballot (h.polls i) s) (all_effects (h.members s)) (is_some (held (h.polls i))) (h.flags (broker i)).gone t),
        front-few (marks (member s) (broker i) h.taken 1 h.sendings) (waiting (broker i) (h.members s).owed)
            (few-answers r.0 (asks_of h i s) (answers_of h i s) (ballot (h.polls i) s) (all_effects (h.members s)) (is_some (held (h.polls i))) (h.flags (broker i)).gone t),
      )

  few-sent : (h : Hall) → HallFacts b h → HallWays b h → length h.sendings ≤ 12 * length b.lines
  few-sent h f w = omega (arith, counted h.taken b.lines 1 h.sendings w.sent, few-of-polls h.taken 1 h.sendings (length b.lines) (few-between h f))

  few-effects : (h : Hall) (s : MemberNumber) → HallFacts b h → Loads b h → log_at b.opened s ≡ [] → length (all_effects (h.members s)) ≤ 2 * length b.lines
  few-effects h s f l blank = omega (arith, l s blank, few-load s h.taken h.sendings (length b.lines) (λ i above most. (few-between h f i s above most).0))

-- ---- what a member voted

-- no time passes in a quiet trace
quiet-tick : (es : List Entry) (moment : ℕ) → AllQuiet es → Has (Tick moment) es → ⊥
quiet-tick es moment q h = let k : is_quiet (Tick moment) ≡ true = every-has (λ (e : Entry). is_quiet e ≡ true) es (Tick moment) q h in no k

abbrev wishes_commit : Wish → Bool
wishes_commit wish.Commit = true
wishes_commit wish.Withdraw = false

caused-wish : (lines : List Line) (es : List Entry) (log : List Effect) (s : StampParts) (d : Decision) (l : Line) (i : ℕ) → AllQuiet es → WishAlike lines → numbered lines i ≡ Some l → l.stamp ≡ s
    → IsCaused lines es log s d → is_commit d ≡ wishes_commit l.wish
caused-wish lines es log s (decision.Expired deadline moment) l i q alike there is c = absurd (quiet-tick es moment q c.1)
caused-wish lines es log s _ l i q alike there is c = sym (ap wishes_commit (alike i c.poll l c.line there c.there (is ∙ sym c.stamp) ∙ c.wish))

-- each Decide among these has its cause by some log
has-cause : (lines : List Line) (es : List Entry) (log more : List Effect) (s : StampParts) (d : Decision) → HaveCauses lines es log more → Has (effect.Decide s d) more → (before : List Effect) × IsCaused lines es before s d
has-cause lines es log [] s d c h = absurd h
has-cause lines es log (e ∷ more) s d c (inl is) = (log, subst (λ z. HasCause lines es log z) is c.0)
has-cause lines es log (e ∷ more) s d c (inr h) = has-cause lines es (log ++ e ∷ []) more s d c.1 h

module _ (b : Base) (have : HaveLines b) (fates : List Fate) (es : List Entry) (meets : Meets b fates (start_hall b) es) where
  abbrev at-end : Hall
  at-end = walk_from b (start_hall b) es

  -- a vote is a Decide of the member's durable log
  vote-stands : (i : ℕ) (s : MemberNumber) (c : Bool) → (ballot (at-end.polls i) s).vote ≡ Some c → (d : Decision) × (is_commit d ≡ c) × Has (effect.Decide (line_at b.lines i).stamp d) (at-end.members s).gated
  vote-stands i s c e =
      let begun : voting.World = entered (λ s. b.start) (log_at b.opened) (line_at b.lines) in
      let begins : Follow (start_hall b) begun = record { members_are = refl; polls_are = refl; sent = λ s h. absurd h; ready = λ i o h. absurd h } in
      let led = walk-follows b fates (start_hall b) begun es meets begins in
      let facts = run-facts ⊥ (line_at b.lines) begun led.0 (entered-facts ⊥ (λ s. b.start) (log_at b.opened) (line_at b.lines) (λ p. absurd p)) in
      let v : (d : Decision) × (is_commit d ≡ c) × (voted ((run begun led.0).members s).gated (line_at b.lines i).stamp ≡ Some d) =
      facts.ballots i s c (ap (λ (ps : ℕ → PollState). (ballot (ps i) s).vote) led.1.polls_are ∙ e) in
      (v.0, v.1, subst (λ (ms : MemberNumber → Member). Has (effect.Decide (line_at b.lines i).stamp v.0) (ms s).gated) led.1.members_are (voted-has ((run begun led.0).members s).gated (line_at b.lines i).stamp v.0 v.2))

  -- so it is the wish of the poll, where the log was blank and all polls of the stamp wish the same
  vote-is-wish : (i : ℕ) (l : Line) (s : MemberNumber) (c : Bool) → AllQuiet es → WishAlike b.lines → log_at b.opened s ≡ [] → numbered b.lines i ≡ Some l → (ballot (at-end.polls i) s).vote ≡ Some c → c ≡ wishes_commit l.wish
  vote-is-wish i l s c q alike blank there e =
      let at : line_at b.lines i ≡ l = ap (λ o. unwrap_or o no_line) there in
      let v : (d : Decision) × (is_commit d ≡ c) × Has (effect.Decide (line_at b.lines i).stamp d) (at-end.members s).gated = vote-stands i s c e in
      let m = (walk-causes b have fates [] es (start_hall b) (start-causes b) meets).members s in
      let gated : (at-end.members s).gated ≡ m.late = m.gated_is ∙ ap (λ z. z ++ m.late) blank in
      let in-late : Has (effect.Decide l.stamp v.0) (m.late ++ (at-end.members s).fresh) =
      has-left m.late (at-end.members s).fresh (effect.Decide l.stamp v.0) (subst (λ z. Has (effect.Decide z v.0) m.late) (ap (λ (z : Line). z.stamp) at) (subst (λ z. Has (effect.Decide (line_at b.lines i).stamp v.0) z) gated v.2)) in
      let caused : (before : List Effect) × IsCaused b.lines es before l.stamp v.0 = has-cause b.lines es (log_at b.opened s) (m.late ++ (at-end.members s).fresh) l.stamp v.0 m.caused in-late in
      sym v.1 ∙ caused-wish b.lines es caused.0 l.stamp v.0 l i q alike there refl caused.1

-- ---- two votes of three

three-hold : (x y z : Option Bool) → is_some x ≡ true → is_some y ≡ true → is_some z ≡ true → is_some (held_of x y z) ≡ true
three-hold None y z a c d = no a
three-hold (Some x) None z a c d = no c
three-hold (Some x) (Some y) None a c d = no d
three-hold (Some true) (Some true) (Some true) a c d = refl
three-hold (Some true) (Some true) (Some false) a c d = refl
three-hold (Some true) (Some false) (Some true) a c d = refl
three-hold (Some true) (Some false) (Some false) a c d = refl
three-hold (Some false) (Some true) (Some true) a c d = refl
three-hold (Some false) (Some true) (Some false) a c d = refl
three-hold (Some false) (Some false) (Some true) a c d = refl
three-hold (Some false) (Some false) (Some false) a c d = refl

the-some : (o : Option Bool) → is_some o ≡ true → (c : Bool) × (o ≡ Some c)
the-some None e = no e
the-some (Some c) e = (c, refl)

abbrev Votes : PollState → MemberNumber → Type 0
Votes p s = is_some (ballot p s).vote ≡ true

-- two equal votes
pair-holds : (p : PollState) (one other : MemberNumber) (w : Bool) → one ≢ other → Votes p one → Votes p other → ((c : Bool) → (ballot p one).vote ≡ Some c → c ≡ w) → ((c : Bool) → (ballot p other).vote ≡ Some c → c ≡ w) → is_some (held p) ≡ true
pair-holds p one other w apart a c first second =
    let x : (v : Bool) × ((ballot p one).vote ≡ Some v) = the-some (ballot p one).vote a in
    let y : (v : Bool) × ((ballot p other).vote ≡ Some v) = the-some (ballot p other).vote c in
    let two : Two (votes_of p) w = record { one = one; other = other; apart = apart; one_vote = x.1 ∙ ap (λ z. Some z) (first x.0 x.1); other_vote = y.1 ∙ ap (λ z. Some z) (second y.0 y.1) } in
    ap is_some (two-hold p w two)

first≢second : First ≢ Second
first≢second e = cc e

first≢third : First ≢ Third
first≢third e = cc e

second≢third : Second ≢ Third
second≢third e = cc e

unless-held : (t : Bool) (A : Type 0) → (A ⊎ (t ≡ true)) → (A → t ≡ true) → t ≡ true
unless-held t A (inl a) f = f a
unless-held t A (inr e) f = e

-- ---- where a quiet trace is idle, all polls hold

module _ (b : Base) (have : HaveLines b) (nodes : HaveNodes b) (fates : List Fate) (plain : Every IsPlain fates) (es : List Entry) (meets : Meets b fates (start_hall b) es) (quiet : AllQuiet es) where
  abbrev end : Hall
  end = walk_from b (start_hall b) es

  facts-at-end : HallFacts b end × HallWays b end × Loads b end × HaveVotes b end
  facts-at-end = walk-facts b fates plain (start_hall b) es (start-facts b nodes, start-ways b have, (λ s blank. subst (λ z. length z ≤ load s [] [] (length b.lines)) (sym (append-nil (log_at b.opened s) ∙ blank)) (omega arith)), (λ s blank. subst AreVotes (sym (append-nil (log_at b.opened s) ∙ blank)) tt)) meets quiet

  few-messages : length end.sendings ≤ 12 * length b.lines
  few-messages = few-sent b fates plain end facts-at-end.0 facts-at-end.1

  short-log : (s : MemberNumber) → log_at b.opened s ≡ [] → length (all_effects (end.members s)) ≤ 2 * length b.lines
  short-log s blank = few-effects b fates plain end s facts-at-end.0 facts-at-end.2 blank

  module _ (idle : Idle fates (world_of end)) (i : ℕ) (l : Line) (there : numbered b.lines i ≡ Some l) where
    abbrev p : PollState
    p = end.polls i

    vote-of : (s : MemberNumber) → IsUp end s → Votes p s ⊎ (is_some (held p) ≡ true)
    vote-of s up = voted-or-held b fates plain end facts-at-end.0 idle i l s there up

    all-up : ((s : MemberNumber) → IsFit b.opened end s) → is_some (held p) ≡ true
    all-up fit = unless-held (is_some (held p)) (Votes p First) (vote-of First (fit First).0) (λ a.
        unless-held (is_some (held p)) (Votes p Second) (vote-of Second (fit Second).0) (λ c.
        unless-held (is_some (held p)) (Votes p Third) (vote-of Third (fit Third).0) (λ d. three-hold p.first.vote p.second.vote p.third.vote a c d)))

    two-up : (one other : MemberNumber) → one ≢ other → IsFit b.opened end one → IsFit b.opened end other → WishAlike b.lines → is_some (held p) ≡ true
    two-up one other apart fit-one fit-other alike = unless-held (is_some (held p)) (Votes p one) (vote-of one fit-one.0) (λ a.
        unless-held (is_some (held p)) (Votes p other) (vote-of other fit-other.0) (λ c.
        pair-holds p one other (wishes_commit l.wish) apart a c (λ v e. vote-is-wish b have fates es meets i l one v quiet alike fit-one.1 there e) (λ v e. vote-is-wish b have fates es meets i l other v quiet alike fit-other.1 there e)))

    but-one : (out : MemberNumber) → ((s : MemberNumber) → s ≢ out → IsFit b.opened end s) → WishAlike b.lines → is_some (held p) ≡ true
    but-one First fit alike = two-up Second Third second≢third (fit Second (λ e. first≢second (sym e))) (fit Third (λ e. first≢third (sym e))) alike
    but-one Second fit alike = two-up First Third first≢third (fit First first≢second) (fit Third (λ e. second≢third (sym e))) alike
    but-one Third fit alike = two-up First Second first≢second (fit First first≢third) (fit Second second≢third) alike

    quorum-holds : HasQuorum b.lines b.opened end → is_some (held p) ≡ true
    quorum-holds (inl fit) = all-up fit
    quorum-holds (inr two) = but-one two.0 two.1 two.2

-- ---- no Tick

record HasFirstTick (es : List Entry) : Type 0 where
  front : List Entry
  rest : List Entry
  moment : ℕ
  is : es ≡ front ++ Tick moment ∷ rest
  quiet : AllQuiet front

one-first : (e : Entry) → is_crash e ≡ false → (is_quiet e ≡ true) ⊎ ((moment : ℕ) × (e ≡ Tick moment))
one-first (Crash n kept) h = no (sym h)
one-first (Tick moment) h = inr (moment, refl)
one-first _ h = inl refl

first-tick : (es : List Entry) → Every (λ (e : Entry). is_crash e ≡ false) es → AllQuiet es ⊎ HasFirstTick es
first-tick [] h = inl tt
first-tick (e ∷ es) h = elim (one-first e h.0) [
  | inr m ↦ inr (record { front = []; rest = es; moment = m.0; is = ap (λ z. z ∷ es) m.1; quiet = tt })
  | inl q ↦ elim (first-tick es h.1) [ inl all ↦ inl (q, all) | inr t ↦ inr (record { front = e ∷ t.front; rest = t.rest; moment = t.moment; is = ap (λ z. e ∷ z) t.is; quiet = (q, t.quiet) }) ]
]

tick-idle : (b : Base) (fates : List Fate) (h : Hall) (moment : ℕ) (rest : List Entry) → Meets b fates h (Tick moment ∷ rest) → Idle fates (world_of h)
unfolding Meets
tick-idle b fates h moment rest m = m.0.idle

up-before : (b : Base) (h : Hall) (es : List Entry) (n : NodeId) → ((walk_from b h es).flags n).up ≡ true → (h.flags n).up ≡ true
unfolding walk_from
up-before b h [] n up = up
up-before b h (e ∷ es) n up = either-way (λ (f : Flags). f.up ≡ true → (h.flags n).up ≡ true) (names n e && (h.flags n).known) (flagged h.last n.kind (h.flags n) e) (h.flags n)
    (λ _ now. flagged-up h.last n.kind (h.flags n) e now) (λ _ now. now) (up-before b (step b h e) es n up)

quorum-before : (b : Base) (h : Hall) (es : List Entry) → HasQuorum b.lines b.opened (walk_from b h es) → HasQuorum b.lines b.opened h
quorum-before b h es (inl fit) = inl (λ s. (up-before b h es (member s) (fit s).0, (fit s).1))
quorum-before b h es (inr two) = inr (two.0, (λ s apart. (up-before b h es (member s) (two.1 s apart).0, (two.1 s apart).1)), two.2)

module _ (lines : List Line) (asked : List Asked) (t : Trace) (front : List Entry) (legal : Legal lines asked t) (calm : IsCalm lines t front) (ticks : TicksForPolls (base_of lines t) t.entries) where
  abbrev b : Base
  b = base_of lines t

  have-lines : HaveLines b
  have-lines i known = numbered-within lines i (sym (legal.nodes.just (broker i)) ∙ known)

  have-nodes : HaveNodes b
  have-nodes i l there = legal.nodes.just (broker i) ∙ line-within lines i l there

  meets-front : Meets b (fates_of t.sent) (start_hall b) front
  meets-front = (meets-parts b (fates_of t.sent) (start_hall b) front calm.rest (subst (Meets b (fates_of t.sent) (start_hall b)) calm.is legal.meets)).0

  no-first : HasFirstTick front → ⊥
  no-first f =
      let whole : Meets b (fates_of t.sent) (start_hall b) (f.front ++ Tick f.moment ∷ f.rest) = subst (Meets b (fates_of t.sent) (start_hall b)) f.is meets-front in
      let parts = meets-parts b (fates_of t.sent) (start_hall b) f.front (Tick f.moment ∷ f.rest) whole in
      let later : walk b front ≡ walk_from b (walk_from b (start_hall b) f.front) (Tick f.moment ∷ f.rest) =
      ap (λ z. walk_from b (start_hall b) z) f.is ∙ walk-append b (start_hall b) f.front (Tick f.moment ∷ f.rest) in
      let quorum : HasQuorum lines t.opened (walk_from b (start_hall b) f.front) = quorum-before b (walk_from b (start_hall b) f.front) (Tick f.moment ∷ f.rest) (subst (HasQuorum lines t.opened) later calm.quorum) in
      ticks f.front (f.rest ++ calm.rest) f.moment (calm.is ∙ ap (λ z. z ++ calm.rest) f.is ∙ append_assoc f.front (Tick f.moment ∷ f.rest) calm.rest)
      (λ i l there. quorum-holds b have-lines have-nodes (fates_of t.sent) calm.plain f.front parts.0 f.quiet (tick-idle b (fates_of t.sent) (walk_from b (start_hall b) f.front) f.moment f.rest parts.1) i l there quorum)

  pub all-quiet : AllQuiet front
  all-quiet = elim (first-tick front calm.sound) [ inl q ↦ q | inr f ↦ absurd (no-first f) ]

  pub idle-holds : Idle (fates_of t.sent) (world_of (walk b front)) → HoldAll lines (walk b front)
  idle-holds idle i l there = quorum-holds b have-lines have-nodes (fates_of t.sent) calm.plain front meets-front all-quiet idle i l there calm.quorum

  pub few-letters : length (walk b front).sendings ≤ 12 * length lines
  few-letters = few-messages b have-lines have-nodes (fates_of t.sent) calm.plain front meets-front all-quiet

  pub short-logs : (s : MemberNumber) → log_at t.opened s ≡ [] → length (all_effects ((walk b front).members s)) ≤ 2 * length lines
  short-logs s blank = short-log b have-lines have-nodes (fates_of t.sent) calm.plain front meets-front all-quiet s blank

  pub votes-alone : (s : MemberNumber) → log_at t.opened s ≡ [] → AreVotes (all_effects ((walk b front).members s))
  votes-alone s blank = (facts-at-end b have-lines have-nodes (fates_of t.sent) calm.plain front meets-front all-quiet).3 s blank

still-one : (e : Entry) → is_quiet e ≡ true → is_tick e ≡ false
still-one (Crash n kept) q = no q
still-one (Tick moment) q = no q
still-one _ q = refl

pub all-still : (es : List Entry) → AllQuiet es → Every (λ (e : Entry). is_tick e ≡ false) es
all-still [] q = tt
all-still (e ∷ es) q = (still-one e q.0, all-still es q.1)
