-- Votes over sound media come to their decisions without a Tick.
use Rattle.vote_promise.proofs.Names.{◌≡◌, ◌≢◌, ℕ, zero, suc, ◌+◌, ◌*◌, ◌≤◌, ◌<◌, Bool, true, false, List, [], ◌∷◌, ◌++◌, Ok, Err, map, length, inl, inr, refl, sym, ap, subst, ◌∙◌, arith, ◌⊎◌, ◌&&◌, Option, Some, None, Result, not, nat_le, cond, IsTrue, if◌then◌else◌, append-nil, length-map, Every, repository, is_broker, same_node, DownCause, NodeId, Effect, Asked, Fate, same_is, same_node-refl, MemberNumber, member, Line, Member, all_effects, Media, Entry, Take, Go, Learn, Hear, Gate, Crash, Down, Tick, Trace, fates_of, is_within, post_of, Flags, Sending, flagged, is_down, names, own, Base, Hall, log_at, member_on, start_hall, step, walk, walk_from, IsOfDowns, Legal, Meets, Rule, WasNotOpened, base_of, hall_after, is_node, at-if, flagged-up, meets-parts, walk-append, AllHold, AreCounted, AreDownFor, AreSound, HasEnded, HasRunOut, IsSmooth, IsSound, KeepsLog, RestoresLogs, gated_log, open_effects}
use Rattle.std.specs.List.{count_by}
use Rattle.std.proofs.lemmas.Bool.{and_parts, cond-true}
use Rattle.std.proofs.lemmas.Bool.Decides.{nat_tests}
use Rattle.std.proofs.lemmas.List.Sums.{sum_by-cons}
use Rattle.pseudo_time.specs.declared.decisions.Decision.TheVariants as decision
use Rattle.pseudo_time.specs.declared.down_causes.DownCause.TheVariants as down
use Rattle.pseudo_time.specs.declared.nodes.NodeKind.{NodeKind}
use Rattle.pseudo_time.specs.declared.nodes.NodeKind.TheVariants as kind
use Rattle.effect_form.specs.declared.effects.Effect.TheVariants as effect
use Rattle.effect_form.specs.Effects.{size_of}
use Rattle.stream_port.specs.Causes.{RoseBy, rise_of_fewer}
use Rattle.version_store.specs.Filling.{full_pages, own_pages, pages_apart}
use Rattle.version_store.specs.Storage.{storage}
use Rattle.version_store.proofs.FillingLemmas.{filling-apart}
use Rattle.page_gate.specs.States.{is_blank}
use Rattle.record_votes.specs.declared.member_numbers.MemberNumber.TheVariants.{First, Second, Third}
use Rattle.world_core.specs.Counts.{down_cause, is_crash, is_tick, tick_count}
use Rattle.vote_members.specs.Closings.{HasGrown}
use Rattle.vote_members.specs.Costs.{cost_of, costs}
use Rattle.vote_law.specs.Smooth.{AreVotes, HasQuorum, IsCalm, IsFit, IsPlain, is_vote_effect}
use Rattle.vote_law.proofs.LawLemmas.{all-quiet, all-still, few-letters, idle-holds, short-logs, votes-alone}
use Rattle.run_media.proofs.BlankImageLemmas.{blank-count, blank-none}
use Rattle.vote_promise.proofs.ClauseLemmas.{clash, some-one, unopened-from}

-- ---- how many pages votes fill

decide-one : (e : Effect) → nat_le (size_of e) 4091 ≡ true → own_pages e ≡ 1
decide-one e small = cond-true (nat_le (size_of e) 4091) 1 (full_pages e + 1) small

vote-one : (e : Effect) → is_vote_effect e ≡ true → own_pages e ≤ 1
vote-one (effect.Begin stamp deadline) v = subst (λ (n : ℕ). n ≤ 1) (sym (decide-one (effect.Begin stamp deadline) refl)) (omega arith)
vote-one (effect.Decide stamp decision.Committed) v = subst (λ (n : ℕ). n ≤ 1) (sym (decide-one (effect.Decide stamp decision.Committed) refl)) (omega arith)
vote-one (effect.Decide stamp decision.Withdrawn) v = subst (λ (n : ℕ). n ≤ 1) (sym (decide-one (effect.Decide stamp decision.Withdrawn) refl)) (omega arith)
vote-one (effect.Decide stamp (decision.Expired deadline moment)) v = subst (λ (n : ℕ). n ≤ 1) (sym (decide-one (effect.Decide stamp (decision.Expired deadline moment)) refl)) (omega arith)
vote-one e v = absurd (clash false refl v)

votes-fill : (es : List Effect) → AreVotes es → pages_apart es ≤ length es
votes-fill [] v = omega arith
votes-fill (e ∷ es) v = let one = vote-one e v.0 in let rest = votes-fill es v.1 in omega (arith, one, rest)

apart-append : (xs ys : List Effect) → pages_apart (xs ++ ys) ≡ pages_apart xs + pages_apart ys
apart-append [] ys = let e : pages_apart ys ≡ 0 + pages_apart ys = omega arith in e
apart-append (x ∷ xs) ys = let e : pages_apart (xs ++ ys) ≡ pages_apart xs + pages_apart ys = apart-append xs ys in omega (arith, e)

-- ---- costs of one entry

cost-among : (n : NodeId) (front rest : List Entry) (e : Entry) → names n e ≡ true → cost_of e ≤ costs (own n (front ++ e ∷ rest))
cost-among n [] rest e is = subst (λ t. cost_of e ≤ costs (cond t (e ∷ own n rest) (own n rest))) (sym is) (omega arith)
cost-among n (x ∷ front) rest e is = go (names n x) (cost-among n front rest e is)
  where
    go : (t : Bool) → cost_of e ≤ costs (own n (front ++ e ∷ rest)) → cost_of e ≤ costs (cond t (x ∷ own n (front ++ e ∷ rest)) (own n (front ++ e ∷ rest)))
    go true less = omega (arith, less)
    go false less = less

-- ---- the first entry that stops one of these nodes

abbrev stops : (NodeId → Bool) → Entry → Bool
stops of e = elim e [ Crash node kept ↦ true | Down node cause ↦ of node | _ ↦ false ]

abbrev Clear : (NodeId → Bool) → List Entry → Type 0
Clear of es = Every (λ (e : Entry). stops of e ≡ false) es

record FirstStop (of : NodeId → Bool) (es : List Entry) : Type 0 where
  front : List Entry
  entry : Entry
  rest : List Entry
  is : es ≡ front ++ entry ∷ rest
  clear : Clear of front
  stop : stops of entry ≡ true

first-stop : (of : NodeId → Bool) (es : List Entry) → Clear of es ⊎ FirstStop of es
first-stop of [] = inl tt
first-stop of (e ∷ es) = go (stops of e) refl (first-stop of es)
  where
    go : (t : Bool) → stops of e ≡ t → Clear of es ⊎ FirstStop of es → Clear of (e ∷ es) ⊎ FirstStop of (e ∷ es)
    go true is later = inr (record { front = []; entry = e; rest = es; is = refl; clear = tt; stop = is })
    go false is (inl clear) = inl (is, clear)
    go false is (inr f) = inr (record { front = e ∷ f.front; entry = f.entry; rest = f.rest; is = ap (λ z. e ∷ z) f.is; clear = (is, f.clear); stop = f.stop })

crash-free : (of : NodeId → Bool) (es : List Entry) → Clear of es → Every (λ (e : Entry). is_crash e ≡ false) es
crash-free of [] c = tt
crash-free of (e ∷ es) c = (one e c.0, crash-free of es c.1)
  where
    one : (e : Entry) → stops of e ≡ false → is_crash e ≡ false
    one (Crash n kept) h = absurd (clash true h refl)
    one e h = refl

-- ---- nodes

member-within : (s : MemberNumber) (polls : ℕ) → is_node polls (member s) ≡ true
member-within First polls = refl
member-within Second polls = refl
member-within Third polls = refl

within-member : (k : ℕ) → is_within k 3 ≡ true → (s : MemberNumber) × (repository k ≡ member s)
within-member zero e = absurd (clash false refl e)
within-member (suc zero) e = (First, refl)
within-member (suc (suc zero)) e = (Second, refl)
within-member (suc (suc (suc zero))) e = (Third, refl)
within-member (suc (suc (suc (suc k)))) e =
    let p : (nat_le 1 (suc (suc (suc (suc k)))) ≡ true) × (nat_le (suc (suc (suc (suc k)))) 3 ≡ true) = and_parts (nat_le 1 (suc (suc (suc (suc k))))) (nat_le (suc (suc (suc (suc k)))) 3) e in
    let z = p.1 in
    let over : suc (suc (suc (suc k))) ≤ 3 = grind (arith, nat_tests) in absurd (omega (arith, over))

node-member : (k : NodeKind) (i polls : ℕ) → is_broker k ≡ false → is_node polls (record { kind = k; number = i }) ≡ true → (s : MemberNumber) × (record { kind = k; number = i } ≡ member s)
node-member kind.Repository i polls e within = within-member i within
node-member kind.Broker i polls e within = absurd (clash true e refl)

apart-nodes : (s k : MemberNumber) → s ≢ k → same_node (member s) (member k) ≡ false
apart-nodes First First h = absurd (h refl)
apart-nodes First Second h = refl
apart-nodes First Third h = refl
apart-nodes Second First h = refl
apart-nodes Second Second h = absurd (h refl)
apart-nodes Second Third h = refl
apart-nodes Third First h = refl
apart-nodes Third Second h = refl
apart-nodes Third Third h = absurd (h refl)

-- ---- flags

module _ (b : Base) where
  stays-up : (last : Option ℕ) (k : NodeKind) (f : Flags) (e : Entry) → is_down e ≡ false → f.up ≡ true → (flagged last k f e).up ≡ true
  stays-up last k f (Take n number) d up = up
  stays-up last kind.Repository f (Go n) d up = up
  stays-up last kind.Broker f (Go n) d up = up
  stays-up last kind.Repository f (Learn n stamp committed) d up = up
  stays-up last kind.Broker f (Learn n stamp committed) d up = up
  stays-up None k f (Hear n) d up = up
  stays-up (Some t) k f (Hear n) d up = up
  stays-up last k f (Gate n) d up = up
  stays-up last k f (Crash n kept) d up = up
  stays-up last k f (Down n cause) d up = absurd (clash true d refl)
  stays-up last k f (Tick moment) d up = up

  -- one that isn't stopped stays up
  up-clear : (of : NodeId → Bool) (n : NodeId) → of n ≡ true → (h : Hall) (es : List Entry) → Clear of es → (h.flags n).up ≡ true → ((walk_from b h es).flags n).up ≡ true
  unfolding walk_from
  up-clear of n mine h [] c up = up
  up-clear of n mine h (e ∷ es) c up =
      up-clear of n mine (step b h e) es c.1 (at-if (λ (f : Flags). f.up ≡ true) (names n e && (h.flags n).known) (flagged h.last n.kind (h.flags n) e) (h.flags n)
      (λ is. stays-up h.last n.kind (h.flags n) e (not-mine e (and_parts (names n e) (h.flags n).known is).0 c.0) up) up)
    where
      not-mine : (e : Entry) → names n e ≡ true → stops of e ≡ false → is_down e ≡ false
      not-mine (Down m cause) is clear = absurd (clash (of m) clear (ap of (same_is m n is) ∙ mine))
      not-mine (Take m number) is clear = refl
      not-mine (Go m) is clear = refl
      not-mine (Learn m stamp committed) is clear = refl
      not-mine (Hear m) is clear = refl
      not-mine (Gate m) is clear = refl
      not-mine (Crash m kept) is clear = refl
      not-mine (Tick moment) is clear = refl

  known-same : (last : Option ℕ) (k : NodeKind) (f : Flags) (e : Entry) → (flagged last k f e).known ≡ f.known
  known-same last k f (Take n number) = refl
  known-same last kind.Repository f (Go n) = refl
  known-same last kind.Broker f (Go n) = refl
  known-same last kind.Repository f (Learn n stamp committed) = refl
  known-same last kind.Broker f (Learn n stamp committed) = refl
  known-same None k f (Hear n) = refl
  known-same (Some t) k f (Hear n) = refl
  known-same last k f (Gate n) = refl
  known-same last k f (Crash n kept) = refl
  known-same last k f (Down n cause) = refl
  known-same last k f (Tick moment) = refl

  known-walk : (h : Hall) (es : List Entry) (n : NodeId) → ((walk_from b h es).flags n).known ≡ (h.flags n).known
  unfolding walk_from
  known-walk h [] n = refl
  known-walk h (e ∷ es) n = known-walk (step b h e) es n
      ∙ at-if (λ (f : Flags). f.known ≡ (h.flags n).known) (names n e && (h.flags n).known) (flagged h.last n.kind (h.flags n) e) (h.flags n) (λ _. known-same h.last n.kind (h.flags n) e) refl

  up-back : (h : Hall) (es : List Entry) (n : NodeId) → ((walk_from b h es).flags n).up ≡ true → (h.flags n).up ≡ true
  unfolding walk_from
  up-back h [] n up = up
  up-back h (e ∷ es) n up = at-if (λ (f : Flags). f.up ≡ true → (h.flags n).up ≡ true) (names n e && (h.flags n).known) (flagged h.last n.kind (h.flags n) e) (h.flags n)
      (λ _ now. flagged-up h.last n.kind (h.flags n) e now) (λ now. now) (up-back (step b h e) es n up)

  -- a member that is down stays as it was
  module _ (fates : List Fate) (s : MemberNumber) where
    at-rest : (h : Hall) (e : Entry) → (h.flags (member s)).up ≡ false → Rule b fates h e → (step b h e).members s ≡ h.members s
    at-rest h e off r = at-if (λ (m : Member). m ≡ h.members s) (names (member s) e) (member_on b h (h.members s) e) (h.members s) (λ is. kept e r is) refl
      where
        named : (n : NodeId) → same_node n (member s) ≡ true → (h.flags n).up ≡ true → ⊥
        named n is up = clash (h.flags (member s)).up off (subst (λ z. (h.flags z).up ≡ true) (same_is n (member s) is) up)

        kept : (e : Entry) → Rule b fates h e → names (member s) e ≡ true → member_on b h (h.members s) e ≡ h.members s
        kept (Take n number) r is = absurd (named n is r.up)
        kept (Go n) r is = refl
        kept (Learn n stamp committed) r is = absurd r
        kept (Hear n) r is = absurd (named n is r.up)
        kept (Gate n) r is = absurd (named n is r.up)
        kept (Crash n k) r is = absurd (named n is r.1.up)
        kept (Down n cause) r is = refl
        kept (Tick moment) r is = refl

    off-stays : (h : Hall) (e : Entry) → (h.flags (member s)).up ≡ false → ((step b h e).flags (member s)).up ≡ false
    off-stays h e off = go ((step b h e).flags (member s)).up refl
      where
        go : (t : Bool) → ((step b h e).flags (member s)).up ≡ t → ((step b h e).flags (member s)).up ≡ false
        go true up = absurd (clash (h.flags (member s)).up off (at-if (λ (f : Flags). f.up ≡ true → (h.flags (member s)).up ≡ true) (names (member s) e && (h.flags (member s)).known)
            (flagged h.last (member s).kind (h.flags (member s)) e) (h.flags (member s)) (λ _ now. flagged-up h.last (member s).kind (h.flags (member s)) e now) (λ now. now) up))
        go false up = up

    rests : (h : Hall) (es : List Entry) → (h.flags (member s)).up ≡ false → Meets b fates h es → (walk_from b h es).members s ≡ h.members s
    unfolding Meets walk_from
    rests h [] off m = refl
    rests h (e ∷ es) off m = rests (step b h e) es (off-stays h e off) m.1 ∙ at-rest h e off m.0

    -- nor does it change when it goes down
    falls-still : (h : Hall) (cause : DownCause) (es : List Entry) → (h.flags (member s)).known ≡ true → Meets b fates h (Down (member s) cause ∷ es) → (walk_from b h (Down (member s) cause ∷ es)).members s ≡ h.members s
    unfolding Meets walk_from
    falls-still h cause es known m =
        rests (step b h (Down (member s) cause)) es
        (ap (λ z. (if z && (h.flags (member s)).known then flagged h.last (member s).kind (h.flags (member s)) (Down (member s) cause) else h.flags (member s)).up) (same_node-refl (member s))
        ∙ ap (λ z. (if z then flagged h.last (member s).kind (h.flags (member s)) (Down (member s) cause) else h.flags (member s)).up) known) m.1
        ∙ at-if (λ (k : Member). k ≡ h.members s) (names (member s) (Down (member s) cause)) (h.members s) (h.members s) (λ _. refl) refl

-- ---- why a member is down

cause-first : (of : NodeId → Bool) (n : NodeId) (front rest : List Entry) (cause : DownCause) → of n ≡ true → Clear of front → down_cause n (front ++ Down n cause ∷ rest) ≡ Some cause
cause-first of n [] rest cause mine c = ap (λ t. if t then Some cause else down_cause n rest) (same_node-refl n)
cause-first of n (Take m number ∷ front) rest cause mine c = cause-first of n front rest cause mine c.1
cause-first of n (Go m ∷ front) rest cause mine c = cause-first of n front rest cause mine c.1
cause-first of n (Learn m stamp committed ∷ front) rest cause mine c = cause-first of n front rest cause mine c.1
cause-first of n (Hear m ∷ front) rest cause mine c = cause-first of n front rest cause mine c.1
cause-first of n (Gate m ∷ front) rest cause mine c = cause-first of n front rest cause mine c.1
cause-first of n (Crash m kept ∷ front) rest cause mine c = cause-first of n front rest cause mine c.1
cause-first of n (Down m other ∷ front) rest cause mine c = go (same_node m n) refl (cause-first of n front rest cause mine c.1)
  where
    go : (t : Bool) → same_node m n ≡ t → down_cause n (front ++ Down n cause ∷ rest) ≡ Some cause → (if t then Some other else down_cause n (front ++ Down n cause ∷ rest)) ≡ Some cause
    go true is later = absurd (clash (of m) c.0 (ap of (same_is m n is) ∙ mine))
    go false is later = later
cause-first of n (Tick moment ∷ front) rest cause mine c = cause-first of n front rest cause mine c.1

-- a Down before all that is none comes before a Crash
down-before : (xs front rest more : List Entry) (x : Entry) (n : NodeId) (kept : ℕ) → IsOfDowns xs → is_down x ≡ true → xs ++ x ∷ more ≡ front ++ Crash n kept ∷ rest → (middle : List Entry) × (front ≡ xs ++ x ∷ middle)
down-before [] [] rest more x n kept d is e = let same : x ≡ Crash n kept = cc e in absurd (clash (is_down x) (ap is_down same) is)
down-before [] (y ∷ front) rest more x n kept d is e = let same : x ≡ y = cc e in (front, ap (λ z. z ∷ front) (sym same))
down-before (z ∷ xs) [] rest more x n kept d is e = let same : z ≡ Crash n kept = cc e in absurd (clash (is_down z) (ap is_down same) d.0)
down-before (z ∷ xs) (y ∷ front) rest more x n kept d is e =
    let same : z ≡ y = cc e in
    let tail : xs ++ x ∷ more ≡ front ++ Crash n kept ∷ rest = cc e in
    let r : (middle : List Entry) × (front ≡ xs ++ x ∷ middle) = down-before xs front rest more x n kept d.1 is tail in
    (r.0, ap (λ q. y ∷ q) r.1 ∙ ap (λ q. q ∷ (xs ++ x ∷ r.0)) (sym same))

-- ---- all of it

ok-log : (a b : List Effect) → ◌≡◌ {A = Result (List Effect) ℕ} (Ok a) (Ok b) → a ≡ b
ok-log a b e = cc e

ok-err : (a : List Effect) (page : ℕ) → ◌≡◌ {A = Result (List Effect) ℕ} (Ok a) (Err page) → ⊥
ok-err a page e = cc e

tick-none : (e : Entry) → is_tick e ≡ false → ◌≡◌ {A = ℕ} (cond (is_tick e) 1 0) 0
tick-none (Tick moment) h = absurd (clash true h refl)
tick-none e h = refl

tick-more : (e : Entry) (es : List Entry) → tick_count (e ∷ es) ≡ cond (is_tick e) 1 0 + tick_count es
tick-more e es = sum_by-cons (λ (x : Entry). cond (is_tick x) 1 0) e es

no-ticks : (es : List Entry) → Every (λ (e : Entry). is_tick e ≡ false) es → tick_count es ≡ 0
no-ticks [] h = refl
no-ticks (e ∷ es) h = let more = tick-more e es in let rest = no-ticks es h.1 in let one = tick-none e h.0 in omega (arith, more, rest, one)

same-length : {X Y Z : Type 0} (f : X → Z) (g : Y → Z) (xs : List X) (ys : List Y) → map f xs ≡ map g ys → length xs ≡ length ys
same-length f g xs ys e = sym (length-map xs f) ∙ ap length e ∙ length-map ys g

module _ {M : Type 0} (w : Media M) (most_ticks enough : ℕ) (lines : List Line) (asked : List Asked) (media left : MemberNumber → Option M) (t : Trace) (tells : IsTrue w.tells) (legal : Legal lines asked t)
    (ended : HasEnded most_ticks enough lines t) (logs : RestoresLogs w lines media left t) (counts : AreCounted w lines media left t) (downs : AreDownFor w lines media left t) where
  abbrev b : Base
  b = base_of lines t

  abbrev fates : List Fate
  fates = fates_of t.sent

  abbrev Sound : MemberNumber → Type 0
  Sound s = IsSound w lines media left s

  -- ---- a sound medium's member

  opened : (s : MemberNumber) → Sound s → WasNotOpened t.entries (member s) → ⊥
  opened s x out = why (downs.unopened s out)
    where
      why : (down_cause (member s) t.entries ≡ Some down.Medium) ⊎ ((page : ℕ) × (down_cause (member s) t.entries ≡ Some (down.Damaged page))) → ⊥
      why (inl e) = x.calm (counts.unopened s x.old x.new out e x.became)
      why (inr (page, e)) = ok-err [] page (sym (blank-none (w.reads x.old) x.blank) ∙ (downs.damaged s x.old x.new page e x.became).1)

  costless : (s : MemberNumber) → Sound s → costs (own (member s) t.entries) ≡ 0
  costless s x = go (costs (own (member s) t.entries)) (counts.opened s x.old x.new (opened s x) x.became)
    where
      go : (c : ℕ) → RoseBy c (w.faults x.old) (w.faults x.new) → c ≡ 0
      go zero r = refl
      go (suc c) r = absurd (x.calm (rise_of_fewer 1 (suc c) (w.faults x.old) (w.faults x.new) (omega arith) r))

  blank-log : (s : MemberNumber) → Sound s → log_at t.opened s ≡ []
  blank-log s x =
      let o : (old : M) × (new : M) × ((media s ≡ Some old) × (left s ≡ Some new)) × (IsTrue w.tells → KeepsLog w lines t s old new) = logs.opened s (opened s x) in
      let same : o.0 ≡ x.old = some-one (media s) o.0 x.old o.2.0 x.became.0 in
      ok-log (log_at t.opened s) [] (sym (o.3 tells).opened ∙ ap (λ m. storage (w.reads m)) same ∙ blank-none (w.reads x.old) x.blank)

  starts-up : (s : MemberNumber) → ((start_hall b).flags (member s)).up ≡ true
  starts-up s = legal.nodes.just (member s) ∙ member-within s (length lines)

  starts-known : (s : MemberNumber) → ((start_hall b).flags (member s)).known ≡ true
  starts-known s = legal.nodes.just (member s) ∙ member-within s (length lines)

  -- ---- where none of these was stopped

  module _ (of : NodeId → Bool) (polls : length lines ≤ 16) (plain : Every IsPlain fates) (sound-of : (s : MemberNumber) → of (member s) ≡ true → Sound s) (quorum : (h : Hall) → ((s : MemberNumber) → of (member s) ≡ true → IsFit t.opened h s) → HasQuorum lines t.opened h)
      (out-of : (s : MemberNumber) → of (member s) ≡ false → WasNotOpened t.entries (member s)) where
    fit : (front : List Entry) → Clear of front → (s : MemberNumber) → of (member s) ≡ true → IsFit t.opened (walk b front) s
    fit front clear s mine = (up-clear b of (member s) mine (start_hall b) front clear (starts-up s), blank-log s (sound-of s mine))

    calm : (front rest : List Entry) → t.entries ≡ front ++ rest → Clear of front → IsCalm lines t front
    calm front rest is clear = record { rest = rest; is = is; plain = plain; sound = crash-free of front clear; quorum = quorum (walk b front) (fit front clear) }

    module _ (f : FirstStop of t.entries) where
      whole : Meets b fates (start_hall b) (f.front ++ f.entry ∷ f.rest)
      whole = subst (Meets b fates (start_hall b)) f.is legal.meets

      parts : Meets b fates (start_hall b) f.front × Meets b fates (walk_from b (start_hall b) f.front) (f.entry ∷ f.rest)
      parts = meets-parts b fates (start_hall b) f.front (f.entry ∷ f.rest) whole

      abbrev here : Hall
      here = walk_from b (start_hall b) f.front

      rule : (h : Hall) (e : Entry) (es : List Entry) → Meets b fates h (e ∷ es) → Rule b fates h e
      unfolding Meets
      rule h e es m = m.0

      which : (n : NodeId) → is_broker n.kind ≡ false → (here.flags n).up ≡ true → (s : MemberNumber) × (n ≡ member s)
      which n is up = node-member n.kind n.number (length lines) is (sym (legal.nodes.just n) ∙ up-back b (start_hall b) f.front n up)

      -- a member that wasn't opened isn't up where a node crashes
      out-off : (s : MemberNumber) (n : NodeId) (kept : ℕ) → f.entry ≡ Crash n kept → WasNotOpened t.entries (member s) → (here.flags (member s)).up ≡ true → ⊥
      out-off s n kept crash (xs, more, cause, is, all) up =
          let e : xs ++ Down (member s) cause ∷ more ≡ f.front ++ Crash n kept ∷ f.rest = sym is ∙ f.is ∙ ap (λ z. f.front ++ z ∷ f.rest) crash in
          let r : (middle : List Entry) × (f.front ≡ xs ++ Down (member s) cause ∷ middle) = down-before xs f.front f.rest more (Down (member s) cause) n kept all refl e in
          let off = (unopened-from b fates s xs r.0 cause all (subst (Meets b fates (start_hall b)) r.1 parts.0)).down in
          clash (here.flags (member s)).up (ap (λ z. ((walk_from b (start_hall b) z).flags (member s)).up) r.1 ∙ off) up

      dear : (s : MemberNumber) → Sound s → (e : Entry) → f.entry ≡ e → names (member s) e ≡ true → 1 ≤ cost_of e → ⊥
      dear s x e is named some =
          let among : cost_of e ≤ costs (own (member s) (f.front ++ e ∷ f.rest)) = cost-among (member s) f.front f.rest e named in
          let all : costs (own (member s) t.entries) ≡ costs (own (member s) (f.front ++ e ∷ f.rest)) = ap (λ z. costs (own (member s) z)) (f.is ∙ ap (λ z. f.front ++ z ∷ f.rest) is) in
          let none : costs (own (member s) t.entries) ≡ 0 = costless s x in
          absurd (omega (arith, among, all, none, some))

      crashes : (n : NodeId) (kept : ℕ) → f.entry ≡ Crash n kept → is_broker n.kind ≡ false → (here.flags n).up ≡ true → ⊥
      crashes n kept is repo up = by (which n repo up)
        where
          by : (s : MemberNumber) × (n ≡ member s) → ⊥
          by (s, same) = go (of (member s)) refl
            where
              go : (v : Bool) → of (member s) ≡ v → ⊥
              go true mine = dear s (sound-of s mine) (Crash n kept) is (ap (λ z. same_node z (member s)) same ∙ same_node-refl (member s)) (omega arith)
              go false mine = out-off s n kept is (out-of s mine) (subst (λ z. (here.flags z).up ≡ true) same up)

      -- no medium is full
      full : (s : MemberNumber) (x : Sound s) (pages : ℕ) → of (member s) ≡ true → f.entry ≡ Down (member s) (down.Full pages) → ⊥
      full s x pages mine is =
          let at : t.entries ≡ f.front ++ Down (member s) (down.Full pages) ∷ f.rest = f.is ∙ ap (λ z. f.front ++ z ∷ f.rest) is in
          let cause : down_cause (member s) t.entries ≡ Some (down.Full pages) = ap (down_cause (member s)) at ∙ cause-first of (member s) f.front f.rest (down.Full pages) mine f.clear in
          let why = downs.full s x.old x.new pages cause x.became in
          let grown : HasGrown [] (w.reads x.old) (w.reads x.new) = downs.grows s x.old x.new (costless s x) x.became [] (blank-none (w.reads x.old) x.blank) in
          let same : grown.more ≡ gated_log lines t s = ok-log grown.more (gated_log lines t s) (sym grown.is ∙ why.1) in
          let known : (here.flags (member s)).known ≡ true = known-walk b (start_hall b) f.front (member s) ∙ starts-known s in
          let still : (hall_after lines t).members s ≡ here.members s =
          ap (λ z. (walk_from b (start_hall b) z).members s) at ∙ ap (λ (h : Hall). h.members s) (walk-append b (start_hall b) f.front (Down (member s) (down.Full pages) ∷ f.rest))
          ∙ falls-still b fates s here (down.Full pages) f.rest known (subst (λ z. Meets b fates here (z ∷ f.rest)) is parts.1) in
          let now : IsCalm lines t f.front = calm f.front (f.entry ∷ f.rest) f.is f.clear in
          let short : length (all_effects (here.members s)) ≤ 2 * length lines = short-logs lines asked t f.front legal now ended.wanted s (blank-log s x) in
          let votes : AreVotes (all_effects (here.members s)) = votes-alone lines asked t f.front legal now ended.wanted s (blank-log s x) in
          let all : all_effects (here.members s) ≡ gated_log lines t s ++ open_effects lines t s = ap all_effects (sym still) in
          let few : length (gated_log lines t s ++ open_effects lines t s) ≤ 2 * length lines = subst (λ z. length z ≤ 2 * length lines) all short in
          let fill : pages_apart (gated_log lines t s ++ open_effects lines t s) ≤ length (gated_log lines t s ++ open_effects lines t s) = votes-fill (gated_log lines t s ++ open_effects lines t s) (subst AreVotes all votes) in
          let sum : pages_apart (gated_log lines t s ++ open_effects lines t s) ≡ pages_apart (gated_log lines t s) + pages_apart (open_effects lines t s) = apart-append (gated_log lines t s) (open_effects lines t s) in
          let stored : count_by is_blank (w.reads x.old) ≤ count_by is_blank (w.reads x.new) + pages_apart (gated_log lines t s) = subst (λ z. count_by is_blank (w.reads x.old) ≤ count_by is_blank (w.reads x.new) + pages_apart z) same grown.pages in
          let room : length (w.reads x.old) ≤ count_by is_blank (w.reads x.old) = blank-count (w.reads x.old) x.blank in
          let wanted = why.2 in
          let last = filling-apart (open_effects lines t s) in
          let large = x.large in
          absurd (omega (arith, few, fill, sum, stored, room, wanted, last, large, polls))

      falls : (n : NodeId) (cause : DownCause) → f.entry ≡ Down n cause → of n ≡ true → is_broker n.kind ≡ false → (here.flags n).up ≡ true → ⊥
      falls n cause is mine repo up = by (which n repo up)
        where
          by : (s : MemberNumber) × (n ≡ member s) → ⊥
          by (s, same) = why cause (is ∙ ap (λ z. Down z cause) same) (sym (ap of same) ∙ mine)
            where
              at-cause : (c : DownCause) → f.entry ≡ Down (member s) c → of (member s) ≡ true → down_cause (member s) t.entries ≡ Some c
              at-cause c entry own = ap (down_cause (member s)) (f.is ∙ ap (λ z. f.front ++ z ∷ f.rest) entry) ∙ cause-first of (member s) f.front f.rest c own f.clear

              why : (c : DownCause) → f.entry ≡ Down (member s) c → of (member s) ≡ true → ⊥
              why down.Medium entry own = dear s (sound-of s own) (Down (member s) down.Medium) entry (same_node-refl (member s)) (omega arith)
              why (down.Damaged page) entry own = opened s (sound-of s own) (downs.damaged s (sound-of s own).old (sound-of s own).new page (at-cause (down.Damaged page) entry own) (sound-of s own).became).0
              why (down.Full pages) entry own = full s (sound-of s own) pages own entry

      never : (e : Entry) → f.entry ≡ e → stops of e ≡ true → Rule b fates here e → ⊥
      never (Crash n kept) is stop r = crashes n kept is r.0 r.1.up
      never (Down n cause) is stop r = falls n cause is stop r.0 r.1.up
      never (Take n number) is stop r = clash false refl stop
      never (Go n) is stop r = clash false refl stop
      never (Learn n stamp committed) is stop r = clash false refl stop
      never (Hear n) is stop r = clash false refl stop
      never (Gate n) is stop r = clash false refl stop
      never (Tick moment) is stop r = clash false refl stop

      no-stop : ⊥
      no-stop = never f.entry refl f.stop (rule here f.entry f.rest parts.1)

    all-clear : Clear of t.entries
    all-clear = by (first-stop of t.entries)
      where
        by : Clear of t.entries ⊎ FirstStop of t.entries → Clear of t.entries
        by (inl c) = c
        by (inr f) = absurd (no-stop f)

    calm-all : IsCalm lines t t.entries
    calm-all = calm t.entries [] (sym (append-nil t.entries)) all-clear

    pub come-through : 192 < enough → (tick_count t.entries ≡ 0) × AllHold lines t
    come-through most = (no-ticks t.entries (all-still t.entries (all-quiet lines asked t t.entries legal calm-all ended.wanted)), by ended.why)
      where
        by : AllHold lines t ⊎ ((enough ≤ length t.sent) ⊎ HasRunOut most_ticks lines t) → AllHold lines t
        by (inl all) = all
        by (inr (inl sent)) =
            let few : length (walk b t.entries).sendings ≤ 12 * length lines = few-letters lines asked t t.entries legal calm-all ended.wanted in
            let same : length t.sent ≡ length (walk b t.entries).sendings = same-length post_of (λ (s : Sending). s.post) t.sent (walk b t.entries).sendings legal.sent in
            absurd (omega (arith, few, same, sent, most, polls))
        by (inr (inr out)) = idle-holds lines asked t t.entries legal calm-all ended.wanted out.0

  -- ---- which members are sound

  same-member : (s k : MemberNumber) → (s ≡ k → ⊥) ⊎ (s ≡ k)
  same-member First First = inr refl
  same-member First Second = inl (λ e. let z : First ≡ Second = e in cc z)
  same-member First Third = inl (λ e. let z : First ≡ Third = e in cc z)
  same-member Second First = inl (λ e. let z : Second ≡ First = e in cc z)
  same-member Second Second = inr refl
  same-member Second Third = inl (λ e. let z : Second ≡ Third = e in cc z)
  same-member Third First = inl (λ e. let z : Third ≡ First = e in cc z)
  same-member Third Second = inl (λ e. let z : Third ≡ Second = e in cc z)
  same-member Third Third = inr refl

  abbrev but : MemberNumber → NodeId → Bool
  but out n = not (same_node n (member out))

  but-out : (out s : MemberNumber) → but out (member s) ≡ true → s ≢ out
  but-out out s mine same = clash (but out (member s)) (ap (λ z. not (same_node (member z) (member out))) same ∙ ap not (same_node-refl (member out))) mine

  but-other : (out s : MemberNumber) → s ≢ out → but out (member s) ≡ true
  but-other out s apart = ap not (apart-nodes s out apart)

  pub completes : IsSmooth w lines media left enough t → (tick_count t.entries ≡ 0) × AllHold lines t
  completes smooth = by smooth.sound
    where
      by : AreSound w lines media left t → (tick_count t.entries ≡ 0) × AllHold lines t
      by (inl all) = come-through (λ n. true) smooth.polls smooth.plain (λ s mine. all s) (λ h fit. inl (λ s. fit s refl)) (λ s mine. absurd (clash true mine refl)) smooth.few
      by (inr (out, sound, unopened, alike)) =
          come-through (but out) smooth.polls smooth.plain (λ s mine. sound s (but-out out s mine)) (λ h fit. inr (out, (λ s apart. fit s (but-other out s apart)), alike))
          (λ s mine. elim (same-member s out) [
            | inl apart ↦ absurd (clash (but out (member s)) mine (but-other out s apart))
            | inr same ↦ subst (λ z. WasNotOpened t.entries (member z)) (sym same) unopened
          ]) smooth.few
