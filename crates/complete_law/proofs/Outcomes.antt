-- Of a broker that is done each act is over: no attempt expired, as no moment was ticked.
use Rattle.complete_law.proofs.Names.{Every, Has, every-append, every-left, every-right, every-has, StampParts, NodeId, NodeKind, Outcome, InRange, Act, Book, Try, book, tries, tries_of, calls_again, is_none, keep, stage, standing, broker, repository, EndsBy, EndCame, IsPlayed, IsProven, TurnHolds, kept, played, proven, Base, Life, World, sent_by, base_of, LogFacts, logs_at, kind_post, node_turns, node_facts, node-laws, facts-of, CalmPlace, AllDone, book_at, log_at, world_at, each-has, in-range, ◌≡◌, ℕ, ◌≤◌, ◌==◌, nat_lt, Bool, true, false, ◌&&◌, length, List, [], ◌∷◌, ◌++◌, reverse, refl, sym, ◌∙◌, ap, subst, Option, Some, None, if◌then◌else◌, inl, inr, arith, common_steps, false≢true, ltb-false, has_outcome, outcome_by, all_over, HasOutcome, IsOver, tasks_at}
use Rattle.pseudo_time.specs.declared.decisions.Decision.TheVariants as decision
use Rattle.pseudo_time.specs.declared.nodes.NodeKind.TheVariants as kind
use Rattle.effect_form.specs.declared.effects.Effect.TheVariants as effect
use Rattle.effect_form.specs.declared.outcomes.Outcome.TheVariants as outcome
use Rattle.message_form.specs.declared.messages.Message.TheVariants as message
use Rattle.broker_laws.proofs.TestLemmas.{and-left, and-right}
use Rattle.world_core.specs.Walks as walks
use Rattle.complete_law.proofs.BrokerMoves.{turn-there}
use Rattle.complete_law.proofs.Hearings.{says}
use Rattle.complete_law.proofs.Places.{desk_of, tasks_of}
use Rattle.complete_law.proofs.Steps.{calm-there, facts-there}

-- ---- of plain books

-- an End that an attempt may have where no moment was ticked
abbrev IsFinal : Outcome → Type 0
IsFinal (outcome.Expired d m) = ⊥
IsFinal (outcome.Spent c) = ⊥
IsFinal o = Unit {0}

abbrev EndsFinal : Try → Type 0
EndsFinal t = (o : Outcome) → t.end ≡ Some o → IsFinal o

over-by : (a : Act) (t : Try) (ts : List Try) (o : Outcome) → a.tries ≡ t ∷ ts → IsFinal o → (calls_again (Some o) && nat_lt (length (t ∷ ts)) a.task.tries) ≡ false → IsOver a o
over-by a t ts (outcome.LaterRead o x) is f e = subst (λ us. a.task.tries ≤ length us) (sym is) (ltb-false (length (t ∷ ts)) a.task.tries e)
over-by a t ts (outcome.LaterVersion o x) is f e = subst (λ us. a.task.tries ≤ length us) (sym is) (ltb-false (length (t ∷ ts)) a.task.tries e)
over-by a t ts (outcome.Expired d m) is f e = f
over-by a t ts (outcome.Spent c) is f e = f
over-by a t ts o is f e = tt

act-over : (a : Act) → Every EndsFinal a.tries → has_outcome a ≡ true → HasOutcome a
act-over a final e = by-spent a.spent refl e
  where
    by-more : (t : Try) (ts : List Try) (o : Outcome) (c : Bool) → a.tries ≡ t ∷ ts → t.end ≡ Some o → (calls_again (Some o) && nat_lt (length (t ∷ ts)) a.task.tries) ≡ c → (if c then false else true) ≡ true → HasOutcome a
    by-more t ts o true is end q r = absurd (false≢true r)
    by-more t ts o false is end q r = inr (t, ts, o, is, end, over-by a t ts o is (every-has EndsFinal a.tries t final (subst (Has t) (sym is) (inl refl)) o end) q)

    by-end : (t : Try) (ts : List Try) (o : Option Outcome) → a.tries ≡ t ∷ ts → t.end ≡ o → (if is_none o then false else (if calls_again o && nat_lt (length (t ∷ ts)) a.task.tries then false else true)) ≡ true → HasOutcome a
    by-end t ts None is end r = absurd (false≢true r)
    by-end t ts (Some o) is end r = by-more t ts o (calls_again (Some o) && nat_lt (length (t ∷ ts)) a.task.tries) is end refl r

    by-spent : (s : Option ℕ) → a.spent ≡ s → (if is_none s then outcome_by a.task.tries a.tries else true) ≡ true → HasOutcome a
    by-spent None q r = (elim a.tries as (λ ts. a.tries ≡ ts → outcome_by a.task.tries ts ≡ true → HasOutcome a) [ [] ↦ λ is r. absurd (false≢true r) | t ∷ ts ↦ λ is r. by-end t ts t.end is refl r ]) refl r
    by-spent (Some c) q r = inl (c, q)

acts-over : (as' : List Act) → Every EndsFinal (tries_of as') → all_over as' ≡ true → Every HasOutcome as'
acts-over [] final e = tt
acts-over (a ∷ as') final e = (
  act-over a (every-left EndsFinal a.tries (tries_of as') final) (and-left (has_outcome a) (all_over as') e),
  acts-over as' (every-right EndsFinal a.tries (tries_of as') final) (and-right (has_outcome a) (all_over as') e),
)

pub own-tries : (P : Try → Type 0) (as' past : List Act) → Every P (tries_of (as' ++ past)) → Every P (tries_of as')
own-tries P [] past e = tt
own-tries P (a ∷ as') past e = every-append P a.tries (tries_of as') (every-left P a.tries (tries_of (as' ++ past)) e) (own-tries P as' past (every-right P a.tries (tries_of (as' ++ past)) e))

-- where the rules say that a broker is done, and its run is this one where it has acts
book-over : (run : ℕ) (b : Book) (n m : ℕ) (x : Bool) → nat_lt run b.run ≡ false → (nat_lt b.run run ≡ true → b.acts ≡ []) → Every EndsFinal (tries_of b.acts) →
    ((if b.run == run then (n == m) && all_over b.acts else m == 0) && x) ≡ true → Every HasOutcome b.acts
book-over run b n m x not-old early final e = go (b.run == run) refl (and-left (if b.run == run then (n == m) && all_over b.acts else m == 0) x e)
  where
    below : nat_lt run b.run ≡ false → (b.run == run) ≡ false → nat_lt b.run run ≡ true
    below h k = grind (arith, common_steps)

    go : (c : Bool) → (b.run == run) ≡ c → (if c then (n == m) && all_over b.acts else m == 0) ≡ true → Every HasOutcome b.acts
    go true q r = acts-over b.acts final (and-right (n == m) (all_over b.acts) r)
    go false q r = subst (λ as'. Every HasOutcome as') (sym (early (below not-old q))) tt

-- ---- at a place

module _ (p : CalmPlace) where
  abbrev base : Base
  base = base_of p.run.script p.run.plan p.run.trace

  abbrev w : World
  w = world_at p

  facts : LogFacts (node_facts base.script) base (logs_at (λ n. []) w) [] (sent_by w) (λ t. ⊥)
  facts = facts-of base.script (node_turns base.script) (node_facts base.script) (node-laws base.script) base (λ n. []) [] (λ t. ⊥) w (facts-there p)

  -- no message says that an attempt expired
  unexpired : (from to : NodeId) (s : StampParts) (d m : ℕ) → Has (record { from = from; to = to; message = message.Decided s (decision.Expired d m) }) (sent_by w) → ⊥
  unexpired from to s d m h = go from.kind from.number (says base w (calm-there p) facts from to (message.Decided s (decision.Expired d m)) h)
    where
      go : (kd : NodeKind) (i : ℕ) → kind_post base.script (sent_by w) kd i (reverse (logs_at (λ n. []) w (record { kind = kd; number = i }))) (record { to = to; message = message.Decided s (decision.Expired d m) }) → ⊥
      go kind.Repository i h = facts.ticked m (each-has _ (reverse (logs_at (λ n. []) w (repository i))) (effect.Decide s (decision.Expired d m)) (facts.proofs (repository i)) h).1
      go kind.Broker i h = h

  -- so no attempt of a broker did
  ends-final : (n : ℕ) (t : Try) → IsPlayed base.script t → IsProven n (sent_by w) t → EndsFinal t
  ends-final n t k c o e = go o (k.ends o e) (c.ends o e)
    where
      go : (o : Outcome) → EndsBy base.script t o → EndCame n (sent_by w) t o → IsFinal o
      go (outcome.Expired d m) k c = unexpired c.0 (broker n) t.stamp d m c.1
      go (outcome.Spent x) k c = k
      go o k c = tt

  -- the book of a broker that was opened is that of its log
  module _ (n : ℕ) (known : (w.flags (broker n)).known ≡ true) where
    turn : TurnHolds base.script n base.run (tasks_of base n) (sent_by w) (desk_of base w n)
    turn = turn-there base w (calm-there p) (facts-there p) n known

    pub book-is : book_at p n ≡ book (log_at p (broker n))
    book-is = ap book (kept base.script n base.run (tasks_of base n) (log_at p (broker n)) turn.desk.tidy turn.ready.same_plan)

    both-final : (ts : List Try) → Every (IsPlayed base.script) ts → Every (IsProven n (sent_by w)) ts → Every EndsFinal ts
    both-final [] k c = tt
    both-final (t ∷ ts) k c = (ends-final n t k.0 c.0, both-final ts k.1 c.1)

    all-final : Every EndsFinal (tries_of (book_at p n).acts)
    all-final = subst (λ (b : Book). Every EndsFinal (tries_of b.acts)) (sym book-is)
        (own-tries EndsFinal (book (log_at p (broker n))).acts (book (log_at p (broker n))).past
        (both-final (tries (book (log_at p (broker n)))) (played base.script n (log_at p (broker n)) turn.desk.tidy) (proven base.script n (sent_by w) (log_at p (broker n)) turn.desk.tidy turn.desk.causes)))

    in-plan : InRange p.run.plan.brokers n
    in-plan = in-range n p.run.plan.brokers (sym (p.run.legal.nodes.just (broker n)) ∙ sym ((facts-there p).models.known (broker n)) ∙ known)

    known-outcomes : AllDone p → Every HasOutcome (book_at p n).acts
    known-outcomes all =
        book-over base.run (book_at p n) (length (book_at p n).acts) (length (tasks_at p n)) (is_none (standing (stage base.script base.run (book_at p n) (w.life (broker n)).mind.heard)))
        turn.ready.not_old ((calm-there p).sound n).early all-final (all n in-plan)

  pub unknown-book : (n : ℕ) → (w.flags (broker n)).known ≡ false → (book_at p n).acts ≡ []
  unfolding keep book
  unknown-book n off = ap (λ (l : Life). (book (keep base.script n base.run (tasks_of base n) (reverse (walks.all_effects l)))).acts) ((calm-there p).outside (broker n) off)

  pub outcomes : AllDone p → (n : ℕ) → Every HasOutcome (book_at p n).acts
  outcomes all n = (elim (w.flags (broker n)).known as (λ c. (w.flags (broker n)).known ≡ c → Every HasOutcome (book_at p n).acts) [ true ↦ λ e. known-outcomes n e all | false ↦ λ e. subst (λ as'. Every HasOutcome as') (sym (unknown-book n e)) tt ]) refl
