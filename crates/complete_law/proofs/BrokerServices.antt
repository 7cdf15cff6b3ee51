-- A request that stands and is taken by its repository is answered, and heeded, or held.
use Rattle.std.proofs.lemmas.Option.{same_Some}
use Rattle.complete_law.proofs.Names.{Has, has-right, StampParts, TimeParts, same_stamp-self, Decision, NodeId, ObjectId, Message, Out, Grew, ToRead, ToWrite, HeldRead, Hand, record_of, accepts, on_message, hand_at, tidy-through, Heard, Ignored, Book, Try, book, find, open_try, time_of, tries, keep, news, row, Stage, Idle, Refused, Opening, Asking, Finishing, Closing, is_finished, nothing_heard, stage, standing, repository, broker, state, FitsLog, IsTidy, Clocks, IsBelow, PostHolds, TurnHolds, StageOk, open-first, stage-ok, each-found, kept, clocks, Base, Life, World, sent_by, all_effects, Refines, logs_at, soft_of, node_turns, node_facts, NodeOk, around, happened, node-laws, facts-of, read_to, standing_at, has-record, StageSound, stage-sound, Keeps, Serves, each-has, ◌≡◌, ℕ, ◌==◌, Bool, true, false, [], ◌∷◌, ◌++◌, reverse, refl, sym, ◌∙◌, ap, subst, Some, None, if◌then◌else◌, inl, inr, reverse-append, decided-stands, PostOk, standing-ok, on-message-serves}
use Rattle.commit_record.specs.declared.states.RecordState.TheVariants as records
use Rattle.effect_form.specs.declared.effects.Effect.TheVariants as effect
use Rattle.message_form.specs.declared.messages.Message.TheVariants as message
use Rattle.repository_laws.specs.Facts as repositories
use Rattle.complete_law.proofs.BrokerMoves.{node-there, turn-there}
use Rattle.complete_law.proofs.Answering.{heeds-read}
use Rattle.complete_law.proofs.Hearings.{open-closed}
use Rattle.complete_law.proofs.Places.{log_of, gated_of, Heeds, IsBegun, IsDecided, desk_of, standing_in, tasks_of, CalmWorld}
use Rattle.complete_law.proofs.RequestServices.{AnsweredBy, OpenDecided, accepted, begin-served, commit-served, withdraw-served, write-served}

module _ (b : Base) (w : World) (calm : CalmWorld b w) (f : Refines (node_turns b.script) (node_facts b.script) b (λ n. []) (λ n. []) [] (λ t. ⊥) w) (n : ℕ) (known-n : (w.flags (repository n)).known ≡ true) (i : ℕ) (o : Out) (stands : standing_in b w i ≡ Some o) (at-n : o.to ≡ repository n)
    (R : TimeParts → ObjectId → NodeId → Type 0) (agree : (t : TimeParts) (o p : ObjectId) (f g : NodeId) → R t o f → R t p g → (o ≡ p) × (f ≡ g)) where
  abbrev old : Hand
  old = hand_at n (log_of w (repository n)) (w.life (repository n)).mind.hands

  abbrev heard : Heard
  heard = (w.life (broker i)).mind.heard

  abbrev the-book : Book
  the-book = state b.script i b.run (tasks_of b i) (desk_of b w i)

  abbrev st : Stage
  st = stage b.script b.run the-book heard

  blank-stands : standing_at b.script i b.run (tasks_of b i) [] nothing_heard ≡ None
  unfolding keep book
  blank-stands = elim (0 == b.run) as (λ c. standing (if c then Idle else Idle) ≡ None) [ true ↦ refl | false ↦ refl ]

  known-i : (w.flags (broker i)).known ≡ true
  known-i = go (w.flags (broker i)).known refl
    where
      go : (c : Bool) → (w.flags (broker i)).known ≡ c → c ≡ true
      go true e = refl
      go false e =
          let s : standing_at b.script i b.run (tasks_of b i) [] nothing_heard ≡ Some o = subst (λ (l : Life). standing_at b.script i b.run (tasks_of b i) (reverse (all_effects l)) l.mind.heard ≡ Some o) (calm.outside (broker i) e) stands in
          let z : None ≡ Some o = sym blank-stands ∙ s in absurd (cc z)

  turn0 : TurnHolds b.script i b.run (tasks_of b i) (sent_by w) (desk_of b w i)
  turn0 = turn-there b w calm f i known-i

  counts : the-book ≡ book (log_of w (broker i))
  counts = ap book (kept b.script i b.run (tasks_of b i) (log_of w (broker i)) turn0.desk.tidy turn0.ready.same_plan)

  clock : Clocks i (book (log_of w (broker i)))
  clock = clocks b.script i (log_of w (broker i)) turn0.desk.tidy

  ok : StageOk b.script i b.run (tasks_of b i) the-book st
  ok = stage-ok b.script i b.run (tasks_of b i) the-book heard

  holds : PostHolds b.script i (tries the-book) (repository n) o.message
  holds = subst (λ z. PostHolds b.script i (tries the-book) z o.message) at-n
      (subst (PostOk b.script i b.run (tasks_of b i) (tries the-book)) stands (standing-ok b.script i b.run (tasks_of b i) the-book (subst (Clocks i) (sym counts) clock) st ok))

  node-n : NodeOk (node_facts b.script) (around (happened (node_turns b.script) f.events)) (repository n) (soft_of (w.life (repository n)))
  node-n = node-there b w calm f (repository n) known-n

  abbrev ln : Life
  ln = w.life (repository n)

  split-n : log_of w (repository n) ≡ reverse ln.fresh ++ reverse ln.gated
  split-n = reverse-append ln.gated ln.fresh

  tidy-n : repositories.IsTidy n (log_of w (repository n))
  tidy-n = subst (repositories.IsTidy n) (sym split-n) (tidy-through n (reverse ln.gated) (reverse ln.fresh) node-n.grew node-n.tidy)

  recorded : (s : StampParts) → IsBegun w s → s.home ≡ n → record_of (log_of w (repository n)) s ≡ None → ⊥
  recorded s h home = has-record (log_of w (repository n)) s h.0 (subst (Has (effect.Begin s h.0)) (sym split-n) (has-right (reverse ln.fresh) (reverse ln.gated) (effect.Begin s h.0) (subst (λ z. Has (effect.Begin s h.0) (gated_of w (repository z))) home h.1)))

  decided-so : (t : Try) → open_try the-book ≡ Some t → t.stamp.home ≡ n → (d : Decision) → record_of (log_of w (repository n)) t.stamp ≡ Some (records.Decided d) → OpenDecided b.script t d
  decided-so t open' home d e =
      let first = open-first b.script i b.run (tasks_of b i) the-book t open' in
      let all : tries (book (log_of w (broker i))) ≡ t ∷ first.0 = ap tries (sym counts) ∙ first.1 in
      let found : find t.stamp (tries (book (log_of w (broker i)))) ≡ Some t = subst (λ ts. find t.stamp ts ≡ Some t) (sym all) (rw (same_stamp-self t.stamp) refl) in
      let own : t.stamp.broker ≡ i = (each-found (IsBelow i (book (log_of w (broker i))).clock) t.stamp (tries (book (log_of w (broker i)))) t found clock).0.1 in
      let here : Has (effect.Decide t.stamp d) (log_of w (repository n)) = decided-stands n (log_of w (repository n)) t.stamp d tidy-n home e in
      let cause = (each-has _ (reverse ln.fresh ++ reverse ln.gated) (effect.Decide t.stamp d) node-n.proofs (subst (Has (effect.Decide t.stamp d)) split-n here)).1 in
      let closed : repositories.WasClosed (sent_by w) (happened (node_turns b.script) f.events).ticks n t.stamp d = subst (λ ever. repositories.WasClosed ever (happened (node_turns b.script) f.events).ticks n t.stamp d) f.models.ever cause in
      let l : Life = w.life (broker i) in
      let node-i : NodeOk (node_facts b.script) (around (happened (node_turns b.script) f.events)) (broker i) (soft_of (w.life (broker i))) = node-there b w calm f (broker i) known-i in
      let gated-known : reverse (logs_at (λ n. []) w (broker i)) ≡ reverse l.gated = ap (λ c. reverse (if c then (w.life (broker i)).gated else [])) known-i in
      let r = open-closed b w calm (facts-of b.script (node_turns b.script) (node_facts b.script) (node-laws b.script) b (λ n. []) [] (λ t. ⊥) w f) i
      (subst (IsTidy b.script i) (sym gated-known) node-i.tidy) (reverse l.fresh) (reverse-append l.gated l.fresh ∙ ap (λ z. reverse l.fresh ++ z) (sym gated-known))
      (subst (λ z. Grew (FitsLog b.script i) z (reverse l.fresh)) (sym gated-known) node-i.grew) t found first.2 own (happened (node_turns b.script) f.events).ticks (λ m h. f.models.ticked m h) d n closed in
      (r.0, ap is_finished r.1)

  -- the request is served
  module _ {P : Type 0} (answered : (m : Message) → Has (record { to = broker i; message = m }) (on_message old (broker i) o.message).outs → Heeds b w i m → P)
      (held : (x : TimeParts) (y : HeldRead) → o ≡ read_to x y.object → y.from ≡ broker i → Has (x, y) (on_message old (broker i) o.message).held → P)
      (begun : Keeps R agree old (λ e. ⊥) (λ s. ⊥) old) (mine : (x : TimeParts) (a : ObjectId) → o ≡ read_to x a → R x a (broker i)) where
    by-answer : (s : Stage) (z : Out) → st ≡ s → z ≡ o → AnsweredBy b.script s heard i (on_message old (broker i) z.message) → P
    by-answer s z q is r =
        answered r.0 (subst (λ (x : Out). Has (record { to = broker i; message = r.0 }) (on_message old (broker i) x.message).outs) is r.1) (subst (λ x. row b.script x heard (news r.0) ≡ Ignored → ⊥) (sym q) r.2)

    accept-of : (z : Out) → z ≡ o → accepts n (broker i) z.message ≡ true
    accept-of z is = subst (λ (x : Out). accepts n (broker i) x.message ≡ true) (sym is) (accepted b.script i n (tries the-book) o.message holds)

    home-of : (z : Out) → z ≡ o → z.to ≡ repository n
    home-of z is = ap (λ (x : Out). x.to) is ∙ at-n

    number-of : (r : ℕ) → repository r ≡ repository n → r ≡ n
    number-of r e = ap (λ (x : NodeId). x.number) e

    serve : (s : Stage) → st ≡ s → StageOk b.script i b.run (tasks_of b i) the-book s → StageSound b.script i b.run (tasks_of b i) (IsBegun w) (IsDecided w) s → standing s ≡ Some o → P
    serve (Refused t) q k g e = absurd g
    serve (Opening t) q k g e =
        let z : Out = record { to = repository t.stamp.home; message = message.Begin t.stamp t.task.timeout } in
        let is : z ≡ o = same_Some z o e in
        by-answer (Opening t) z q is (begin-served b.script heard old i t t.task.timeout (accept-of z is) (decided-so t k (number-of t.stamp.home (home-of z is))))
    serve (Asking t (ToRead a)) q k g e =
        let z : Out = record { to = repository a.repository; message = message.Read (time_of t) a } in
        let is : z ≡ o = same_Some z o e in
        read-served t a q is (on-message-serves R agree old old (broker i) (time_of t) a (accept-of z is) (mine (time_of t) a (sym is)) begun)
      where
        read-served : (t : Try) (a : ObjectId) → st ≡ Asking t (ToRead a) → (let z : Out = record { to = repository a.repository; message = message.Read (time_of t) a } in z ≡ o) → Serves (on_message old (broker i) (message.Read (time_of t) a)) (time_of t) a (broker i) → P
        read-served t a q is (inl h) = held (time_of t) (record { from = broker i; object = a; waits = h.0 }) (sym is) refl (subst (λ (x : Out). Has (time_of t, record { from = broker i; object = a; waits = h.0 }) (on_message old (broker i) x.message).held) is h.1)
        read-served t a q is (inr h) =
            answered h.0 (subst (λ (x : Out). Has (record { to = broker i; message = h.0 }) (on_message old (broker i) x.message).outs) is h.2) (subst (λ x. row b.script x heard (news h.0) ≡ Ignored → ⊥) (sym q) (heeds-read b.script t a heard h.0 h.1))
    serve (Asking t (ToWrite a v)) q k g e =
        let z : Out = record { to = repository a.repository; message = message.Write (time_of t) a v } in
        let is : z ≡ o = same_Some z o e in
        by-answer (Asking t (ToWrite a v)) z q is (write-served b.script heard old i t a v (accept-of z is))
    serve (Finishing t) q k g e =
        let z : Out = record { to = repository t.stamp.home; message = message.Commit t.stamp } in
        let is : z ≡ o = same_Some z o e in
        let home : t.stamp.home ≡ n = number-of t.stamp.home (home-of z is) in
        by-answer (Finishing t) z q is (commit-served b.script heard old i t (accept-of z is) (recorded t.stamp g home) (decided-so t k.0 home))
    serve (Closing t) q k g e =
        let z : Out = record { to = repository t.stamp.home; message = message.Withdraw t.stamp } in
        let is : z ≡ o = same_Some z o e in
        by-answer (Closing t) z q is (withdraw-served b.script heard old i t (accept-of z is) (recorded t.stamp g.0 (number-of t.stamp.home (home-of z is))))
    serve _ q k g e = absurd (cc e)

    pub serves-broker : P
    serves-broker = serve st refl ok (stage-sound b.script i b.run (tasks_of b i) (IsBegun w) (IsDecided w) heard the-book (calm.sound i)) stands
