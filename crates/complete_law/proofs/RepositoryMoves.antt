-- The entries at which a repository takes a turn: it learns a decision, or it takes a message.
use Rattle.complete_law.proofs.Names.{Every, Has, has-left, every-has, has-right, StampParts, TimeParts, NodeId, NodeKind, ObjectId, Effect, Message, Out, Post, post, eq-from, Fate, ToRead, HeldRead, Hand, now, accepts, is_broker_of, on_learn, on_message, waits_for, known, hand_at, HasBegun, HeldHolds, broker-is, and-left, and-right, begun-fine, on-learn-fine, take-fine, Ignored, row, news, desk_at, state, book, tries, stage, repository, broker, one-request, Base, Flags, Life, World, sent_by, step, all_effects, MayTake, LogFacts, Refines, logs_at, kind_post, node_turns, node_facts, SentOk, each-has, every-of, node-laws, facts-of, Waits, read_to, Askers, Keeps, ask_of, tell_of, has-record, ◌≡◌, ◌⊎◌, ℕ, ◌==◌, Bool, true, false, List, [], ◌++◌, reverse, refl, sym, ◌∙◌, ap, subst, Option, Some, None, if◌then◌else◌, inl, inr, eq-eqb, false≢true, reverse-append, ReadSent, learned, on-learn-askers, on-message-askers, ask-serves}
use Rattle.pseudo_time.specs.declared.nodes.NodeKind.TheVariants as kind
use Rattle.effect_form.specs.declared.effects.Effect.TheVariants as effect
use Rattle.message_form.specs.declared.messages.Message.TheVariants as message
use Rattle.repository_laws.specs.AnyLogs.{RefusesRightly}
use Rattle.complete_law.proofs.Idles.{waits-has}
use Rattle.repository_laws.proofs.KnownSteps.{on-learn-known}
use Rattle.world_core.specs.declared.entries.Entry.TheVariants as entry
use Rattle.complete_law.proofs.BrokerMoves.{node-there}
use Rattle.complete_law.proofs.Frames.{came-sent, one-turn, take-turn}
use Rattle.complete_law.proofs.BrokerServices.{serves-broker}
use Rattle.repository_laws.proofs.ReadSteps.{Asks, begins, on-learn-keeps, on-message-keeps}
use Rattle.complete_law.proofs.Places.{log_of, held_of, AskedFor, Flying, Heeds, IsBegun, Placed, standing_in, tasks_of, CalmWorld}
use Rattle.complete_law.proofs.RepositoryEntries.{Turned, broker-life, hand-learns, hand-takes, life-hand, log-here, owed-flies, turned-calm, waits-there}

abbrev known-in : List Effect → StampParts → Option Bool
known-in = known

tell-known : (h : Hand) (s : StampParts) (c : Bool) → (x : Bool) × (known (now (on_message h (repository s.home) (message.Tell s c))) s ≡ Some x)
unfolding on_message
tell-known h s c = subst (λ t. (x : Bool) × (known (now (if t then on_learn h s c else h)) s ≡ Some x)) (sym (eq-eqb s.home s.home refl)) (on-learn-known s h c)

learned-known : (k : NodeKind) (x : Flags) → ((learned k x).up ≡ x.up) × ((learned k x).known ≡ x.known)
learned-known kind.Repository x = (refl, refl)
learned-known kind.Broker x = (refl, refl)

-- what a read waits for has begun at its home, with what isn't gated there
begun-whole : (b : Base) (w : World) (calm : CalmWorld b w) (f : Refines (node_turns b.script) (node_facts b.script) b (λ n. []) (λ n. []) [] (λ t. ⊥) w) (r : ℕ) (s : StampParts) → waits_for s (held_of w r) ≡ true → HasBegun s (log_of w (repository s.home))
begun-whole b w calm f r s u =
    let e = waits-has s (held_of w r) u in
    let wait : Waits (log_of w (repository r)) e.0 = calm.waits r e.0 e.1 in
    let l : Life = w.life (repository r) in
    let put : Has (effect.Put e.0.1.object wait.start wait.value) (reverse l.fresh ++ reverse l.gated) = subst (Has (effect.Put e.0.1.object wait.start wait.value)) (reverse-append l.gated l.fresh) wait.put in
    let cause = (each-has _ (reverse l.fresh ++ reverse l.gated) (effect.Put e.0.1.object wait.start wait.value) (node-there b w calm f (repository r) (opened-so (w.flags (repository r)).known refl)).proofs put).1 in
    let sent : Has (record { from = broker wait.start.stamp.broker; to = repository r; message = message.Write wait.start e.0.1.object wait.value }) (sent_by w) = subst (Has (record { from = broker wait.start.stamp.broker; to = repository r; message = message.Write wait.start e.0.1.object wait.value })) f.models.ever cause.0 in
    let mine : IsBegun w s = subst (IsBegun w) (wait.own ∙ e.2) (calm.said wait.start.stamp.broker (record { to = repository r; message = message.Write wait.start e.0.1.object wait.value }) (inr sent)) in
    let m : Life = w.life (repository s.home) in
    (mine.0, subst (Has (effect.Begin s mine.0)) (sym (reverse-append m.gated m.fresh)) (has-right (reverse m.fresh) (reverse m.gated) (effect.Begin s mine.0) mine.1))
  where
    opened-so : (c : Bool) → (w.flags (repository r)).known ≡ c → c ≡ true
    opened-so true q = refl
    opened-so false q = absurd (false≢true (sym (ap (λ (l : Life). waits_for s l.mind.hands.held) (calm.outside (repository r) q)) ∙ u))

module _ (b : Base) (w : World) (calm : CalmWorld b w) (f : Refines (node_turns b.script) (node_facts b.script) b (λ n. []) (λ n. []) [] (λ t. ⊥) w) (n : ℕ) where
  abbrev old : Hand
  old = hand_at n (log_of w (repository n)) (w.life (repository n)).mind.hands

  -- a Read that was sent to this repository, and who is to be answered
  abbrev pub R : TimeParts → ObjectId → NodeId → Type 0
  R t o from = ReadSent (sent_by w) n t o × (from ≡ broker t.stamp.broker)

  facts : LogFacts (node_facts b.script) b (logs_at (λ n. []) w) [] (sent_by w) (λ t. ⊥)
  facts = facts-of b.script (node_turns b.script) (node_facts b.script) (node-laws b.script) b (λ n. []) [] (λ t. ⊥) w f

  says : (from to : NodeId) (m : Message) → Has (record { from = from; to = to; message = m }) (sent_by w) → kind_post b.script (sent_by w) from.kind from.number (reverse (logs_at (λ n. []) w from)) (record { to = to; message = m })
  says from to m h = every-has (SentOk (node_facts b.script) (sent_by w) (λ k. reverse (logs_at (λ n. []) w k))) (sent_by w) (record { from = from; to = to; message = m }) facts.sent_ok h

  agree : (t : TimeParts) (o p : ObjectId) (x y : NodeId) → R t o x → R t p y → (o ≡ p) × (x ≡ y)
  agree t o p x y r s =
      let i : ℕ = t.stamp.broker in
      let a = (says (broker i) (repository n) (message.Read t o) r.0.0).2 in
      let c = (says (broker i) (repository n) (message.Read t p) s.0.0).2 in
      (cc (one-request b.script i (tries (book (reverse (logs_at (λ n. []) w (broker i))))) t (ToRead o) (ToRead p) a c), r.1 ∙ sym s.1)

  module _ (opened : (w.flags (repository n)).known ≡ true) where
    reads : Every (λ (e : TimeParts × HeldRead). R e.0 e.1.object e.1.from) (held_of w n)
    reads = subst (λ ever. Every (HeldHolds ever n) (held_of w n)) f.models.ever (node-there b w calm f (repository n) opened).mind_ok

    begun : Keeps R agree old (λ e. ⊥) (λ s. ⊥) old
    begun = begins R agree old reads (every-of (Waits (log_of w (repository n))) (held_of w n) (λ e h. calm.waits n e h))

    asked : Askers old old
    asked = record { kept = λ a i. inl i; undone = λ a i. calm.askers n a i }

    -- ---- it learns a decision

    module _ (s : StampParts) (committed : Bool) where
      abbrev h : Hand
      h = on_learn old s committed

      abbrev lw : World
      lw = step b w (entry.Learn (repository n) s committed)

      fine : RefusesRightly (sent_by w) n (log_of w (repository n)) h
      fine = on-learn-fine (sent_by w) n (log_of w (repository n)) old s committed (begun-fine (sent_by w) n (log_of w (repository n)) (w.life (repository n)).mind.hands reads)

      learn-turned : Turned w lw n h (λ p. ⊥)
      learn-turned = record {
        turn = one-turn b w calm (repository n) (entry.Learn (repository n) s committed) (λ m. refl) (calm.ups (repository n) ∙ opened) learned-known refl refl refl (life-hand (w.life (repository n)) h) (λ p. ⊥) (hand-learns b w n s committed)
            (λ o i. has-left (w.life (repository n)).outs h.outs o i) (λ j x at none. inl none) calm.untaken;
        past = fine.past;
        number = fine.number;
      }

      pub learn-calm : CalmWorld b lw
      learn-calm =
          turned-calm b w lw n h (λ p. ⊥) learn-turned calm R agree (on-learn-keeps R agree old old s committed begun) (on-learn-askers old old s committed asked)
          (λ p t. absurd t) (λ i o g e t. absurd t) (λ r x t u q. absurd t) (λ r x c t u. absurd t)

    -- ---- it takes a message

    module _ (k : ℕ) (fates : List Fate) (may : MayTake fates w (repository n) k) where
      abbrev from0 : NodeId
      from0 = may.sending.post.from

      abbrev m0 : Message
      m0 = may.sending.post.message

      abbrev th : Hand
      th = on_message old from0 m0

      abbrev tw : World
      tw = step b w (entry.Take (repository n) k)

      abbrev Taken : Post → Type 0
      Taken p = p ≡ record { from = from0; to = repository n; message = m0 }

      was-sent : Has (record { from = from0; to = repository n; message = m0 }) (sent_by w)
      was-sent = came-sent b w calm (repository n) k fates may

      t-fine : RefusesRightly (sent_by w) n (log_of w (repository n)) th
      t-fine = take-fine (sent_by w) n (log_of w (repository n)) old from0 m0 was-sent (begun-fine (sent_by w) n (log_of w (repository n)) (w.life (repository n)).mind.hands reads)

      take-turned : Turned w tw n th Taken
      take-turned = record {
        turn = take-turn b w calm (repository n) k fates may (life-hand (w.life (repository n)) th) (hand-takes b w n from0 m0) (λ o i. has-left (w.life (repository n)).outs th.outs o i);
        past = t-fine.past;
        number = t-fine.number;
      }

      -- a Read that is taken was sent by the broker of its attempt
      reads-so : accepts n from0 m0 ≡ true → Asks R agree old from0 m0
      reads-so e = go m0 e was-sent
        where
          go : (m : Message) → accepts n from0 m ≡ true → Has (record { from = from0; to = repository n; message = m }) (sent_by w) → Asks R agree old from0 m
          go (message.Read t o) e h =
              let own : from0 ≡ broker t.stamp.broker = broker-is t.stamp.broker from0 (and-left (is_broker_of t.stamp.broker from0) (o.repository == n) e) in
              ((subst (λ z. Has (record { from = z; to = repository n; message = message.Read t o }) (sent_by w)) own h, eq-from o.repository n (and-right (is_broker_of t.stamp.broker from0) (o.repository == n) e)), own)
          go _ e h = tt

      keeps : Keeps R agree old (λ e. ⊥) (λ s. ⊥) th
      keeps = on-message-keeps R agree old old from0 m0 reads-so begun

      -- the three services (open): a request that stands is answered or held; an Ask is kept or told; after a Tell nothing waits
      request-served : (i : ℕ) (o : Out) → (w.flags (broker i)).gone ≡ true → standing_in b w i ≡ Some o → Taken (post (broker i) o) → Placed b tw i o
      request-served i o g e t = serves-broker b w calm f n opened i o e at-n R agree
          (λ m has heeds. inr (inl (repository n, m, owed-flies b w tw n th Taken take-turned calm R agree (record { to = broker i; message = m }) (subst (λ z. Has (record { to = broker i; message = m }) z.outs) hand-is has), heeded m heeds)))
          (λ x y q own has. inr (inr (x, y, q, own, held-here x y q (subst (λ z. Has (x, y) z.held) hand-is has))))
          begun mine-so
        where
          from-is : broker i ≡ from0
          from-is = ap (λ (x : Post). x.from) t

          at-n : o.to ≡ repository n
          at-n = ap (λ (x : Post). x.to) t

          m-is : o.message ≡ m0
          m-is = ap (λ (x : Post). x.message) t

          was-sent' : Has (record { from = broker i; to = repository n; message = o.message }) (sent_by w)
          was-sent' = subst (λ z. Has (record { from = z; to = repository n; message = o.message }) (sent_by w)) (sym from-is) (subst (λ z. Has (record { from = from0; to = repository n; message = z }) (sent_by w)) (sym m-is) was-sent)

          mine-so : (x : TimeParts) (a : ObjectId) → o ≡ read_to x a → R x a (broker i)
          mine-so x a q =
              let said : Has (record { from = broker i; to = repository n; message = message.Read x a }) (sent_by w) = subst (λ (z : Out). Has (record { from = broker i; to = repository n; message = z.message }) (sent_by w)) q was-sent' in
              let own : x.stamp.broker ≡ i = (says (broker i) (repository n) (message.Read x a) said).0 in
              ((subst (λ z. Has (record { from = broker z; to = repository n; message = message.Read x a }) (sent_by w)) (sym own) said, ap (λ (z : NodeId). z.number) (ap (λ (z : Out). z.to) (sym q) ∙ at-n)), ap broker (sym own))

          hand-is : on_message old (broker i) o.message ≡ th
          hand-is = ap (λ z. on_message old z o.message) from-is ∙ ap (λ z. on_message old from0 z) m-is

          same-life : tw.life (broker i) ≡ w.life (broker i)
          same-life = broker-life b w tw n th Taken take-turned calm R agree i

          heeded : (m : Message) → Heeds b w i m → Heeds b tw i m
          heeded m = subst (λ (l : Life). row b.script (stage b.script b.run (state b.script i b.run (tasks_of b i) (desk_at (reverse (all_effects l)) l.mind.heard)) l.mind.heard) l.mind.heard (news m) ≡ Ignored → ⊥) (sym same-life)

          held-here : (x : TimeParts) (y : HeldRead) → o ≡ read_to x y.object → Has (x, y) th.held → Has (x, y) (held_of tw y.object.repository)
          held-here x y q h =
              let r : y.object.repository ≡ n = ap (λ (z : NodeId). z.number) (ap (λ (z : Out). z.to) (sym q) ∙ at-n) in
              subst (λ z. Has (x, y) (held_of tw z)) (sym r) (subst (λ (l : Life). Has (x, y) l.mind.hands.held) (sym take-turned.turn.here) h)

      ask-served : (r : ℕ) (s : StampParts) → Taken (post (repository r) (ask_of s)) → waits_for s (held_of w r) ≡ true → (s.home == r) ≡ false → AskedFor tw r s
      ask-served r s t u q =
          let from-is : from0 ≡ repository r = sym (ap (λ (x : Post). x.from) t) in
          let m-is : m0 ≡ message.Ask s = sym (ap (λ (x : Post). x.message) t) in
          let home : s.home ≡ n = ap (λ (x : NodeId). x.number) (ap (λ (x : Post). x.to) t) in
          let begun : HasBegun s (log_of w (repository n)) = subst (λ z. HasBegun s (log_of w (repository z))) home (begun-whole b w calm f r s u) in
          let serves = ask-serves old r s home (has-record (log_of w (repository n)) s begun.0 begun.1) in
          let in-hand : Has (record { repository = r; stamp = s }) th.askers ⊎ ((c : Bool) × Has (tell_of (record { repository = r; stamp = s }) c) th.outs) =
          subst (λ z. Has (record { repository = r; stamp = s }) (on_message old z m0).askers ⊎ ((c : Bool) × Has (tell_of (record { repository = r; stamp = s }) c) (on_message old z m0).outs)) (sym from-is)
          (subst (λ m. Has (record { repository = r; stamp = s }) (on_message old (repository r) m).askers ⊎ ((c : Bool) × Has (tell_of (record { repository = r; stamp = s }) c) (on_message old (repository r) m).outs)) (sym m-is) serves) in
          elim in-hand [
            | inl a ↦ inr (inl (subst (λ z. Has (record { repository = r; stamp = s }) (tw.life (repository z)).mind.hands.askers) (sym home) (subst (λ (l : Life). Has (record { repository = r; stamp = s }) l.mind.hands.askers) (sym take-turned.turn.here) a)))
            | inr c ↦ inr (inr (c.0, subst (λ z. Flying tw (repository z) (tell_of (record { repository = r; stamp = s }) c.0)) (sym home) (owed-flies b w tw n th Taken take-turned calm R agree (tell_of (record { repository = r; stamp = s }) c.0) c.1)))
          ]

      tell-served : (r : ℕ) (s : StampParts) (c : Bool) → Taken (post (repository s.home) (tell_of (record { repository = r; stamp = s }) c)) → waits_for s (held_of tw r) ≡ true → ⊥
      tell-served r s c t u =
          let from-is : from0 ≡ repository s.home = sym (ap (λ (x : Post). x.from) t) in
          let m-is : m0 ≡ message.Tell s c = sym (ap (λ (x : Post). x.message) t) in
          let here : r ≡ n = ap (λ (x : NodeId). x.number) (ap (λ (x : Post). x.to) t) in
          let e = waits-has s (held_of tw r) u in
          let wait : Waits (log_of tw (repository r)) e.0 = waits-there b w tw n th Taken take-turned calm R agree keeps r e.0 e.1 in
          let unknown : known-in (log_of tw (repository n)) s ≡ None = subst (λ z. known-in (log_of tw (repository z)) s ≡ None) here (subst (λ z. known-in (log_of tw (repository r)) z ≡ None) e.2 wait.unknown) in
          let in-hand : known-in (now th) s ≡ None = subst (λ l. known-in l s ≡ None) (log-here b w tw n th Taken take-turned calm R agree) unknown in
          let told-so : known-in (now (on_message old (repository s.home) (message.Tell s c))) s ≡ None = subst (λ z. known-in (now (on_message old z (message.Tell s c))) s ≡ None) from-is (subst (λ m. known-in (now (on_message old from0 m)) s ≡ None) m-is in-hand) in
          let k = tell-known old s c in
          let clash : Some k.0 ≡ None = sym k.1 ∙ told-so in
          absurd (cc clash)

      pub take-calm-there : CalmWorld b tw
      take-calm-there =
          turned-calm b w tw n th Taken take-turned calm R agree keeps (on-message-askers old old from0 m0 asked)
          (λ p t. ap (λ (x : Post). x.to) t) request-served ask-served tell-served
