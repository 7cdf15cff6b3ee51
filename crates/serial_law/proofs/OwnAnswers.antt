-- Each answer comes from the repository of the object that was asked for; one pseudotime carries one request; a read shows the reader's own last write.
use Rattle.serial_law.proofs.Names.{Every, Has, lt, same_stamp, StampParts, TimeParts, NodeId, NodeKind, Repository, Broker, every-has, same_stamp-of, ObjectId, Value, Effect, Message, Post, WasSent, Mark, Seen, alive, shows, views, value_of, Viewed, and-both, and-left, scan-passes, top-all, AtMost, Passes, Answer, Got, Stored, Request, ToRead, ToWrite, Asks, stop, marks, book, tries, broker, repository, IsAskOf, IsBelow, IsPlayed, IsProven, clocks, kind_post, asked_of, Position, TickedBefore, log_at, sent_before, world_at, alike, replaced, sent_earlier, base_of, sent_by, logs_at, some-log, ◌≡◌, inl, inr, ℕ, ◌+◌, ◌≤◌, ◌<◌, true, false, ◌||◌, List, [], ◌∷◌, ◌++◌, length, map, reverse, refl, sym, ◌∙◌, ap, subst, Option, Some, None, arith, length-append, or_right, same_Some, each-found, one-request, every-of, ViewedThere, viewed-there}
use Rattle.effect_form.specs.declared.effects.Effect.TheVariants as effect
use Rattle.effect_form.specs.declared.outcomes.Outcome.TheVariants as outcome
use Rattle.message_form.specs.declared.messages.Message.TheVariants as message
use Rattle.object_history.specs.declared.marks.Mark.TheVariants as mark
use Rattle.repository_laws.specs.Facts as repositories
use Rattle.broker_core.specs.Book.{Try, find}
use Rattle.broker_laws.specs.Posts.{IsFitting, at}
use Rattle.serial_law.specs.Answers.{brings, IsAnsweredThere, StoredBefore}
use Rattle.serial_law.proofs.Attempts.{found-try, found-in}
use Rattle.serial_law.proofs.Own.{front-short}
use Rattle.serial_law.proofs.Puts.{Picked, at-most, picked, put-stands, stands-put}
use Rattle.serial_law.proofs.Times.{inside, inside-high, inside-low}
use Rattle.serial_law.proofs.Traces.{place-facts, broker-tidy, stamps-apart, answers-asked, answers-sent, requests-right}

read-same : (o p : ObjectId) → ToRead o ≡ ToRead p → o ≡ p
read-same o p e = cc e

write-same : (o p : ObjectId) (v w : Value) → ToWrite o v ≡ ToWrite p w → (o ≡ p) × (v ≡ w)
write-same o p v w e = (cc e, cc e)

never-same : (o p : ObjectId) (v : Value) → ToRead o ≡ ToWrite p v → ⊥
never-same o p v e = cc e

asks-same : (q r : Request) → Asks q ≡ Asks r → q ≡ r
asks-same q r e = cc e

module _ (p : Position) where
  abbrev ever : List Post
  ever = sent_before p

  abbrev tries_at : ℕ → List Try
  tries_at b = tries (book (log_at p (broker b)))

  -- ---- one request for each pseudotime

  read-asks : (b : ℕ) (to : NodeId) (x : TimeParts) (o : ObjectId) → WasSent ever (broker b) to (message.Read x o) → IsAskOf p.script (tries_at b) x (ToRead o)
  read-asks b to x o h = (requests-right p b to (message.Read x o) h).2

  write-asks : (b : ℕ) (to : NodeId) (x : TimeParts) (o : ObjectId) (v : Value) → WasSent ever (broker b) to (message.Write x o v) → IsAskOf p.script (tries_at b) x (ToWrite o v)
  write-asks b to x o v h = (requests-right p b to (message.Write x o v) h).2

  pub one-read : (b : ℕ) (to two : NodeId) (x : TimeParts) (o u : ObjectId) → WasSent ever (broker b) to (message.Read x o) → WasSent ever (broker b) two (message.Read x u) → o ≡ u
  one-read b to two x o u h k = read-same o u (one-request p.script b (tries_at b) x (ToRead o) (ToRead u) (read-asks b to x o h) (read-asks b two x u k))

  pub one-write : (b : ℕ) (to two : NodeId) (x : TimeParts) (o u : ObjectId) (v w : Value) → WasSent ever (broker b) to (message.Write x o v) → WasSent ever (broker b) two (message.Write x u w) → (o ≡ u) × (v ≡ w)
  one-write b to two x o u v w h k = write-same o u v w (one-request p.script b (tries_at b) x (ToWrite o v) (ToWrite u w) (write-asks b to x o v h) (write-asks b two x u w k))

  pub read-or-write : (b : ℕ) (to two : NodeId) (x : TimeParts) (o u : ObjectId) (w : Value) → WasSent ever (broker b) to (message.Read x o) → WasSent ever (broker b) two (message.Write x u w) → ⊥
  read-or-write b to two x o u w h k = never-same o u w (one-request p.script b (tries_at b) x (ToRead o) (ToWrite u w) (read-asks b to x o h) (write-asks b two x u w k))

  -- ---- who answers

  abbrev Sent : NodeKind → ℕ → ℕ → Message → Type 0
  Sent k i b m = WasSent ever (record { kind = k; number = i }) (broker b) m

  -- a node's logs: its last one, and those that retirements replaced
  abbrev logs_of : NodeId → List (List Effect)
  logs_of n = log_at p n ∷ map reverse (replaced (alike p.script) p.past.0 n)

  -- what a message says holds of one of its sender's logs
  holds : (k : NodeKind) (i : ℕ) (b : ℕ) (m : Message) → Sent k i b m → (log : List Effect) × Has log (logs_of (record { kind = k; number = i })) × kind_post p.script ever k i log (record { to = broker b; message = m })
  holds k i b m h =
      some-log (λ log. kind_post p.script ever k i log (record { to = broker b; message = m })) (logs_of (record { kind = k; number = i }))
      (every-has _ ever (record { from = record { kind = k; number = i }; to = broker b; message = m }) (place-facts p).sent_ok h)

  module _ (b : ℕ) (t : Try) (mine : t.stamp.broker ≡ b) (found : find t.stamp (tries_at b) ≡ Some t) (pre post : List Answer) (is : t.answers ≡ pre ++ post) (q : Request) (asks : stop (p.script t.task.script) pre ≡ Asks q) where
    abbrev x : TimeParts
    x = at t.stamp (length pre + 1)

    -- the request there
    this : IsAskOf p.script (tries_at b) x q
    this = (t, found, (pre, post, is, refl, asks))

    read-is : (i : ℕ) (o : ObjectId) → repositories.ReadSent ever i x o → i ≡ (asked_of q).repository
    read-is i o sent =
        let same : q ≡ ToRead o = one-request p.script b (tries_at b) x q (ToRead o) this (read-asks b (repository i) x o (subst (λ z. WasSent ever (broker z) (repository i) (message.Read x o)) mine sent.0)) in
        sym sent.1 ∙ ap (λ z. (asked_of z).repository) (sym same)

    write-is : (i : ℕ) (o : ObjectId) (v : Value) → repositories.WriteSent ever i x o v → i ≡ (asked_of q).repository
    write-is i o v sent =
        let same : q ≡ ToWrite o v = one-request p.script b (tries_at b) x q (ToWrite o v) this (write-asks b (repository i) x o v (subst (λ z. WasSent ever (broker z) (repository i) (message.Write x o v)) mine sent.0)) in
        sym sent.1 ∙ ap (λ z. (asked_of z).repository) (sym same)

    abbrev There : Message → Type 0
    There m = WasSent ever (repository (asked_of q).repository) (broker b) m

    from-there : (i : ℕ) (m : Message) → i ≡ (asked_of q).repository → Sent Repository i b m → There m
    from-there i m e h = subst (λ z. WasSent ever (repository z) (broker b) m) e h

    got-there : (k : NodeKind) (i : ℕ) (v : Value) → Sent k i b (message.Value x v) → There (message.Value x v)
    got-there Repository i v h = let r = (holds Repository i b (message.Value x v) h).2 in from-there i (message.Value x v) (read-is i r.0 r.1) h
    got-there Broker i v h = absurd (holds Broker i b (message.Value x v) h).2

    stored-there : (k : NodeKind) (i : ℕ) → Sent k i b (message.Stored x) → There (message.Stored x)
    stored-there Repository i h = let r = (holds Repository i b (message.Stored x) h).2 in from-there i (message.Stored x) (write-is i r.0 r.1 r.2) h
    stored-there Broker i h = absurd (holds Broker i b (message.Stored x) h).2

    later-is : (i : ℕ) (log : List Effect) (o : ObjectId) (e : TimeParts) → repositories.WasReadLater ever i log o x e → i ≡ (asked_of q).repository
    later-is i log o e (inl r) = read-is i o r.0
    later-is i log o e (inr r) = write-is i o r.0 r.1

    read-there : (k : NodeKind) (i : ℕ) (e : TimeParts) → Sent k i b (message.LaterRead x e) → There (message.LaterRead x e)
    read-there Repository i e h = let r = holds Repository i b (message.LaterRead x e) h in from-there i (message.LaterRead x e) (later-is i r.0 r.2.0 e r.2.2) h
    read-there Broker i e h = absurd (holds Broker i b (message.LaterRead x e) h).2

    version-there : (k : NodeKind) (i : ℕ) (y : TimeParts) → Sent k i b (message.LaterVersion x y) → There (message.LaterVersion x y)
    version-there Repository i y h = let r = (holds Repository i b (message.LaterVersion x y) h).2 in from-there i (message.LaterVersion x y) (write-is i r.0 r.1 r.2) h
    version-there Broker i y h = absurd (holds Broker i b (message.LaterVersion x y) h).2

    answer-there : (a : Answer) → IsProven b ever t → (rest : List Answer) → t.answers ≡ pre ++ (a ∷ rest) → There (brings x a)
    answer-there (Got v) proven rest e = let h = proven.answers pre rest (Got v) e in got-there h.0.kind h.0.number v h.1
    answer-there Stored proven rest e = let h = proven.answers pre rest Stored e in stored-there h.0.kind h.0.number h.1

  module _ (b : ℕ) where
    own-broker : (t : Try) → Has t (tries_at b) → t.stamp.broker ≡ b
    own-broker t h = (every-has (IsBelow b (book (log_at p (broker b))).clock) (tries_at b) t (clocks p.script b (log_at p (broker b)) (broker-tidy p b)) h).1

    pub answered-there : (t : Try) → Has t (tries_at b) → IsAnsweredThere p.script b ever t
    answered-there t h =
        let found : find t.stamp (tries_at b) ≡ Some t = found-try (tries_at b) t (stamps-apart p b) h in
        let mine : t.stamp.broker ≡ b = own-broker t h in
        let played : IsPlayed p.script t = every-has (IsPlayed p.script) (tries_at b) t (answers-asked p b) h in
        let proven : IsProven b ever t = every-has (IsProven b ever) (tries_at b) t (answers-sent p b) h in
        let all : t.answers ≡ t.answers ++ [] = none t.answers in
        record {
          answers = λ pre post a q e asks. answer-there b t mine found pre (a ∷ post) e q asks a proven post e;
          read = λ o e is.
              let k = proven.ends (outcome.LaterRead o e) is in
              elim (played.ends (outcome.LaterRead o e) is) [
                | inl w ↦ read-there b t mine found t.answers [] all (ToRead o) w k.0.kind k.0.number e k.1
                | inr w ↦ read-there b t mine found t.answers [] all (ToWrite o w.0) w.1 k.0.kind k.0.number e k.1
              ];
          version = λ o y is.
              let w = played.ends (outcome.LaterVersion o y) is in let k = proven.ends (outcome.LaterVersion o y) is in
              version-there b t mine found t.answers [] all (ToWrite o w.0) w.1 k.0.kind k.0.number y k.1;
        }
      where
        none : (xs : List Answer) → xs ≡ xs ++ []
        none [] = refl
        none (a ∷ xs) = ap (λ z. a ∷ z) (none xs)

    pub all-answered-there : Every (IsAnsweredThere p.script b ever) (tries_at b)
    all-answered-there = every-of (IsAnsweredThere p.script b ever) (tries_at b) answered-there

  -- ---- own writes

  -- a write that was asked for before a read of the same attempt was stored before it
  stored-first : (b : ℕ) (x y : TimeParts) (o u : ObjectId) (w : Value) → y.stamp ≡ x.stamp → y.step < x.step → IsAskOf p.script (tries_at b) x (ToRead u) → IsAskOf p.script (tries_at b) y (ToWrite o w) →
      WasSent ever (repository o.repository) (broker b) (message.Stored y)
  stored-first b x y o u w same less reads writes =
      let t : Try = writes.0 in
      let one : t ≡ reads.0 = same_Some t reads.0 (sym writes.1 ∙ ap (λ z. find z (tries_at b)) same ∙ reads.1) in
      let has : Has t (tries_at b) = (found-in y.stamp (tries_at b) t writes.1).0 in
      let stamp : t.stamp ≡ y.stamp = (each-found (λ z. Unit {0}) y.stamp (tries_at b) t writes.1 (units (tries_at b))).1 in
      let long : length reads.2.0 ≤ length t.answers = front-short reads.2.0 reads.2.1 t.answers (ap (λ (z : Try). z.answers) one ∙ reads.2.2) in
      go t has stamp writes.2.0 writes.2.1 writes.2.2 writes.2.3 writes.2.4 (let a = reads.2.3 in let c = writes.2.3 in omega (arith, less, a, c, long))
    where
      units : (ts : List Try) → Every (λ z. Unit {0}) ts
      units [] = tt
      units (t ∷ ts) = (tt, units ts)

      time-is : (t : Try) (n : ℕ) → t.stamp ≡ y.stamp → y.step ≡ n → at t.stamp n ≡ y
      time-is t n e k = ap (λ z. at z n) e ∙ ap (λ z. at y.stamp z) (sym k)

      go : (t : Try) → Has t (tries_at b) → t.stamp ≡ y.stamp → (pre post : List Answer) → t.answers ≡ pre ++ post → y.step ≡ length pre + 1 → stop (p.script t.task.script) pre ≡ Asks (ToWrite o w) → length pre < length t.answers →
          WasSent ever (repository o.repository) (broker b) (message.Stored y)
      go t has stamp pre [] e step asks more = absurd (let none : List Answer = [] in let n = ap length e in let m = length-append pre none in omega (arith, n, m, more))
      go t has stamp pre (Got v ∷ rest) e step asks more =
          let k : IsFitting (stop (p.script t.task.script) pre) (Got v) = (every-has (IsPlayed p.script) (tries_at b) t (answers-asked p b) has).asked pre rest (Got v) e in
          absurd (subst (λ z. IsFitting z (Got v)) asks k)
      go t has stamp pre (Stored ∷ rest) e step asks more =
          subst (λ z. WasSent ever (repository o.repository) (broker b) (message.Stored z)) (time-is t (length pre + 1) stamp step)
          ((answered-there b t has).answers pre rest Stored (ToWrite o w) e asks)

  pub own-write-read : (x : TimeParts) (v : Value) (o : ObjectId) (y : TimeParts) (w : Value) → WasSent ever (broker x.stamp.broker) (repository o.repository) (message.Read x o) →
      WasSent ever (repository o.repository) (broker x.stamp.broker) (message.Value x v) → StoredBefore ever x o y w → ((z : TimeParts) (u : Value) → StoredBefore ever x o z u → lt y z ≡ false) → v ≡ w
  unfolding Picked
  own-write-read x v o y w asked came before last =
      let r : ℕ = o.repository in
      let val = holds Repository r x.stamp.broker (message.Value x v) came in
      let k : ViewedThere p.script (base_of p.script p.plan p.trace) (logs_at p.logs (world_at p)) (replaced (alike p.script) p.past.0) (sent_earlier (alike p.script) p.past.0) (sent_by (world_at p)) (TickedBefore p) (place-facts p) r o x v =
      viewed-there p.script (base_of p.script p.plan p.trace) (logs_at p.logs (world_at p)) (replaced (alike p.script) p.past.0) (sent_earlier (alike p.script) p.past.0) (sent_by (world_at p)) (TickedBefore p) (place-facts p) r
      o x v val.0 val.1 val.2.4 (subst (λ z. Viewed (marks val.0) z x v) (one-read x.stamp.broker (repository r) (repository r) x val.2.0 o val.2.1.0 asked) val.2.3) in
      let sto = holds Repository r y.stamp.broker (message.Stored y) before.stored in
      let both : (sto.2.0 ≡ o) × (sto.2.1 ≡ w) = one-write y.stamp.broker (repository r) (repository r) y sto.2.0 o sto.2.1 w sto.2.2.0 before.asked in
      let put : Has (effect.Put o y w) sto.0 = subst (λ z. Has (effect.Put z y w) sto.0) both.0 (subst (λ z. Has (effect.Put sto.2.0 y z) sto.0) both.1 sto.2.3) in
      let shown : shows k.there x y ≡ true = and-both (lt y x) (alive k.there y || same_stamp y.stamp x.stamp) before.below (or_right (alive k.there y) (same_stamp y.stamp x.stamp) (same_stamp-of y.stamp x.stamp before.same)) in
      let most : AtMost (views k.there o x) y = at-most (λ z. shows k.there x z) o y w k.there (views k.there o x) (top-all (λ z. shows k.there x z) o k.there) (put-stands k.there o y w (k.own y w sto.0 sto.1 put before.same before.below)) shown in
      sym k.viewed.0 ∙ ends k.there k.wanted (views k.there o x) most (scan-passes (λ z. shows k.there x z) o k.there) (picked (λ z. shows k.there x z) o k.there)
    where
      same-time : (a c : TimeParts) → a.stamp ≡ c.stamp → a.step ≡ c.step → a ≡ c
      same-time a c e k = ap (λ z. at z a.step) e ∙ ap (λ z. at c.stamp z) k

      ends : (m : List Mark) → ((z : TimeParts) (u : Value) → Has (mark.Put o z u) m → repositories.WriteSent ever o.repository z o u) → (found : Option Seen) → AtMost found y → Passes (λ z. shows m x z) found → Picked o m found →
          value_of found ≡ w
      ends m wanted None most pass put = absurd most
      ends m wanted (Some q) most pass put =
          let r : ℕ = o.repository in
          let b : ℕ = x.stamp.broker in
          let under : lt q.start x ≡ true = and-left (lt q.start x) _ pass in
          let above : lt q.start (at x.stamp y.step) ≡ false = subst (λ z. lt q.start (at z y.step) ≡ false) before.same most in
          let own : q.start.stamp ≡ x.stamp = inside q.start x.stamp y.step x.step above under in
          let sent = wanted q.start q.value (stands-put m o q.start q.value put) in
          let its : WasSent ever (broker b) (repository r) (message.Write q.start o q.value) = subst (λ z. WasSent ever (broker z) (repository r) (message.Write q.start o q.value)) (ap (λ (z : StampParts). z.broker) own) sent.0 in
          let stored : WasSent ever (repository r) (broker b) (message.Stored q.start) =
          stored-first b x q.start o o q.value own (inside-high q.start x.stamp x.step under own) (read-asks b (repository r) x o asked) (write-asks b (repository r) q.start o q.value its) in
          let back : b ≡ q.start.stamp.broker = ap (λ (z : StampParts). z.broker) (sym own) in
          let here : StoredBefore ever x o q.start q.value = record {
            same = own;
            below = under;
            asked = sent.0;
            stored = subst (λ z. WasSent ever (repository r) (broker z) (message.Stored q.start)) back stored;
          } in
          let not_over : lt y (at x.stamp q.start.step) ≡ false = subst (λ z. lt y (at z q.start.step) ≡ false) own (last q.start q.value here) in
          let up : q.start.step ≤ y.step = inside-low y x.stamp q.start.step not_over before.same in
          let same : q.start ≡ y = same-time q.start y (own ∙ sym before.same) (omega (arith, inside-low q.start x.stamp y.step above own, up)) in
          let mine : WasSent ever (broker y.stamp.broker) (repository r) (message.Write y o q.value) = subst (λ (z : TimeParts). WasSent ever (broker z.stamp.broker) (repository r) (message.Write z o q.value)) same sent.0 in
          (one-write y.stamp.broker (repository r) (repository r) y o o q.value w mine before.asked).1
