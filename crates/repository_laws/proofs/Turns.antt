-- each function of the hand keeps what holds of a hand
use Rattle.repository_laws.proofs.Names.{StampParts, TimeParts, time_cmp, ObjectId, Value, Decision, Effect, Message, NodeId, NodeKind, Post, WasSent, RecordState, Unknown, Decided, ReadStep, Answer, Wait, LaterRead, WriteStep, HeldRead, Asker, read-below, later-read, later-version, and-left, and-right, eq-from, read_step, stands_written, write_step, alive, is_settled, settle_of, every-append, every-map, has-right, Every, Has, same_stamp, Hand, asker_cmp, note, now, send, broker, repository, is_repository, ask_again, asks, expire, expire_all, expire_as, on_moment, waited, due, accepts, ask_as, begin_as, close_as, hold, is_broker_of, learn_as, on_ask, on_begin, on_close, on_learn, on_message, on_read, on_write, read_as, read_known, release, reread, row, tell_askers, tells, unhold, waits_for, write_as, every-filter, every-remove, every-put, Once, FitsLog, HandHolds, RestsOn, HasCome, HeldHolds, IsBacked, IsDecidedAt, IsTidy, IsTimely, PostHolds, ReadSent, WriteSent, ◌≡◌, ◌≢◌, ℕ, ◌+◌, ◌≤◌, Bool, true, false, List, [], ◌∷◌, ◌++◌, refl, sym, ◌∙◌, ap, subst, Option, Some, None, ◌==◌, ◌&&◌, ◌||◌, not, nat_le, if◌then◌else◌, inl, inr, arith, common_steps, false≢true, put-stands, again-stands, answer-viewed, answer-on-floor, is_alive, is_broker, filter, remove_entry, insert_entry, is_at, insert_key, WasClosed}
use Rattle.pseudo_time.specs.declared.decisions.Decision.TheVariants as decision
use Rattle.effect_form.specs.declared.effects.Effect.TheVariants as effect
use Rattle.message_form.specs.declared.messages.Message.TheVariants as message
use Rattle.pseudo_time.specs.declared.nodes.NodeKind.TheVariants as kind
use Rattle.object_history.specs.declared.steps.WriteStep.TheVariants as write
use Rattle.repository_laws.proofs.Logs.{unknown-begun, decided-stands, tidy-through, begin-home, decide-settles, on-floor-log, put-logged}
use Rattle.repository_laws.proofs.Posts.{post-stays}
use Rattle.repository_core.specs.Logs.{is_commit, known, marks, record_of}

pub broker-is : (n : ℕ) (from : NodeId) → is_broker_of n from ≡ true → from ≡ broker n
broker-is n from h = go from.kind from.number (and-left (is_broker from.kind) _ h) (eq-from from.number n (and-right (is_broker from.kind) _ h))
  where
    go : (k : NodeKind) (i : ℕ) → is_broker k ≡ true → i ≡ n → (let x : NodeId = record { kind = k; number = i } in x ≡ broker n)
    go kind.Broker i e q = ap broker q
    go kind.Repository i e q = absurd (false≢true e)

repository-is : (n : ℕ) (from : NodeId) → (is_repository from.kind && (from.number == n)) ≡ true → from ≡ repository n
repository-is n from h = go from.kind from.number (and-left (is_repository from.kind) _ h) (eq-from from.number n (and-right (is_repository from.kind) _ h))
  where
    go : (k : NodeKind) (i : ℕ) → is_repository k ≡ true → i ≡ n → (let x : NodeId = record { kind = k; number = i } in x ≡ repository n)
    go kind.Repository i e q = ap repository q
    go kind.Broker i e q = absurd (false≢true e)

pub once-now : (P : List Effect → Type 0) (l : List Effect) → P l → Once P l
once-now P [] p = p
once-now P (f ∷ l) p = inl p

every-add : {A : Type 0} (P : A → Type 0) (xs : List A) (x : A) → Every P xs → P x → Every P (xs ++ x ∷ [])
every-add P xs x h p = every-append P xs (x ∷ []) h (p, tt)

live : (u : Option Bool) → is_alive u ≡ true → u ≢ Some false
live u h k = false≢true (sym (ap (λ z. is_alive z) k) ∙ h)

le-from : (a b : ℕ) → nat_le a b ≡ true → a ≤ b
le-from a b h = grind (arith, common_steps)

module _ (ever : List Post) (homes : ℕ → List Effect) (ticks : List ℕ) (r : ℕ) (gated : List Effect) where
  abbrev Fine : Hand → Type 0
  Fine h = HandHolds ever homes ticks r gated h

  note-ok : (h : Hand) (f : Effect) → FitsLog r (now h) f → RestsOn ever homes ticks r f → Fine h → Fine (note f h)
  note-ok h f fits came ok = record {
    number = ok.number;
    past = ok.past;
    tidy = ok.tidy;
    grew = (ok.grew, fits);
    causes = (came, ok.causes);
    held = ok.held;
    outs = every-map (λ p. PostHolds ever r (now h) p.to p.message) (λ p. PostHolds ever r (f ∷ now h) p.to p.message)
        (λ p k. post-stays ever r (now h) f p.to p.message fits k) h.outs ok.outs;
  }

  send-ok : (h : Hand) (to : NodeId) (m : Message) → PostHolds ever r (now h) to m → Fine h → Fine (send to m h)
  send-ok h to m post ok = record {
    number = ok.number;
    past = ok.past;
    tidy = ok.tidy;
    grew = ok.grew;
    causes = ok.causes;
    held = ok.held;
    outs = every-add (λ p. PostHolds ever r (now h) p.to p.message) h.outs (record { to = to; message = m }) ok.outs post;
  }

  held-ok : (h : Hand) (xs : List (TimeParts × HeldRead)) → Every (HeldHolds ever r) xs → Fine h → Fine (record h { held = xs })
  held-ok h xs k ok = record { number = ok.number; past = ok.past; tidy = ok.tidy; grew = ok.grew; causes = ok.causes; held = k; outs = ok.outs }

  askers-ok : (h : Hand) (xs : List Asker) → Fine h → Fine (record h { askers = xs })
  askers-ok h xs ok = record { number = ok.number; past = ok.past; tidy = ok.tidy; grew = ok.grew; causes = ok.causes; held = ok.held; outs = ok.outs }

  moment-ok : (h : Hand) (m : ℕ) → Fine h → Fine (record h { moment = m })
  moment-ok h m ok = record { number = ok.number; past = ok.past; tidy = ok.tidy; grew = ok.grew; causes = ok.causes; held = ok.held; outs = ok.outs }

  if-ok : (b : Bool) (x y : Hand) → Fine x → Fine y → Fine (if b then x else y)
  if-ok true x y p q = p
  if-ok false x y p q = q

  tidy-now : (h : Hand) → Fine h → IsTidy r (now h)
  tidy-now h ok = tidy-through r h.past h.added ok.grew ok.tidy

  read-as-ok : (before : List (TimeParts × HeldRead)) (h : Hand) (from : NodeId) (t : TimeParts) (o : ObjectId) (s : ReadStep) →
      read_step (marks (now h)) o t ≡ s → settle_of (marks (now h)) t.stamp ≢ Some false →
      ReadSent ever r t o → from ≡ broker t.stamp.broker → Fine h → Fine (read_as before h from t o s)
  read-as-ok before h from t o (Answer v true) e alive sent own ok =
      send-ok (note (effect.Stretch o t) h) from (message.Value t v) (o, sent, own, answer-viewed (marks (now h)) o t v true alive e, on-floor-log r (now h) (effect.Stretch o t) t sent.1 (answer-on-floor (marks (now h)) o t v true e))
      (note-ok h (effect.Stretch o t) sent.1 sent ok)
  read-as-ok before h from t o (Answer v false) e alive sent own ok = send-ok h from (message.Value t v) (o, sent, own, answer-viewed (marks (now h)) o t v false alive e, answer-on-floor (marks (now h)) o t v false e) ok
  read-as-ok before h from t o (Wait w) e alive sent own ok =
      let x : HeldRead = record { from = from; object = o; waits = w } in
      let k : Fine (hold t x h) = held-ok h (insert_entry time_cmp h.held t x) (every-put (HeldHolds ever r) t x h.held (sent, own) ok.held) ok in
      if-ok ((w.home == h.number) || waits_for w before) (hold t x h) (send (repository w.home) (message.Ask w) (hold t x h)) k
      (send-ok (hold t x h) (repository w.home) (message.Ask w) tt k)
  read-as-ok before h from t o (LaterRead x) e alive sent own ok =
      send-ok h from (message.LaterRead t x) (o, (read-below (marks (now h)) o t x e).0, inl (sent, once-now (λ k. read_step (marks k) o t ≡ LaterRead x) (now h) e)) ok

  unhold-ok : (h : Hand) (t : TimeParts) → Fine h → Fine (unhold t h)
  unhold-ok h t ok = held-ok h (remove_entry (is_at (time_cmp t)) h.held) (every-remove (HeldHolds ever r) (is_at (time_cmp t)) h.held ok.held) ok

  read-known-ok : (h : Hand) (from : NodeId) (t : TimeParts) (o : ObjectId) (u : Option Bool) → settle_of (marks (now h)) t.stamp ≡ u →
      ReadSent ever r t o → from ≡ broker t.stamp.broker → Fine h → Fine (read_known h from t o u)
  read-known-ok h from t o (Some false) e sent own ok = send-ok (unhold t h) from (message.Ended t) (false, e) (unhold-ok h t ok)
  read-known-ok h from t o (Some true) e sent own ok =
      read-as-ok h.held (unhold t h) from t o (read_step (marks (now h)) o t) refl (live (settle_of (marks (now h)) t.stamp) (ap (λ z. is_alive z) e)) sent own (unhold-ok h t ok)
  read-known-ok h from t o None e sent own ok = read-as-ok h.held (unhold t h) from t o (read_step (marks (now h)) o t) refl (live (settle_of (marks (now h)) t.stamp) (ap (λ z. is_alive z) e)) sent own (unhold-ok h t ok)

  on-read-ok : (h : Hand) (from : NodeId) (t : TimeParts) (o : ObjectId) → ReadSent ever r t o → from ≡ broker t.stamp.broker → Fine h → Fine (on_read h from t o)
  unfolding on_read
  on-read-ok h from t o sent own ok = read-known-ok h from t o (settle_of (marks (now h)) t.stamp) refl sent own ok

  reread-ok : (xs : List (TimeParts × HeldRead)) (h : Hand) → Every (HeldHolds ever r) xs → Fine h → Fine (reread xs h)
  reread-ok [] h k ok = ok
  reread-ok (e ∷ xs) h k ok = reread-ok xs (on_read h e.1.from e.0 e.1.object) k.1 (on-read-ok h e.1.from e.0 e.1.object k.0.0 k.0.1 ok)

  release-ok : (s : StampParts) (h : Hand) → Fine h → Fine (release s h)
  unfolding release
  release-ok s h ok =
      reread-ok (filter (λ e. same_stamp e.1.waits s) h.held) (record h { held = filter (λ e. not (same_stamp e.1.waits s)) h.held })
      (every-filter (HeldHolds ever r) (λ e. same_stamp e.1.waits s) h.held ok.held)
      (held-ok h (filter (λ e. not (same_stamp e.1.waits s)) h.held) (every-filter (HeldHolds ever r) (λ e. not (same_stamp e.1.waits s)) h.held ok.held) ok)

  tells-ok : (xs : List Asker) (s : StampParts) (c : Bool) (h : Hand) (d : Decision) → Has (effect.Decide s d) (now h) → c ≡ is_commit d → Fine h →
      Fine (tells xs s c h) × Has (effect.Decide s d) (now (tells xs s c h))
  tells-ok [] s c h d k e ok = (ok, k)
  tells-ok (a ∷ xs) s c h d k e ok = tells-ok xs s c (send (repository a.repository) (message.Tell s c) h) d k e (send-ok h (repository a.repository) (message.Tell s c) (d, k, e) ok)

  tell-askers-ok : (s : StampParts) (c : Bool) (h : Hand) (d : Decision) → Has (effect.Decide s d) (now h) → c ≡ is_commit d → Fine h → Fine (tell_askers s c h)
  unfolding tell_askers
  tell-askers-ok s c h d k e ok =
      (tells-ok (filter (λ a. same_stamp a.stamp s) h.askers) s c (record h { askers = filter (λ a. not (same_stamp a.stamp s)) h.askers }) d k e
      (askers-ok h (filter (λ a. not (same_stamp a.stamp s)) h.askers) ok)).0

  settle-all-ok : (s : StampParts) (c : Bool) (h : Hand) (d : Decision) → Has (effect.Decide s d) (now h) → c ≡ is_commit d → Fine h → Fine (release s (tell_askers s c h))
  settle-all-ok s c h d k e ok = release-ok s (tell_askers s c h) (tell-askers-ok s c h d k e ok)

  begin-as-ok : (h : Hand) (from : NodeId) (s : StampParts) (timeout : ℕ) (u : Option RecordState) → record_of (now h) s ≡ u → s.home ≡ r → Fine h → Fine (begin_as h from s timeout u)
  begin-as-ok h from s timeout None e home ok =
      send-ok (note (effect.Begin s (h.moment + timeout)) h) from (message.Begun s) (h.moment + timeout, inl refl)
      (note-ok h (effect.Begin s (h.moment + timeout)) (home, e) tt ok)
  begin-as-ok h from s timeout (Some (Unknown d)) e home ok = send-ok h from (message.Begun s) (d, unknown-begun (now h) s d e) ok
  begin-as-ok h from s timeout (Some (Decided d)) e home ok = send-ok h from (message.Decided s d) (decided-stands r (now h) s d (tidy-now h ok) home e) ok

  on-begin-ok : (h : Hand) (from : NodeId) (s : StampParts) (timeout : ℕ) → s.home ≡ r → Fine h → Fine (on_begin h from s timeout)
  unfolding on_begin
  on-begin-ok h from s timeout home ok = begin-as-ok h from s timeout (record_of (now h) s) refl home ok

  close-as-ok : (h : Hand) (from : NodeId) (s : StampParts) (d : Decision) (u : Option RecordState) → record_of (now h) s ≡ u → s.home ≡ r →
      WasClosed ever ticks r s d → ((t : ℕ) → IsTimely t d) → Fine h → Fine (close_as h from s d u)
  close-as-ok h from s d None e home closed timely ok = ok
  close-as-ok h from s d (Some (Unknown t)) e home closed timely ok =
      settle-all-ok s (is_commit d) (send from (message.Decided s d) (note (effect.Decide s d) h)) d (inl refl) refl
      (send-ok (note (effect.Decide s d) h) from (message.Decided s d) (inl refl)
      (note-ok h (effect.Decide s d) (home, (t, e, timely t)) closed ok))
  close-as-ok h from s d (Some (Decided g)) e home closed timely ok = send-ok h from (message.Decided s g) (decided-stands r (now h) s g (tidy-now h ok) home e) ok

  on-close-ok : (h : Hand) (from : NodeId) (s : StampParts) (d : Decision) → s.home ≡ r → WasClosed ever ticks r s d → ((t : ℕ) → IsTimely t d) → Fine h → Fine (on_close h from s d)
  unfolding on_close
  on-close-ok h from s d home closed timely ok = close-as-ok h from s d (record_of (now h) s) refl home closed timely ok

  stands-ok : (h : Hand) (from : NodeId) (t : TimeParts) (o : ObjectId) (v : Value) → stands_written (marks (now h)) o t v ≡ true → WriteSent ever r t o v →
      Fine h → Fine (send from (message.Stored t) h)
  stands-ok h from t o v e sent ok = send-ok h from (message.Stored t) (o, v, sent, put-logged (now h) o t v (put-stands o t v (marks (now h)) (and-right (alive (marks (now h)) t) _ e))) ok

  write-as-ok : (h : Hand) (from : NodeId) (t : TimeParts) (o : ObjectId) (v : Value) (b : Bool) (u : Option Bool) (w : WriteStep) →
      stands_written (marks (now h)) o t v ≡ b → known (now h) t.stamp ≡ u → write_step (marks (now h)) o t v ≡ w → WriteSent ever r t o v →
      Fine h → Fine (write_as h from t o v b (is_settled u) w)
  write-as-ok h from t o v true u w f g e sent ok = stands-ok h from t o v f sent ok
  write-as-ok h from t o v false (Some c) w f g e sent ok = send-ok h from (message.Ended t) (c, g) ok
  write-as-ok h from t o v false None write.Again f g e sent ok = send-ok h from (message.Stored t) (o, v, sent, put-logged (now h) o t v (again-stands (marks (now h)) o t v e)) ok
  write-as-ok h from t o v false None write.Put f g e sent ok = send-ok (note (effect.Put o t v) h) from (message.Stored t) (o, v, sent, inl refl) (note-ok h (effect.Put o t v) (sent.1, (g, e)) sent ok)
  write-as-ok h from t o v false None (write.LaterVersion x) f g e sent ok =
      send-ok h from (message.LaterVersion t x) (o, v, sent, (later-version (marks (now h)) o t v x e).0, once-now (λ k. write_step (marks k) o t v ≡ write.LaterVersion x) (now h) e) ok
  write-as-ok h from t o v false None (write.LaterRead x) f g e sent ok =
      send-ok h from (message.LaterRead t x) (o, (later-read (marks (now h)) o t v x e).0, inr (v, sent, once-now (λ k. write_step (marks k) o t v ≡ write.LaterRead x) (now h) e)) ok

  on-write-ok : (h : Hand) (from : NodeId) (t : TimeParts) (o : ObjectId) (v : Value) → WriteSent ever r t o v → Fine h → Fine (on_write h from t o v)
  unfolding on_write
  on-write-ok h from t o v sent ok = write-as-ok h from t o v (stands_written (marks (now h)) o t v) (known (now h) t.stamp) (write_step (marks (now h)) o t v) refl refl refl sent ok

  ask-as-ok : (h : Hand) (from : NodeId) (s : StampParts) (u : Option RecordState) → record_of (now h) s ≡ u → s.home ≡ r → Fine h → Fine (ask_as h from s u)
  ask-as-ok h from s None e home ok = ok
  ask-as-ok h from s (Some (Unknown d)) e home ok = askers-ok h (insert_key asker_cmp h.askers (record { repository = from.number; stamp = s })) ok
  ask-as-ok h from s (Some (Decided d)) e home ok = send-ok h from (message.Tell s (is_commit d)) (d, decided-stands r (now h) s d (tidy-now h ok) home e, refl) ok

  on-ask-ok : (h : Hand) (from : NodeId) (s : StampParts) → s.home ≡ r → Fine h → Fine (on_ask h from s)
  unfolding on_ask
  on-ask-ok h from s home ok = ask-as-ok h from s (record_of (now h) s) refl home ok

  abroad : (h : Hand) (s : StampParts) (c : Bool) → homes r ≡ gated → IsDecidedAt homes s c → settle_of (marks (now h)) s ≡ None → Fine h → s.home ≢ r
  abroad h s c here came e ok home =
      let at_home : Has (effect.Decide s came.0) (homes r) = subst (λ n. Has (effect.Decide s came.0) (homes n)) home came.1 in
      let at_base : Has (effect.Decide s came.0) h.past = subst (λ l. Has (effect.Decide s came.0) l) (here ∙ sym ok.past) at_home in
      let k = decide-settles (now h) s came.0 (has-right h.added h.past (effect.Decide s came.0) at_base) in
      let clash : Some k.0 ≡ None = sym k.1 ∙ e in cc

  learn-as-ok : (h : Hand) (s : StampParts) (c : Bool) (u : Option Bool) → settle_of (marks (now h)) s ≡ u → homes r ≡ gated → IsDecidedAt homes s c → Fine h → Fine (learn_as h s c u)
  learn-as-ok h s c None e here came ok = release-ok s (note (effect.Learn s c) h) (note-ok h (effect.Learn s c) (abroad h s c here came e ok, e) came ok)
  learn-as-ok h s c (Some d) e here came ok = ok

  pub on-learn-ok : (h : Hand) (s : StampParts) (c : Bool) → homes r ≡ gated → IsDecidedAt homes s c → Fine h → Fine (on_learn h s c)
  unfolding on_learn
  on-learn-ok h s c here came ok = learn-as-ok h s c (settle_of (marks (now h)) s) refl here came ok

  expire-if : (b : Bool) (m : ℕ) (s : StampParts) (h : Hand) (d : ℕ) → nat_le d m ≡ b → record_of (now h) s ≡ Some (Unknown d) → Has m ticks → Fine h →
      Fine (if b then release s (tell_askers s false (note (effect.Decide s (decision.Expired d m)) h)) else h)
  expire-if false m s h d le e tick ok = ok
  expire-if true m s h d le e tick ok =
      settle-all-ok s false (note (effect.Decide s (decision.Expired d m)) h) (decision.Expired d m) (inl refl) refl
      (note-ok h (effect.Decide s (decision.Expired d m))
      (begin-home r (now h) s d (tidy-now h ok) (unknown-begun (now h) s d e), (d, e, (refl, le-from d m le))) tick ok)

  expire-as-ok : (m : ℕ) (s : StampParts) (h : Hand) (u : Option RecordState) → record_of (now h) s ≡ u → Has m ticks → Fine h → Fine (expire_as m s h u)
  expire-as-ok m s h None e tick ok = ok
  expire-as-ok m s h (Some (Unknown d)) e tick ok = expire-if (nat_le d m) m s h d refl e tick ok
  expire-as-ok m s h (Some (Decided d)) e tick ok = ok

  expire-ok : (m : ℕ) (s : StampParts) (h : Hand) → Has m ticks → Fine h → Fine (expire m s h)
  unfolding expire
  expire-ok m s h tick ok = expire-as-ok m s h (record_of (now h) s) refl tick ok

  expire-all-ok : (m : ℕ) (ss : List StampParts) (h : Hand) → Has m ticks → Fine h → Fine (expire_all m ss h)
  expire-all-ok m [] h tick ok = ok
  expire-all-ok m (s ∷ ss) h tick ok = expire-all-ok m ss (expire m s h) tick (expire-ok m s h tick ok)

  asks-ok : (ss : List StampParts) (h : Hand) → Fine h → Fine (asks ss h)
  asks-ok [] h ok = ok
  asks-ok (w ∷ ss) h ok = asks-ok ss (send (repository w.home) (message.Ask w) h) (send-ok h (repository w.home) (message.Ask w) tt ok)

  ask-again-ok : (h : Hand) → Fine h → Fine (ask_again h)
  unfolding ask_again
  ask-again-ok h ok = asks-ok (waited h.number h.held []) h ok

  pub hear-ok : (h : Hand) (m : ℕ) → Has m ticks → Fine h → Fine (on_moment h m)
  unfolding on_moment
  hear-ok h m tick ok = ask-again-ok (expire_all m (due m (now h)) (record h { moment = m })) (expire-all-ok m (due m (now h)) (record h { moment = m }) tick (moment-ok h m ok))

  here-is : (h : Hand) (n : ℕ) (a : Bool) → Fine h → (a && (n == h.number)) ≡ true → n ≡ r
  here-is h n a ok g = eq-from n h.number (and-right a (n == h.number) g) ∙ ok.number

  pub sent-by : (from : NodeId) (n : ℕ) (m : Message) (b : Bool) → (is_broker_of n from && b) ≡ true → WasSent ever from (repository r) m → WasSent ever (broker n) (repository r) m
  sent-by from n m b g sent = subst (λ z. WasSent ever z (repository r) m) (broker-is n from (and-left (is_broker_of n from) b g)) sent

  row-ok : (h : Hand) (from : NodeId) (m : Message) → accepts h.number from m ≡ true → HasCome ever homes r from m → homes r ≡ gated → Fine h → Fine (row h from m)
  row-ok h from (message.Begin s timeout) g came here ok = on-begin-ok h from s timeout (here-is h s.home (is_broker_of s.broker from) ok g) ok
  row-ok h from (message.Commit s) g came here ok =
      on-close-ok h from s decision.Committed (here-is h s.home (is_broker_of s.broker from) ok g)
      (sent-by from s.broker (message.Commit s) (s.home == h.number) g came.0) (λ t. tt) ok
  row-ok h from (message.Withdraw s) g came here ok =
      on-close-ok h from s decision.Withdrawn (here-is h s.home (is_broker_of s.broker from) ok g)
      (sent-by from s.broker (message.Withdraw s) (s.home == h.number) g came.0) (λ t. tt) ok
  row-ok h from (message.Read t o) g came here ok =
      on-read-ok h from t o
      (sent-by from t.stamp.broker (message.Read t o) (o.repository == h.number) g came.0, here-is h o.repository (is_broker_of t.stamp.broker from) ok g)
      (broker-is t.stamp.broker from (and-left (is_broker_of t.stamp.broker from) _ g)) ok
  row-ok h from (message.Write t o v) g came here ok =
      on-write-ok h from t o v
      (sent-by from t.stamp.broker (message.Write t o v) (o.repository == h.number) g came.0, here-is h o.repository (is_broker_of t.stamp.broker from) ok g) ok
  row-ok h from (message.Ask s) g came here ok = on-ask-ok h from s (here-is h s.home (is_repository from.kind) ok g) ok
  row-ok h from (message.Tell s c) g came here ok =
      on-learn-ok h s c here
      (subst (λ n. IsBacked homes n.kind n.number (message.Tell s c)) (repository-is s.home from g) came.1) ok
  row-ok h from m g came here ok = absurd (false≢true g)

  take-if : (b : Bool) (h : Hand) (from : NodeId) (m : Message) → accepts h.number from m ≡ b → HasCome ever homes r from m → homes r ≡ gated → Fine h → Fine (if b then row h from m else h)
  take-if true h from m g came here ok = row-ok h from m g came here ok
  take-if false h from m g came here ok = ok

  pub take-ok : (h : Hand) (from : NodeId) (m : Message) → HasCome ever homes r from m → homes r ≡ gated → Fine h → Fine (on_message h from m)
  unfolding on_message
  take-ok h from m came here ok = take-if (accepts h.number from m) h from m refl came here ok
