-- A turn over any log refuses a request only where its log says so.
use Rattle.repository_laws.proofs.Names.{StampParts, TimeParts, time_cmp, Every, same_stamp, Decision, NodeId, every-append, every-map, has-left, ObjectId, Value, Effect, Message, Post, WasSent, RecordState, Unknown, Decided, ReadStep, Answer, Wait, LaterRead, WriteStep, read_step, stands_written, write_step, is_settled, read-below, later-read, later-version, and-left, and-right, eq-from, HeldRead, Asker, every-filter, every-remove, every-put, Hand, Mind, note, now, send, broker, repository, ask_again, asks, expire, expire_all, expire_as, on_moment, waited, due, accepts, ask_as, begin_as, close_as, hold, is_broker_of, learn_as, on_ask, on_begin, on_close, on_learn, on_message, on_read, on_write, read_as, read_known, release, reread, row, tell_askers, tells, unhold, waits_for, write_as, hand_at, ReadSent, WriteSent, HeldHolds, ◌≡◌, ℕ, ◌+◌, Bool, true, false, List, [], ◌∷◌, ◌++◌, refl, ◌∙◌, Option, Some, None, ◌==◌, ◌||◌, not, nat_le, if◌then◌else◌, inl, inr, false≢true, filter, remove_entry, insert_entry, is_at}
use Rattle.pseudo_time.specs.declared.decisions.Decision.TheVariants as decision
use Rattle.effect_form.specs.declared.effects.Effect.TheVariants as effect
use Rattle.message_form.specs.declared.messages.Message.TheVariants as message
use Rattle.object_history.specs.declared.steps.WriteStep.TheVariants as write
use Rattle.repository_core.specs.Logs.{is_commit, known, marks, record_of}
use Rattle.repository_laws.specs.AnyLogs.{Refuses, RefusesRightly}
use Rattle.repository_laws.proofs.Posts.{later-stays, later-more}
use Rattle.repository_laws.proofs.Turns.{broker-is, once-now, sent-by}

-- ---- a refusal stays true

pub refuses-on : (ever : List Post) (r : ℕ) (log : List Effect) (f : Effect) (to : NodeId) (m : Message) → Refuses ever r log to m → Refuses ever r (f ∷ log) to m
refuses-on ever r log f to (message.LaterRead t e) h = (h.0, h.1, h.2, later-stays ever r log f h.0 t e h.3)
refuses-on ever r log f to (message.LaterVersion t x) h = (h.0, h.1, h.2, h.3, h.4, inr h.5)
refuses-on ever r log f to _ h = tt

pub refuses-more : (ever more : List Post) (r : ℕ) (log : List Effect) (to : NodeId) (m : Message) → Refuses ever r log to m → Refuses (ever ++ more) r log to m
refuses-more ever more r log to (message.LaterRead t e) h = (h.0, h.1, h.2, later-more ever more r log h.0 t e h.3)
refuses-more ever more r log to (message.LaterVersion t x) h = (h.0, h.1, (has-left ever more _ h.2.0, h.2.1), h.3, h.4, h.5)
refuses-more ever more r log to _ h = tt

-- ---- turns

module _ (ever : List Post) (r : ℕ) (log : List Effect) where
  abbrev Fine : Hand → Type 0
  Fine h = RefusesRightly ever r log h

  note-fine : (h : Hand) (f : Effect) → Fine h → Fine (note f h)
  note-fine h f k = record {
    number = k.number;
    past = k.past;
    held = k.held;
    outs = every-map (λ o. Refuses ever r (now h) o.to o.message) (λ o. Refuses ever r (f ∷ now h) o.to o.message) (λ o p. refuses-on ever r (now h) f o.to o.message p) h.outs k.outs;
  }

  send-fine : (h : Hand) (to : NodeId) (m : Message) → Refuses ever r (now h) to m → Fine h → Fine (send to m h)
  send-fine h to m p k = record { number = k.number; past = k.past; held = k.held; outs = every-append (λ o. Refuses ever r (now h) o.to o.message) h.outs (record { to = to; message = m } ∷ []) k.outs (p, tt) }

  held-fine : (h : Hand) (xs : List (TimeParts × HeldRead)) → Every (HeldHolds ever r) xs → Fine h → Fine (record h { held = xs })
  held-fine h xs held k = record { number = k.number; past = k.past; held = held; outs = k.outs }

  askers-fine : (h : Hand) (xs : List Asker) → Fine h → Fine (record h { askers = xs })
  askers-fine h xs k = record { number = k.number; past = k.past; held = k.held; outs = k.outs }

  moment-fine : (h : Hand) (m : ℕ) → Fine h → Fine (record h { moment = m })
  moment-fine h m k = record { number = k.number; past = k.past; held = k.held; outs = k.outs }

  if-fine : (b : Bool) (x y : Hand) → Fine x → Fine y → Fine (if b then x else y)
  if-fine true x y p q = p
  if-fine false x y p q = q

  read-as-fine : (before : List (TimeParts × HeldRead)) (h : Hand) (from : NodeId) (t : TimeParts) (o : ObjectId) (s : ReadStep) →
      read_step (marks (now h)) o t ≡ s → ReadSent ever r t o → from ≡ broker t.stamp.broker → Fine h → Fine (read_as before h from t o s)
  read-as-fine before h from t o (Answer v true) e sent own k = send-fine (note (effect.Stretch o t) h) from (message.Value t v) tt (note-fine h (effect.Stretch o t) k)
  read-as-fine before h from t o (Answer v false) e sent own k = send-fine h from (message.Value t v) tt k
  read-as-fine before h from t o (Wait w) e sent own k =
      let y : HeldRead = record { from = from; object = o; waits = w } in
      let x : Hand = hold t y h in
      let p : Fine x = held-fine h (insert_entry time_cmp h.held t y) (every-put (HeldHolds ever r) t y h.held (sent, own) k.held) k in
      if-fine ((w.home == h.number) || waits_for w before) x (send (repository w.home) (message.Ask w) x) p (send-fine x (repository w.home) (message.Ask w) tt p)
  read-as-fine before h from t o (LaterRead x) e sent own k =
      send-fine h from (message.LaterRead t x) (o, own, (read-below (marks (now h)) o t x e).0, inl (sent, once-now (λ l. read_step (marks l) o t ≡ LaterRead x) (now h) e)) k

  unhold-fine : (h : Hand) (t : TimeParts) → Fine h → Fine (unhold t h)
  unhold-fine h t k = held-fine h (remove_entry (is_at (time_cmp t)) h.held) (every-remove (HeldHolds ever r) (is_at (time_cmp t)) h.held k.held) k

  read-known-fine : (h : Hand) (from : NodeId) (t : TimeParts) (o : ObjectId) (u : Option Bool) → ReadSent ever r t o → from ≡ broker t.stamp.broker → Fine h → Fine (read_known h from t o u)
  read-known-fine h from t o (Some false) sent own k = send-fine (unhold t h) from (message.Ended t) tt (unhold-fine h t k)
  read-known-fine h from t o (Some true) sent own k = read-as-fine h.held (unhold t h) from t o (read_step (marks (now h)) o t) refl sent own (unhold-fine h t k)
  read-known-fine h from t o None sent own k = read-as-fine h.held (unhold t h) from t o (read_step (marks (now h)) o t) refl sent own (unhold-fine h t k)

  on-read-fine : (h : Hand) (from : NodeId) (t : TimeParts) (o : ObjectId) → ReadSent ever r t o → from ≡ broker t.stamp.broker → Fine h → Fine (on_read h from t o)
  unfolding on_read
  on-read-fine h from t o sent own k = read-known-fine h from t o (known (now h) t.stamp) sent own k

  reread-fine : (xs : List (TimeParts × HeldRead)) (h : Hand) → Every (HeldHolds ever r) xs → Fine h → Fine (reread xs h)
  reread-fine [] h held k = k
  reread-fine (e ∷ xs) h held k = reread-fine xs (on_read h e.1.from e.0 e.1.object) held.1 (on-read-fine h e.1.from e.0 e.1.object held.0.0 held.0.1 k)

  release-fine : (s : StampParts) (h : Hand) → Fine h → Fine (release s h)
  unfolding release
  release-fine s h k =
      reread-fine (filter (λ e. same_stamp e.1.waits s) h.held) (record h { held = filter (λ e. not (same_stamp e.1.waits s)) h.held })
      (every-filter (HeldHolds ever r) (λ e. same_stamp e.1.waits s) h.held k.held)
      (held-fine h (filter (λ e. not (same_stamp e.1.waits s)) h.held) (every-filter (HeldHolds ever r) (λ e. not (same_stamp e.1.waits s)) h.held k.held) k)

  tells-fine : (xs : List Asker) (s : StampParts) (c : Bool) (h : Hand) → Fine h → Fine (tells xs s c h)
  tells-fine [] s c h k = k
  tells-fine (a ∷ xs) s c h k = tells-fine xs s c (send (repository a.repository) (message.Tell s c) h) (send-fine h (repository a.repository) (message.Tell s c) tt k)

  tell-askers-fine : (s : StampParts) (c : Bool) (h : Hand) → Fine h → Fine (tell_askers s c h)
  unfolding tell_askers
  tell-askers-fine s c h k = tells-fine (filter (λ a. same_stamp a.stamp s) h.askers) s c (record h { askers = filter (λ a. not (same_stamp a.stamp s)) h.askers }) (askers-fine h (filter (λ a. not (same_stamp a.stamp s)) h.askers) k)

  settled-fine : (s : StampParts) (c : Bool) (h : Hand) → Fine h → Fine (release s (tell_askers s c h))
  settled-fine s c h k = release-fine s (tell_askers s c h) (tell-askers-fine s c h k)

  begin-as-fine : (h : Hand) (from : NodeId) (s : StampParts) (timeout : ℕ) (u : Option RecordState) → Fine h → Fine (begin_as h from s timeout u)
  begin-as-fine h from s timeout None k = send-fine (note (effect.Begin s (h.moment + timeout)) h) from (message.Begun s) tt (note-fine h (effect.Begin s (h.moment + timeout)) k)
  begin-as-fine h from s timeout (Some (Unknown d)) k = send-fine h from (message.Begun s) tt k
  begin-as-fine h from s timeout (Some (Decided d)) k = send-fine h from (message.Decided s d) tt k

  on-begin-fine : (h : Hand) (from : NodeId) (s : StampParts) (timeout : ℕ) → Fine h → Fine (on_begin h from s timeout)
  unfolding on_begin
  on-begin-fine h from s timeout k = begin-as-fine h from s timeout (record_of (now h) s) k

  close-as-fine : (h : Hand) (from : NodeId) (s : StampParts) (d : Decision) (u : Option RecordState) → Fine h → Fine (close_as h from s d u)
  close-as-fine h from s d None k = k
  close-as-fine h from s d (Some (Unknown t)) k =
      settled-fine s (is_commit d) (send from (message.Decided s d) (note (effect.Decide s d) h)) (send-fine (note (effect.Decide s d) h) from (message.Decided s d) tt (note-fine h (effect.Decide s d) k))
  close-as-fine h from s d (Some (Decided e)) k = send-fine h from (message.Decided s e) tt k

  on-close-fine : (h : Hand) (from : NodeId) (s : StampParts) (d : Decision) → Fine h → Fine (on_close h from s d)
  unfolding on_close
  on-close-fine h from s d k = close-as-fine h from s d (record_of (now h) s) k

  write-as-fine : (h : Hand) (from : NodeId) (t : TimeParts) (o : ObjectId) (v : Value) (stands is_known : Bool) (s : WriteStep) → write_step (marks (now h)) o t v ≡ s → WriteSent ever r t o v → from ≡ broker t.stamp.broker → Fine h →
      Fine (write_as h from t o v stands is_known s)
  write-as-fine h from t o v true known s e sent own k = send-fine h from (message.Stored t) tt k
  write-as-fine h from t o v false true s e sent own k = send-fine h from (message.Ended t) tt k
  write-as-fine h from t o v false false write.Put e sent own k = send-fine (note (effect.Put o t v) h) from (message.Stored t) tt (note-fine h (effect.Put o t v) k)
  write-as-fine h from t o v false false write.Again e sent own k = send-fine h from (message.Stored t) tt k
  write-as-fine h from t o v false false (write.LaterVersion x) e sent own k =
      send-fine h from (message.LaterVersion t x) (o, v, sent, own, (later-version (marks (now h)) o t v x e).0, once-now (λ l. write_step (marks l) o t v ≡ write.LaterVersion x) (now h) e) k
  write-as-fine h from t o v false false (write.LaterRead x) e sent own k =
      send-fine h from (message.LaterRead t x) (o, own, (later-read (marks (now h)) o t v x e).0, inr (v, sent, once-now (λ l. write_step (marks l) o t v ≡ write.LaterRead x) (now h) e)) k

  on-write-fine : (h : Hand) (from : NodeId) (t : TimeParts) (o : ObjectId) (v : Value) → WriteSent ever r t o v → from ≡ broker t.stamp.broker → Fine h → Fine (on_write h from t o v)
  unfolding on_write
  on-write-fine h from t o v sent own k = write-as-fine h from t o v (stands_written (marks (now h)) o t v) (is_settled (known (now h) t.stamp)) (write_step (marks (now h)) o t v) refl sent own k

  ask-as-fine : (h : Hand) (from : NodeId) (s : StampParts) (u : Option RecordState) → Fine h → Fine (ask_as h from s u)
  ask-as-fine h from s None k = k
  ask-as-fine h from s (Some (Unknown d)) k = record { number = k.number; past = k.past; held = k.held; outs = k.outs }
  ask-as-fine h from s (Some (Decided d)) k = send-fine h from (message.Tell s (is_commit d)) tt k

  on-ask-fine : (h : Hand) (from : NodeId) (s : StampParts) → Fine h → Fine (on_ask h from s)
  unfolding on_ask
  on-ask-fine h from s k = ask-as-fine h from s (record_of (now h) s) k

  learn-as-fine : (h : Hand) (s : StampParts) (c : Bool) (u : Option Bool) → Fine h → Fine (learn_as h s c u)
  learn-as-fine h s c None k = release-fine s (note (effect.Learn s c) h) (note-fine h (effect.Learn s c) k)
  learn-as-fine h s c (Some d) k = k

  pub on-learn-fine : (h : Hand) (s : StampParts) (c : Bool) → Fine h → Fine (on_learn h s c)
  unfolding on_learn
  on-learn-fine h s c k = learn-as-fine h s c (known (now h) s) k

  expire-as-fine : (m : ℕ) (s : StampParts) (h : Hand) (u : Option RecordState) → Fine h → Fine (expire_as m s h u)
  expire-as-fine m s h None k = k
  expire-as-fine m s h (Some (Unknown d)) k =
      if-fine (nat_le d m) (release s (tell_askers s false (note (effect.Decide s (decision.Expired d m)) h))) h (settled-fine s false (note (effect.Decide s (decision.Expired d m)) h) (note-fine h (effect.Decide s (decision.Expired d m)) k)) k
  expire-as-fine m s h (Some (Decided d)) k = k

  expire-fine : (m : ℕ) (s : StampParts) (h : Hand) → Fine h → Fine (expire m s h)
  unfolding expire
  expire-fine m s h k = expire-as-fine m s h (record_of (now h) s) k

  expire-all-fine : (m : ℕ) (ss : List StampParts) (h : Hand) → Fine h → Fine (expire_all m ss h)
  expire-all-fine m [] h k = k
  expire-all-fine m (s ∷ ss) h k = expire-all-fine m ss (expire m s h) (expire-fine m s h k)

  asks-fine : (ss : List StampParts) (h : Hand) → Fine h → Fine (asks ss h)
  asks-fine [] h k = k
  asks-fine (w ∷ ss) h k = asks-fine ss (send (repository w.home) (message.Ask w) h) (send-fine h (repository w.home) (message.Ask w) tt k)

  ask-again-fine : (h : Hand) → Fine h → Fine (ask_again h)
  unfolding ask_again
  ask-again-fine h k = asks-fine (waited h.number h.held []) h k

  pub hear-fine : (h : Hand) (m : ℕ) → Fine h → Fine (on_moment h m)
  unfolding on_moment
  hear-fine h m k = ask-again-fine (expire_all m (due m (now h)) (record h { moment = m })) (expire-all-fine m (due m (now h)) (record h { moment = m }) (moment-fine h m k))

  row-fine : (h : Hand) (from : NodeId) (m : Message) → accepts h.number from m ≡ true → WasSent ever from (repository r) m → Fine h → Fine (row h from m)
  row-fine h from (message.Begin s timeout) g came k = on-begin-fine h from s timeout k
  row-fine h from (message.Commit s) g came k = on-close-fine h from s decision.Committed k
  row-fine h from (message.Withdraw s) g came k = on-close-fine h from s decision.Withdrawn k
  row-fine h from (message.Read t o) g came k =
      on-read-fine h from t o
      (sent-by ever (λ i. []) [] r log from t.stamp.broker (message.Read t o) (o.repository == h.number) g came, eq-from o.repository h.number (and-right (is_broker_of t.stamp.broker from) (o.repository == h.number) g) ∙ k.number)
      (broker-is t.stamp.broker from (and-left (is_broker_of t.stamp.broker from) _ g)) k
  row-fine h from (message.Write t o v) g came k =
      on-write-fine h from t o v
      (sent-by ever (λ i. []) [] r log from t.stamp.broker (message.Write t o v) (o.repository == h.number) g came, eq-from o.repository h.number (and-right (is_broker_of t.stamp.broker from) (o.repository == h.number) g) ∙ k.number)
      (broker-is t.stamp.broker from (and-left (is_broker_of t.stamp.broker from) _ g)) k
  row-fine h from (message.Ask s) g came k = on-ask-fine h from s k
  row-fine h from (message.Tell s c) g came k = on-learn-fine h s c k
  row-fine h from m g came k = absurd (false≢true g)

  take-if : (b : Bool) (h : Hand) (from : NodeId) (m : Message) → accepts h.number from m ≡ b → WasSent ever from (repository r) m → Fine h → Fine (if b then row h from m else h)
  take-if true h from m g came k = row-fine h from m g came k
  take-if false h from m g came k = k

  pub take-fine : (h : Hand) (from : NodeId) (m : Message) → WasSent ever from (repository r) m → Fine h → Fine (on_message h from m)
  unfolding on_message
  take-fine h from m came k = take-if (accepts h.number from m) h from m refl came k

  -- a turn begins
  pub begun-fine : (mind : Mind) → Every (HeldHolds ever r) mind.held → Fine (hand_at r log mind)
  begun-fine mind held = record { number = refl; past = refl; held = held; outs = tt }
