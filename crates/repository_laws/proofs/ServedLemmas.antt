-- A request is answered in its turn, or held.
use Rattle.repository_laws.proofs.Names.{same_stamp, repository, has-left, has-right, Has, StampParts, TimeParts, Decision, NodeId, Value, Message, ObjectId, Out, RecordState, ReadStep, Answer, Wait, LaterRead, WriteStep, is_settled, read_step, stands_written, write_step, is_commit, known, marks, record_of, HeldRead, Asker, put-in, Hand, note, now, send, accepts, begin_as, close_as, hold, on_begin, on_close, on_message, on_read, on_write, read_as, read_known, release, reread, row, tell_askers, tells, unhold, waits_for, write_as, IsServed, ◌≡◌, ◌⊎◌, ℕ, ◌+◌, ◌==◌, Bool, true, false, ◌||◌, not, List, [], ◌∷◌, refl, sym, subst, Option, Some, None, if◌then◌else◌, inl, inr, filter, IsAnswer, GetsAnswer, IsHeld}
use Rattle.pseudo_time.specs.declared.decisions.Decision.TheVariants as decision
use Rattle.message_form.specs.declared.messages.Message.TheVariants as message
use Rattle.effect_form.specs.declared.effects.Effect.TheVariants as effect
use Rattle.commit_record.specs.declared.states.RecordState.TheVariants as state
use Rattle.object_history.specs.declared.steps.WriteStep.TheVariants as write

-- ---- what a repository owes stays owed in its turn

abbrev pub Grows : Hand → Hand → Type 0
Grows h k = (o : Out) → Has o h.outs → Has o k.outs

pub send-grows : (h : Hand) (to : NodeId) (m : Message) → Grows h (send to m h)
send-grows h to m o i = has-left h.outs (record { to = to; message = m } ∷ []) o i

pub sent-here : (h : Hand) (to : NodeId) (m : Message) → Has (record { to = to; message = m }) (send to m h).outs
sent-here h to m = has-right h.outs (record { to = to; message = m } ∷ []) (record { to = to; message = m }) (inl refl)

pub read-as-grows : (before : List (TimeParts × HeldRead)) (h : Hand) (from : NodeId) (t : TimeParts) (o : ObjectId) (s : ReadStep) → Grows h (read_as before h from t o s)
read-as-grows before h from t o (Answer v true) x i = has-left h.outs (record { to = from; message = message.Value t v } ∷ []) x i
read-as-grows before h from t o (Answer v false) x i = has-left h.outs (record { to = from; message = message.Value t v } ∷ []) x i
read-as-grows before h from t o (LaterRead e) x i = has-left h.outs (record { to = from; message = message.LaterRead t e } ∷ []) x i
read-as-grows before h from t o (Wait w) x i = go ((w.home == h.number) || waits_for w before)
  where
    j : Hand
    j = hold t (record { from = from; object = o; waits = w }) h

    go : (b : Bool) → Has x (if b then hold t (record { from = from; object = o; waits = w }) h else send (repository w.home) (message.Ask w) (hold t (record { from = from; object = o; waits = w }) h)).outs
    go true = i
    go false = has-left h.outs (record { to = repository w.home; message = message.Ask w } ∷ []) x i

pub read-known-grows : (h : Hand) (from : NodeId) (t : TimeParts) (o : ObjectId) (u : Option Bool) → Grows h (read_known h from t o u)
read-known-grows h from t o (Some false) x i = has-left h.outs (record { to = from; message = message.Ended t } ∷ []) x i
read-known-grows h from t o (Some true) x i = read-as-grows h.held (unhold t h) from t o (read_step (marks (now h)) o t) x i
read-known-grows h from t o None x i = read-as-grows h.held (unhold t h) from t o (read_step (marks (now h)) o t) x i

pub on-read-grows : (h : Hand) (from : NodeId) (t : TimeParts) (o : ObjectId) → Grows h (on_read h from t o)
unfolding on_read
on-read-grows h from t o x i = read-known-grows h from t o (known (now h) t.stamp) x i

pub reread-grows : (xs : List (TimeParts × HeldRead)) (h : Hand) → Grows h (reread xs h)
reread-grows [] h x i = i
reread-grows (e ∷ xs) h x i = reread-grows xs (on_read h e.1.from e.0 e.1.object) x (on-read-grows h e.1.from e.0 e.1.object x i)

pub release-grows : (s : StampParts) (h : Hand) → Grows h (release s h)
unfolding release
release-grows s h x i = reread-grows (filter (λ e. same_stamp e.1.waits s) h.held) (record h { held = filter (λ e. not (same_stamp e.1.waits s)) h.held }) x i

pub tells-grow : (as' : List Asker) (s : StampParts) (c : Bool) (h : Hand) → Grows h (tells as' s c h)
tells-grow [] s c h x i = i
tells-grow (a ∷ as') s c h x i = tells-grow as' s c (send (repository a.repository) (message.Tell s c) h) x (send-grows h (repository a.repository) (message.Tell s c) x i)

pub tell-askers-grow : (s : StampParts) (c : Bool) (h : Hand) → Grows h (tell_askers s c h)
unfolding tell_askers
tell-askers-grow s c h x i = tells-grow (filter (λ a. same_stamp a.stamp s) h.askers) s c (record h { askers = filter (λ a. not (same_stamp a.stamp s)) h.askers }) x i

-- ---- each kind of request

gets : (h : Hand) (from : NodeId) (m a : Message) → IsAnswer m a → GetsAnswer (send from a h) from m
gets h from m a is = (a, is, sent-here h from a)

write-as-gets : (h : Hand) (from : NodeId) (t : TimeParts) (o : ObjectId) (v : Value) (b c : Bool) (w : WriteStep) → GetsAnswer (write_as h from t o v b c w) from (message.Write t o v)
write-as-gets h from t o v true c w = gets h from (message.Write t o v) (message.Stored t) (inl refl)
write-as-gets h from t o v false true w = gets h from (message.Write t o v) (message.Ended t) (inr (inl refl))
write-as-gets h from t o v false false write.Put = gets (note (effect.Put o t v) h) from (message.Write t o v) (message.Stored t) (inl refl)
write-as-gets h from t o v false false write.Again = gets h from (message.Write t o v) (message.Stored t) (inl refl)
write-as-gets h from t o v false false (write.LaterVersion x) = gets h from (message.Write t o v) (message.LaterVersion t x) (inr (inr (inr (x, refl))))
write-as-gets h from t o v false false (write.LaterRead e) = gets h from (message.Write t o v) (message.LaterRead t e) (inr (inr (inl (e, refl))))

begin-as-gets : (h : Hand) (from : NodeId) (s : StampParts) (timeout : ℕ) (u : Option RecordState) → GetsAnswer (begin_as h from s timeout u) from (message.Begin s timeout)
begin-as-gets h from s timeout None = gets (note (effect.Begin s (h.moment + timeout)) h) from (message.Begin s timeout) (message.Begun s) (inl refl)
begin-as-gets h from s timeout (Some (state.Unknown t)) = gets h from (message.Begin s timeout) (message.Begun s) (inl refl)
begin-as-gets h from s timeout (Some (state.Decided d)) = gets h from (message.Begin s timeout) (message.Decided s d) (inr (d, refl))

-- Decided is owed, whatever else the decision sets free
close-as-gets : (h : Hand) (from : NodeId) (s : StampParts) (d : Decision) (u : Option RecordState) → (u ≡ None) ⊎ ((e : Decision) × Has (record { to = from; message = message.Decided s e }) (close_as h from s d u).outs)
close-as-gets h from s d None = inl refl
close-as-gets h from s d (Some (state.Unknown t)) =
    let j : Hand = send from (message.Decided s d) (note (effect.Decide s d) h) in
    inr (
      d,
      release-grows s (tell_askers s (is_commit d) j) (record { to = from; message = message.Decided s d })
          (tell-askers-grow s (is_commit d) j (record { to = from; message = message.Decided s d }) (sent-here (note (effect.Decide s d) h) from (message.Decided s d))),
    )
close-as-gets h from s d (Some (state.Decided e)) = inr (e, sent-here h from (message.Decided s e))

close-gets : (h : Hand) (from : NodeId) (s : StampParts) (d : Decision) → (record_of (now h) s ≡ None) ⊎ ((e : Decision) × Has (record { to = from; message = message.Decided s e }) (on_close h from s d).outs)
unfolding on_close
close-gets h from s d = close-as-gets h from s d (record_of (now h) s)

read-as-gets : (before : List (TimeParts × HeldRead)) (h : Hand) (from : NodeId) (t : TimeParts) (o : ObjectId) (s : ReadStep) →
    GetsAnswer (read_as before h from t o s) from (message.Read t o) ⊎ IsHeld (read_as before h from t o s) from t o
read-as-gets before h from t o (Answer v true) = inl (gets (note (effect.Stretch o t) h) from (message.Read t o) (message.Value t v) (inr (inl (v, refl))))
read-as-gets before h from t o (Answer v false) = inl (gets h from (message.Read t o) (message.Value t v) (inr (inl (v, refl))))
read-as-gets before h from t o (LaterRead e) = inl (gets h from (message.Read t o) (message.LaterRead t e) (inr (inr (e, refl))))
read-as-gets before h from t o (Wait w) = inr (w, go ((w.home == h.number) || waits_for w before))
  where
    held : Has (t, record { from = from; object = o; waits = w }) (hold t (record { from = from; object = o; waits = w }) h).held
    held = put-in t (record { from = from; object = o; waits = w }) h.held

    go : (b : Bool) →
        Has (t, record { from = from; object = o; waits = w })
        (if b then hold t (record { from = from; object = o; waits = w }) h else send (repository w.home) (message.Ask w) (hold t (record { from = from; object = o; waits = w }) h)).held
    go true = held
    go false = held

read-known-gets : (h : Hand) (from : NodeId) (t : TimeParts) (o : ObjectId) (u : Option Bool) → GetsAnswer (read_known h from t o u) from (message.Read t o) ⊎ IsHeld (read_known h from t o u) from t o
read-known-gets h from t o (Some false) = inl (gets (unhold t h) from (message.Read t o) (message.Ended t) (inl refl))
read-known-gets h from t o (Some true) = read-as-gets h.held (unhold t h) from t o (read_step (marks (now h)) o t)
read-known-gets h from t o None = read-as-gets h.held (unhold t h) from t o (read_step (marks (now h)) o t)

either-close : (h k : Hand) (from : NodeId) (s : StampParts) (m : Message) → ((a : Message) → ((d : Decision) × (a ≡ message.Decided s d)) → IsAnswer m a) →
    (record_of (now h) s ≡ None) ⊎ ((e : Decision) × Has (record { to = from; message = message.Decided s e }) k.outs) → (record_of (now h) s ≡ None) ⊎ GetsAnswer k from m
either-close h k from s m is (inl none) = inl none
either-close h k from s m is (inr got) = inr (message.Decided s got.0, is (message.Decided s got.0) (got.0, refl), got.1)

row-serves : (h : Hand) (from : NodeId) (m : Message) → IsServed h (row h from m) from m
unfolding on_begin on_read on_write
row-serves h from (message.Begin s timeout) = begin-as-gets h from s timeout (record_of (now h) s)
row-serves h from (message.Commit s) = either-close h (on_close h from s decision.Committed) from s (message.Commit s) (λ a is. is) (close-gets h from s decision.Committed)
row-serves h from (message.Withdraw s) = either-close h (on_close h from s decision.Withdrawn) from s (message.Withdraw s) (λ a is. is) (close-gets h from s decision.Withdrawn)
row-serves h from (message.Read t o) = read-known-gets h from t o (known (now h) t.stamp)
row-serves h from (message.Write t o v) = write-as-gets h from t o v (stands_written (marks (now h)) o t v) (is_settled (known (now h) t.stamp)) (write_step (marks (now h)) o t v)
row-serves h from _ = tt

pub serves : (h : Hand) (from : NodeId) (m : Message) → accepts h.number from m ≡ true → IsServed h (on_message h from m) from m
unfolding on_message
serves h from m in-order = subst (λ (b : Bool). IsServed h (if b then row h from m else h) from m) (sym in-order) (row-serves h from m)
