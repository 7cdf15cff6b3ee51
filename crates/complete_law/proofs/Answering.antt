-- Each request that a repository takes is answered, but for a read that is held; and the broker heeds each of these answers while the request stands.
use Rattle.complete_law.proofs.Names.{Has, StampParts, TimeParts, same_stamp, same_time, same_stamp-self, same_time-of, Decision, NodeId, RecordState, ObjectId, Value, Effect, Message, ToRead, ToWrite, Tree, WriteStep, is_settled, stands_written, write_step, Hand, note, now, send, is_commit, known, marks, record_of, begin_as, close_as, on_begin, on_close, on_write, tell_askers, write_as, Heard, Reply, Adds, Hears, Ignored, Try, time_of, stop_of, news, row, when, Asking, Closing, Finishing, Opening, is_finished, Answers, ◌≡◌, ◌⊎◌, ℕ, ◌+◌, Bool, true, false, List, refl, subst, Option, Some, None, inl, inr, false≢true}
use Rattle.pseudo_time.specs.declared.decisions.Decision.TheVariants as decision
use Rattle.commit_record.specs.declared.states.RecordState.TheVariants as state
use Rattle.effect_form.specs.declared.effects.Effect.TheVariants as effect
use Rattle.message_form.specs.declared.messages.Message.TheVariants as message
use Rattle.object_history.specs.declared.steps.WriteStep.TheVariants as write
use Rattle.repository_laws.proofs.ServedLemmas.{sent-here, release-grows, tell-askers-grow}

-- ---- answers to a Write, a Begin, a Commit and a Withdraw

abbrev pub WriteAnswers : TimeParts → Message → Type 0
WriteAnswers t m = (m ≡ message.Stored t) ⊎ ((m ≡ message.Ended t) ⊎ (((e : TimeParts) × (m ≡ message.LaterRead t e)) ⊎ ((x : TimeParts) × (m ≡ message.LaterVersion t x))))

write-as-answers : (h : Hand) (from : NodeId) (t : TimeParts) (o : ObjectId) (v : Value) (b c : Bool) (w : WriteStep) →
    (m : Message) × WriteAnswers t m × Has (record { to = from; message = m }) (write_as h from t o v b c w).outs
write-as-answers h from t o v true c w = (message.Stored t, inl refl, sent-here h from (message.Stored t))
write-as-answers h from t o v false true w = (message.Ended t, inr (inl refl), sent-here h from (message.Ended t))
write-as-answers h from t o v false false write.Put = (message.Stored t, inl refl, sent-here (note (effect.Put o t v) h) from (message.Stored t))
write-as-answers h from t o v false false write.Again = (message.Stored t, inl refl, sent-here h from (message.Stored t))
write-as-answers h from t o v false false (write.LaterVersion x) = (message.LaterVersion t x, inr (inr (inr (x, refl))), sent-here h from (message.LaterVersion t x))
write-as-answers h from t o v false false (write.LaterRead e) = (message.LaterRead t e, inr (inr (inl (e, refl))), sent-here h from (message.LaterRead t e))

pub on-write-answers : (h : Hand) (from : NodeId) (t : TimeParts) (o : ObjectId) (v : Value) → (m : Message) × WriteAnswers t m × Has (record { to = from; message = m }) (on_write h from t o v).outs
unfolding on_write
on-write-answers h from t o v = write-as-answers h from t o v (stands_written (marks (now h)) o t v) (is_settled (known (now h) t.stamp)) (write_step (marks (now h)) o t v)

-- a Begin: Begun, or how the record was decided
abbrev pub BeginAnswers : Option RecordState → StampParts → Message → Type 0
BeginAnswers None s m = m ≡ message.Begun s
BeginAnswers (Some (state.Unknown t)) s m = m ≡ message.Begun s
BeginAnswers (Some (state.Decided d)) s m = m ≡ message.Decided s d

begin-as-answers : (h : Hand) (from : NodeId) (s : StampParts) (timeout : ℕ) (u : Option RecordState) → (m : Message) × BeginAnswers u s m × Has (record { to = from; message = m }) (begin_as h from s timeout u).outs
begin-as-answers h from s timeout None = (message.Begun s, refl, sent-here (note (effect.Begin s (h.moment + timeout)) h) from (message.Begun s))
begin-as-answers h from s timeout (Some (state.Unknown t)) = (message.Begun s, refl, sent-here h from (message.Begun s))
begin-as-answers h from s timeout (Some (state.Decided d)) = (message.Decided s d, refl, sent-here h from (message.Decided s d))

pub on-begin-answers : (h : Hand) (from : NodeId) (s : StampParts) (timeout : ℕ) → (m : Message) × BeginAnswers (record_of (now h) s) s m × Has (record { to = from; message = m }) (on_begin h from s timeout).outs
unfolding on_begin
on-begin-answers h from s timeout = begin-as-answers h from s timeout (record_of (now h) s)

-- a Commit or a Withdraw, where there is a record: what was asked for, or how it was decided before
abbrev pub CloseAnswers : Option RecordState → StampParts → Decision → Message → Type 0
CloseAnswers None s d m = ⊥
CloseAnswers (Some (state.Unknown t)) s d m = m ≡ message.Decided s d
CloseAnswers (Some (state.Decided e)) s d m = m ≡ message.Decided s e

close-as-answers : (h : Hand) (from : NodeId) (s : StampParts) (d : Decision) (u : Option RecordState) → (u ≡ None → ⊥) → (m : Message) × CloseAnswers u s d m × Has (record { to = from; message = m }) (close_as h from s d u).outs
close-as-answers h from s d None some = absurd (some refl)
close-as-answers h from s d (Some (state.Unknown t)) some =
    let j : Hand = send from (message.Decided s d) (note (effect.Decide s d) h) in (
      message.Decided s d,
      refl,
      release-grows s (tell_askers s (is_commit d) j) (record { to = from; message = message.Decided s d })
          (tell-askers-grow s (is_commit d) j (record { to = from; message = message.Decided s d }) (sent-here (note (effect.Decide s d) h) from (message.Decided s d))),
    )
close-as-answers h from s d (Some (state.Decided e)) some = (message.Decided s e, refl, sent-here h from (message.Decided s e))

pub on-close-answers : (h : Hand) (from : NodeId) (s : StampParts) (d : Decision) → (record_of (now h) s ≡ None → ⊥) →
    (m : Message) × CloseAnswers (record_of (now h) s) s d m × Has (record { to = from; message = m }) (on_close h from s d).outs
unfolding on_close
on-close-answers h from s d some = close-as-answers h from s d (record_of (now h) s) some

-- ---- the broker heeds them

hears-not : (h : Heard) → Hears h ≡ Ignored → ⊥
hears-not h e = absurd (cc e)

adds-not : (f : Effect) → Adds f ≡ Ignored → ⊥
adds-not f e = absurd (cc e)

when-not : (c : Bool) (r : Reply) → c ≡ true → (r ≡ Ignored → ⊥) → when c r ≡ Ignored → ⊥
when-not true r e n q = n q
when-not false r e n q = absurd (false≢true e)

module _ (script : List ℕ → Tree) where
  pub heeds-read : (t : Try) (o : ObjectId) (h : Heard) (m : Message) → Answers (time_of t) m → row script (Asking t (ToRead o)) h (news m) ≡ Ignored → ⊥
  heeds-read t o h m (inl (v, e)) q = when-not (same_time (time_of t) (time_of t)) _ (same_time-of (time_of t) (time_of t) refl) (adds-not _) (subst (λ z. row script (Asking t (ToRead o)) h (news z) ≡ Ignored) e q)
  heeds-read t o h m (inr (inl e)) q = when-not (same_time (time_of t) (time_of t)) _ (same_time-of (time_of t) (time_of t) refl) (hears-not _) (subst (λ z. row script (Asking t (ToRead o)) h (news z) ≡ Ignored) e q)
  heeds-read t o h m (inr (inr (x, e))) q = when-not (same_time (time_of t) (time_of t)) _ (same_time-of (time_of t) (time_of t) refl) (adds-not _) (subst (λ z. row script (Asking t (ToRead o)) h (news z) ≡ Ignored) e q)

  pub heeds-write : (t : Try) (o : ObjectId) (v : Value) (h : Heard) (m : Message) → WriteAnswers (time_of t) m → row script (Asking t (ToWrite o v)) h (news m) ≡ Ignored → ⊥
  heeds-write t o v h m (inl e) q = when-not (same_time (time_of t) (time_of t)) _ (same_time-of (time_of t) (time_of t) refl) (adds-not _) (subst (λ z. row script (Asking t (ToWrite o v)) h (news z) ≡ Ignored) e q)
  heeds-write t o v h m (inr (inl e)) q = when-not (same_time (time_of t) (time_of t)) _ (same_time-of (time_of t) (time_of t) refl) (hears-not _) (subst (λ z. row script (Asking t (ToWrite o v)) h (news z) ≡ Ignored) e q)
  heeds-write t o v h m (inr (inr (inl (x, e)))) q = when-not (same_time (time_of t) (time_of t)) _ (same_time-of (time_of t) (time_of t) refl) (adds-not _) (subst (λ z. row script (Asking t (ToWrite o v)) h (news z) ≡ Ignored) e q)
  heeds-write t o v h m (inr (inr (inr (x, e)))) q = when-not (same_time (time_of t) (time_of t)) _ (same_time-of (time_of t) (time_of t) refl) (adds-not _) (subst (λ z. row script (Asking t (ToWrite o v)) h (news z) ≡ Ignored) e q)

  pub heeds-begun : (t : Try) (h : Heard) → row script (Opening t) h (news (message.Begun t.stamp)) ≡ Ignored → ⊥
  heeds-begun t h q = when-not (same_stamp t.stamp t.stamp) _ (same_stamp-self t.stamp) (hears-not _) q

  -- an early Committed, where the script is finished
  pub heeds-early : (t : Try) (h : Heard) → is_finished (stop_of script t) ≡ true → row script (Opening t) h (news (message.Decided t.stamp decision.Committed)) ≡ Ignored → ⊥
  heeds-early t h f q = when-not (same_stamp t.stamp t.stamp) _ (same_stamp-self t.stamp) (when-not (is_finished (stop_of script t)) _ f (adds-not _)) q

  -- a Commit is decided so, or has expired; it wasn't withdrawn
  pub heeds-commit : (t : Try) (h : Heard) (d : Decision) → (d ≡ decision.Withdrawn → ⊥) → row script (Finishing t) h (news (message.Decided t.stamp d)) ≡ Ignored → ⊥
  heeds-commit t h decision.Withdrawn n q = n refl
  heeds-commit t h _ n q = when-not (same_stamp t.stamp t.stamp) _ (same_stamp-self t.stamp) (adds-not _) q

  pub heeds-close : (t : Try) (h : Heard) (d : Decision) → row script (Closing t) h (news (message.Decided t.stamp d)) ≡ Ignored → ⊥
  heeds-close t h d q = when-not (same_stamp t.stamp t.stamp) _ (same_stamp-self t.stamp) (hears-not _) q
