-- A node that is reopened after a crash never finds another plan: over any log that is ready, it is ready with any beginning of what a turn adds.
use Rattle.broker_laws.proofs.Names.{Effect, Message, NodeId, Out, Post, Tree, Task, Book, book, other_plan, unfit_act, first_some, news, row, stage, standing, broker, Desk, Go, Hear, Input, Take, desk_turn, fuel, hears, note, note_if, reply, say, send, settle_up, state, all_effects, Heard, Reply, Adds, Hears, Ignored, IsReady, true, inl, ◌≡◌, ℕ, zero, suc, nat_lt, false, List, [], ◌∷◌, refl, sym, subst, Option, Some, None, AlwaysReady}
use Rattle.broker_laws.proofs.Desks.{Good, OwedOk, ReplyOk, news-came, note-state, owed-ok, row-ok, stage-ok}

module _ (script : List ℕ → Tree) (me run : ℕ) (acts : List Task) where
  note-ready : (ever : List Post) (d : Desk) (f : Effect) → Good script me run acts ever (state script me run acts d) f → IsReady script me run acts (all_effects d) → IsReady script me run acts (all_effects (note f d))
  unfolding other_plan book
  note-ready ever d f g r = record {
    not_old = subst (λ l. nat_lt run (book l).run ≡ false) (sym (note-state script me run acts ever d f g)) (g.run_stays r.not_old);
    same_plan = subst (λ x. first_some x (unfit_act script me run acts (state script me run acts d) f) ≡ None) (sym r.same_plan) g.planned;
  }

  note-always : (ever : List Post) (d : Desk) (f : Effect) → Good script me run acts ever (state script me run acts d) f → AlwaysReady script me run acts d → AlwaysReady script me run acts (note f d)
  note-always ever d f g r zero = note-ready ever d f g (r zero)
  note-always ever d f g r (suc n) = r n

  if-always : (next : Desk → Desk) → ((d : Desk) → AlwaysReady script me run acts d → AlwaysReady script me run acts (next d)) → (d : Desk) (o : Option Effect) →
      OwedOk script me run acts [] (state script me run acts d) o → AlwaysReady script me run acts d → AlwaysReady script me run acts (note_if next o d)
  if-always next step d None g r = r
  if-always next step d (Some f) g r = step (note f d) (note-always [] d f g r)

  settle-always : (n : ℕ) (d : Desk) → AlwaysReady script me run acts d → AlwaysReady script me run acts (settle_up script me run acts n d)
  unfolding settle_up
  settle-always zero d r = r
  settle-always (suc n) d r = if-always (settle_up script me run acts n) (λ x y. settle-always n x y) d _ (owed-ok script me run acts [] (state script me run acts d) d.heard) r

  send-always : (d : Desk) (o : Option Out) → AlwaysReady script me run acts d → AlwaysReady script me run acts (send o d)
  send-always d None r = r
  send-always d (Some o) r = λ n. r n

  hears-always : (d : Desk) (h : Heard) → AlwaysReady script me run acts d → AlwaysReady script me run acts (hears h d)
  hears-always d h r = λ n. r n

  say-always : (d : Desk) → AlwaysReady script me run acts d → AlwaysReady script me run acts (say script me run acts (settle_up script me run acts (fuel acts) d))
  say-always d r = send-always (settle_up script me run acts (fuel acts) d) _ (settle-always (fuel acts) d r)

  reply-always : (ever : List Post) (d : Desk) (r : Reply) → ReplyOk script me run acts ever (state script me run acts d) r → AlwaysReady script me run acts d → AlwaysReady script me run acts (reply script me run acts d r)
  reply-always ever d Ignored g r = r
  reply-always ever d (Hears h) g r = say-always (hears h d) (hears-always d h r)
  reply-always ever d (Adds f) g r = say-always (note f d) (note-always ever d f g r)

  -- as if the message was sent
  alone : NodeId → Message → List Post
  alone from m = record { from = from; to = broker me; message = m } ∷ []

  pub turn-always : (d : Desk) (i : Input) → AlwaysReady script me run acts d → AlwaysReady script me run acts (desk_turn script me run acts d i)
  unfolding alone
  turn-always d Go r = say-always (hears (record d.heard { gone = true }) d) (hears-always d (record d.heard { gone = true }) r)
  turn-always d (Hear m) r = send-always d (standing (stage script run (state script me run acts d) d.heard)) r
  turn-always d (Take from m) r =
      let b : Book = state script me run acts d in
      reply-always (alone from m) d (row script (stage script run b d.heard) d.heard (news m)) (row-ok script me run acts (alone from m) b (stage script run b d.heard) d.heard (news m)
      (stage-ok script me run acts b d.heard) (news-came script me run acts (alone from m) m (from, inl refl))) r
