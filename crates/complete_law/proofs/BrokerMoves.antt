-- The entries at which a broker takes a turn: it takes a message, or it goes.
use Rattle.complete_law.proofs.Names.{Has, has-left, NodeId, NodeKind, Message, Out, Grew, Fate, Reply, Ignored, book, row, news, stage, broker, Desk, reply, state, FitsLog, IsReady, IsTidy, TurnHolds, kept, grown, turn-added, Base, Flags, Life, World, sent_by, step, went, all_effects, MayTake, MayGo, Refines, logs_at, soft_of, node_turns, node_facts, NodeOk, around, happened, node-laws, facts-of, DeskSound, Tells, standing_at, ◌≡◌, ◌⊎◌, ℕ, true, List, [], ◌++◌, reverse, refl, sym, ◌∙◌, ap, subst, Some, if◌then◌else◌, inl, inr, reverse-append, HaveCauses, desk-ok, turn-rests, go-rests, take-sound, go-sound, heard-says, go-says, take-stands, go-stands}
use Rattle.pseudo_time.specs.declared.nodes.NodeKind.TheVariants as kind
use Rattle.message_form.specs.declared.messages.Message.TheVariants as message
use Rattle.broker_core.specs.Turns as desks
use Rattle.world_core.specs.declared.entries.Entry.TheVariants as entry
use Rattle.serial_law.proofs.Keeps.{inv-reached}
use Rattle.complete_law.proofs.BrokerEntries.{Moved, moved-asked, moved-askers, moved-placed, moved-rested, moved-said, moved-sound, moved-waits, ignored-placed, owed-placed, PlacedAt}
use Rattle.complete_law.proofs.Frames.{came-sent, desk-after, goes, life-with, one-turn, take-turn, takes, turn-outside, turn-shut, turn-ups, turned}
use Rattle.complete_law.proofs.Hearings.{tells-so}
use Rattle.complete_law.proofs.Places.{IsBegun, IsDecided, tasks_of, desk_of, CalmWorld}

ignored-or : (r : Reply) → (r ≡ Ignored) ⊎ (r ≡ Ignored → ⊥)
ignored-or Ignored = inl refl
ignored-or _ = inr (λ e. absurd (cc e))

module _ (b : Base) (w : World) (calm : CalmWorld b w) (f : Refines (node_turns b.script) (node_facts b.script) b (λ n. []) (λ n. []) [] (λ t. ⊥) w) where
  pub node-there : (n : NodeId) → (w.flags n).known ≡ true → NodeOk (node_facts b.script) (around (happened (node_turns b.script) f.events)) n (soft_of (w.life n))
  node-there n known = subst (λ x. NodeOk (node_facts b.script) (around (happened (node_turns b.script) f.events)) n x) (f.models.lives n known)
      ((inv-reached b.script (node_turns b.script) (node_facts b.script) (node-laws b.script) f.events f.may).nodes n)

  -- a broker that was opened is right, with what isn't gated
  pub turn-there : (n : ℕ) → (w.flags (broker n)).known ≡ true → TurnHolds b.script n b.run (tasks_of b n) (sent_by w) (desk_of b w n)
  turn-there n known =
      let l : Life = w.life (broker n) in
      let ok : NodeOk (node_facts b.script) (around (happened (node_turns b.script) f.events)) (broker n) (soft_of (w.life (broker n))) = node-there (broker n) known in
      let all : reverse (all_effects l) ≡ reverse l.fresh ++ reverse l.gated = reverse-append l.gated l.fresh in
      record {
        desk = record {
          tidy = subst (IsTidy b.script n) (sym all) (grown b.script n (reverse l.gated) (reverse l.fresh) ok.tidy ok.grew);
          grew = tt;
          causes = subst (λ z. HaveCauses n (sent_by w) z) (sym all) (subst (λ e. HaveCauses n e (reverse l.fresh ++ reverse l.gated)) f.models.ever ok.proofs);
          outs = tt;
        };
        ready = subst (λ z. IsReady b.script n b.run (tasks_of b n) z) (sym all) (f.models.ready (broker n) known);
      }

  module _ (n k : ℕ) (fates : List Fate) (may : MayTake fates w (broker n) k) where
    abbrev from0 : NodeId
    from0 = may.sending.post.from

    abbrev m0 : Message
    m0 = may.sending.post.message

    abbrev w' : World
    w' = step b w (entry.Take (broker n) k)

    abbrev d0 : Desk
    d0 = desk_of b w n

    abbrev d : Desk
    d = turned b w n (desks.Take from0 m0)

    mine : (w.flags (broker n)).known ≡ true
    mine = sym (calm.ups (broker n)) ∙ may.up

    take-moved : Moved b w w' n d from0 m0
    take-moved = take-turn b w calm (broker n) k fates may (life-with b (w.life (broker n)) d) (takes b w n from0 m0) (λ o h. has-left (w.life (broker n)).outs d.outs o h)

    pub was-sent : Has (record { from = from0; to = broker n; message = m0 }) (sent_by w)
    was-sent = came-sent b w calm (broker n) k fates may

    pub turn0 : TurnHolds b.script n b.run (tasks_of b n) (sent_by w) d0
    turn0 = turn-there n mine

    turn1 : TurnHolds b.script n b.run (tasks_of b n) (sent_by w) d
    turn1 = desk-ok b.script n b.run (tasks_of b n) (sent_by w) d0 (desks.Take from0 m0) turn0 was-sent

    counted : (x : Desk) → TurnHolds b.script n b.run (tasks_of b n) (sent_by w) x → state b.script n b.run (tasks_of b n) x ≡ book (desks.all_effects x)
    counted x t = ap book (kept b.script n b.run (tasks_of b n) (desks.all_effects x) (grown b.script n x.past x.added t.desk.tidy t.desk.grew) t.ready.same_plan)

    gated-known : reverse (logs_at (λ n. []) w (broker n)) ≡ reverse (w.life (broker n)).gated
    gated-known = ap (λ c. reverse (if c then (w.life (broker n)).gated else [])) mine

    pub tells : Tells b.script n b.run (tasks_of b n) (IsBegun w) (IsDecided w) (state b.script n b.run (tasks_of b n) d0) (news m0)
    tells =
        let l : Life = w.life (broker n) in
        let ok : NodeOk (node_facts b.script) (around (happened (node_turns b.script) f.events)) (broker n) (soft_of (w.life (broker n))) = node-there (broker n) mine in
        tells-so b w calm (facts-of b.script (node_turns b.script) (node_facts b.script) (node-laws b.script) b (λ n. []) [] (λ t. ⊥) w f) n
        (subst (IsTidy b.script n) (sym gated-known) ok.tidy) (reverse l.fresh) (reverse-append l.gated l.fresh ∙ ap (λ z. reverse l.fresh ++ z) (sym gated-known))
        (subst (λ z. Grew (FitsLog b.script n) z (reverse l.fresh)) (sym gated-known) ok.grew) (tasks_of b n) (state b.script n b.run (tasks_of b n) d0) (counted d0 turn0) from0 m0 was-sent

    gone : (w.flags (broker n)).gone ≡ true
    gone = may.gone refl

    sound1 : DeskSound b.script n b.run (tasks_of b n) (IsBegun w) (IsDecided w) d
    sound1 = take-sound b.script n b.run (tasks_of b n) (IsBegun w) (IsDecided w) (sent_by w) d0 from0 m0 (from0, was-sent) tells (calm.sound n)

    log-there : reverse (all_effects (life-with b (w.life (broker n)) d)) ≡ desks.all_effects d
    log-there = (desk-after b w n (desks.Take from0 m0)).0

    abbrev the-reply : Reply
    the-reply = row b.script (stage b.script b.run (state b.script n b.run (tasks_of b n) d0) d0.heard) d0.heard (news m0)

    -- where the request is after the turn
    placed1 : (o : Out) → (w'.flags (broker n)).gone ≡ true → standing_at b.script n b.run (tasks_of b n) (desks.all_effects d) d.heard ≡ Some o → PlacedAt b w w' n d from0 m0 take-moved calm log-there n (desks.all_effects d) d.heard o
    placed1 o g e = elim (ignored-or the-reply) [
      | inl q ↦ subst (λ x. standing_at b.script n b.run (tasks_of b n) (desks.all_effects x) x.heard ≡ Some o → PlacedAt b w w' n d from0 m0 take-moved calm log-there n (desks.all_effects x) x.heard o)
          (sym (ap (reply b.script n b.run (tasks_of b n) d0) q)) (λ e. ignored-placed b w w' n d from0 m0 take-moved calm log-there q o gone e) e
      | inr q ↦ owed-placed b w w' n d from0 m0 take-moved calm log-there o (heard-says b.script n b.run (tasks_of b n) (IsBegun w) (IsDecided w) d0 the-reply o q e)
    ]

    -- a broker takes a message
    pub take-calm : CalmWorld b w'
    take-calm = record {
      ups = turn-ups w w' (broker n) _ _ take-moved b calm;
      outside = turn-outside w w' (broker n) _ _ take-moved b calm;
      shut = turn-shut w w' (broker n) _ _ take-moved b calm;
      still = calm.still;
      untaken = take-moved.untaken;
      rested = moved-rested b w w' n d from0 m0 take-moved calm log-there (turn-rests b.script n b.run (tasks_of b n) d0 (desks.Take from0 m0) (calm.rested n gone));
      sound = moved-sound b w w' n d from0 m0 take-moved calm log-there sound1;
      said = moved-said b w w' n d from0 m0 take-moved calm log-there ((turn-added b.script n b.run (tasks_of b n) d0 (desks.Take from0 m0)).past) turn1.desk.tidy turn1.desk.grew sound1 (counted d turn1)
          (λ o h. take-stands b.script n b.run (tasks_of b n) (IsBegun w) (IsDecided w) d0 from0 m0 o refl h);
      placed = moved-placed b w w' n d from0 m0 take-moved calm log-there placed1;
      waits = moved-waits b w w' n d from0 m0 take-moved calm log-there;
      asked = moved-asked b w w' n d from0 m0 take-moved calm log-there;
      askers = moved-askers b w w' n d from0 m0 take-moved calm log-there;
    }

  -- ---- a broker goes

  went-up : (k : NodeKind) (x : Flags) → ((went k x).up ≡ x.up) × ((went k x).known ≡ x.known)
  went-up kind.Repository x = (refl, refl)
  went-up kind.Broker x = (refl, refl)

  module _ (n : ℕ) (may : MayGo w (broker n)) where
    abbrev nowhere : Message
    nowhere = message.Ask (record { clock = 0; broker = 0; home = 0 })

    abbrev gw : World
    gw = step b w (entry.Go (broker n))

    abbrev g0 : Desk
    g0 = desk_of b w n

    abbrev gd : Desk
    gd = turned b w n desks.Go

    known-here : (w.flags (broker n)).known ≡ true
    known-here = sym (calm.ups (broker n)) ∙ may.up

    go-moved : Moved b w gw n gd (broker n) nowhere
    go-moved =
        one-turn b w calm (broker n) (entry.Go (broker n)) (λ m. refl) may.up went-up refl refl refl (life-with b (w.life (broker n)) gd) (λ p. p ≡ record { from = broker n; to = broker n; message = nowhere }) (goes b w n)
        (λ o h. has-left (w.life (broker n)).outs gd.outs o h) (λ j s at none. inl none) calm.untaken

    g-turn0 : TurnHolds b.script n b.run (tasks_of b n) (sent_by w) g0
    g-turn0 = turn-there n known-here

    g-turn1 : TurnHolds b.script n b.run (tasks_of b n) (sent_by w) gd
    g-turn1 = desk-ok b.script n b.run (tasks_of b n) (sent_by w) g0 desks.Go g-turn0 tt

    g-counted : state b.script n b.run (tasks_of b n) gd ≡ book (desks.all_effects gd)
    g-counted = ap book (kept b.script n b.run (tasks_of b n) (desks.all_effects gd) (grown b.script n gd.past gd.added g-turn1.desk.tidy g-turn1.desk.grew) g-turn1.ready.same_plan)

    g-sound : DeskSound b.script n b.run (tasks_of b n) (IsBegun w) (IsDecided w) gd
    g-sound = go-sound b.script n b.run (tasks_of b n) (IsBegun w) (IsDecided w) g0 (calm.sound n)

    g-log : reverse (all_effects (life-with b (w.life (broker n)) gd)) ≡ desks.all_effects gd
    g-log = (desk-after b w n desks.Go).0

    pub go-calm : CalmWorld b gw
    go-calm = record {
      ups = turn-ups w gw (broker n) _ _ go-moved b calm;
      outside = turn-outside w gw (broker n) _ _ go-moved b calm;
      shut = turn-shut w gw (broker n) _ _ go-moved b calm;
      still = calm.still;
      untaken = calm.untaken;
      rested = moved-rested b w gw n gd (broker n) nowhere go-moved calm g-log (go-rests b.script n b.run (tasks_of b n) g0);
      sound = moved-sound b w gw n gd (broker n) nowhere go-moved calm g-log g-sound;
      said = moved-said b w gw n gd (broker n) nowhere go-moved calm g-log ((turn-added b.script n b.run (tasks_of b n) g0 desks.Go).past) g-turn1.desk.tidy g-turn1.desk.grew g-sound g-counted
          (λ o h. go-stands b.script n b.run (tasks_of b n) (IsBegun w) (IsDecided w) g0 o refl h);
      placed = moved-placed b w gw n gd (broker n) nowhere go-moved calm g-log
          (λ o g e. owed-placed b w gw n gd (broker n) nowhere go-moved calm g-log o (go-says b.script n b.run (tasks_of b n) (IsBegun w) (IsDecided w) g0 o e));
      waits = moved-waits b w gw n gd (broker n) nowhere go-moved calm g-log;
      asked = moved-asked b w gw n gd (broker n) nowhere go-moved calm g-log;
      askers = moved-askers b w gw n gd (broker n) nowhere go-moved calm g-log;
    }
