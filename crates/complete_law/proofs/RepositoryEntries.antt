-- An entry at which a repository takes a turn keeps what always holds, where the message that it took is served.
use Rattle.complete_law.proofs.Names.{Has, every-has, has-right, StampParts, TimeParts, Decision, NodeId, ObjectId, Effect, Message, Out, Post, post, ToRead, ToWrite, HeldRead, Asker, Hand, now, waits_for, hand_at, on_learn, on_message, gives, after_input, Taking, Learning, Heard, Ignored, Try, time_of, row, news, Stage, Refused, Opening, Asking, Finishing, Closing, stage, standing, repository, broker, desk_at, state, IsRested, Base, Life, Sending, World, all_effects, Waits, standing_at, read_to, Askers, DeskSound, Answers, Keeps, Serves, ask_of, tell_of, ◌≡◌, ◌≢◌, ◌⊎◌, ℕ, ◌==◌, Bool, true, false, List, ◌++◌, map, reverse, refl, sym, ◌∙◌, ap, subst, Some, inl, inr, append_assoc, reverse-append, reverse-reverse, mind_of}
use Rattle.pseudo_time.specs.declared.nodes.NodeKind.TheVariants as kind
use Rattle.effect_form.specs.declared.effects.Effect.TheVariants as effect
use Rattle.message_form.specs.declared.messages.Message.TheVariants as message
use Rattle.complete_law.proofs.BrokerEntries.{sound-more}
use Rattle.complete_law.proofs.Answering.{heeds-read}
use Rattle.repository_core.specs.Turns as hands
use Rattle.complete_law.proofs.Frames.{OneTurn, turn-flies, turn-outside, turn-shut, turn-still, turn-ups}
use Rattle.complete_law.proofs.Places.{log_of, held_of, IsBegun, IsDecided, Flying, AskedFor, tasks_of, desk_of, standing_in, Heeds, Placed, SaidOf, Ended, said-on, CalmWorld}

-- a life after a repository's turn
abbrev pub life-hand : Life → Hand → Life
life-hand l h = record { gated = l.gated; fresh = l.fresh ++ reverse h.added; outs = l.outs ++ h.outs; mind = record { hands = mind_of h; heard = l.mind.heard } }

pub hand-takes : (b : Base) (w : World) (n : ℕ) (from : NodeId) (m : Message) →
    after_input b (repository n) (w.life (repository n)) (Taking from m) ≡ life-hand (w.life (repository n)) (on_message (hand_at n (log_of w (repository n)) (w.life (repository n)).mind.hands) from m)
unfolding gives hands.gives
hand-takes b w n from m = refl

pub hand-learns : (b : Base) (w : World) (n : ℕ) (s : StampParts) (c : Bool) →
    after_input b (repository n) (w.life (repository n)) (Learning s c) ≡ life-hand (w.life (repository n)) (on_learn (hand_at n (log_of w (repository n)) (w.life (repository n)).mind.hands) s c)
unfolding gives hands.gives
hand-learns b w n s c = refl

-- one repository's turn: `h` is its hand after it, and of a message that it took `Taken` holds
pub record Turned (w w' : World) (n : ℕ) (h : Hand) (Taken : Post → Type 0) : Type 0 where
  pub turn : OneTurn w w' (repository n) (life-hand (w.life (repository n)) h) Taken
  -- the hand's log is the log with its effects
  pub past : h.past ≡ log_of w (repository n)
  pub number : h.number ≡ n

message-same : (x y : Out) → Some x ≡ Some y → x.message ≡ y.message
message-same x y e = let k : x ≡ y = cc e in ap (λ (z : Out). z.message) k

not-broker : (i n : ℕ) → broker i ≡ repository n → ⊥
not-broker i n e = let k : kind.Broker ≡ kind.Repository = ap (λ (x : NodeId). x.kind) e in cc k

repository-same : (i n : ℕ) → repository i ≡ repository n → i ≡ n
repository-same i n e = ap (λ (x : NodeId). x.number) e

module _ (b : Base) (w w' : World) (n : ℕ) (h : Hand) (Taken : Post → Type 0) (mv : Turned w w' n h Taken) (calm : CalmWorld b w)
    (R : TimeParts → ObjectId → NodeId → Type 0) (agree : (t : TimeParts) (o p : ObjectId) (f g : NodeId) → R t o f → R t p g → (o ≡ p) × (f ≡ g)) where
  abbrev old : Hand
  old = hand_at n (log_of w (repository n)) (w.life (repository n)).mind.hands

  pub broker-life : (i : ℕ) → w'.life (broker i) ≡ w.life (broker i)
  broker-life i = elim (mv.turn.there (broker i)) [ inl e ↦ absurd (not-broker i n e) | inr e ↦ e.1 ]

  pub log-here : log_of w' (repository n) ≡ now h
  log-here =
      let l : Life = w.life (repository n) in
      ap (λ (x : Life). reverse (all_effects x)) mv.turn.here ∙ ap reverse (sym (append_assoc l.gated l.fresh (reverse h.added))) ∙ reverse-append (l.gated ++ l.fresh) (reverse h.added)
      ∙ ap (λ z. z ++ reverse (l.gated ++ l.fresh)) (reverse-reverse h.added) ∙ ap (λ z. h.added ++ z) (sym mv.past)

  gated-same : (m : NodeId) → (w'.life m).gated ≡ (w.life m).gated
  gated-same m = elim (mv.turn.there m) [ inl e ↦ subst (λ z. (w'.life z).gated ≡ (w.life z).gated) (sym e) (ap (λ (x : Life). x.gated) mv.turn.here) | inr e ↦ ap (λ (x : Life). x.gated) e.1 ]

  begun-more : (s : StampParts) → IsBegun w s → IsBegun w' s
  begun-more s k = (k.0, subst (λ l. Has (effect.Begin s k.0) (reverse l)) (sym (gated-same (repository s.home))) k.1)

  decided-more : (s : StampParts) → IsDecided w s → IsDecided w' s
  decided-more s k = (k.0, subst (λ l. Has (effect.Decide s k.0) (reverse l)) (sym (gated-same (repository s.home))) k.1)

  -- what the turn owes is on its way
  pub owed-flies : (o : Out) → Has o h.outs → Flying w' (repository n) o
  owed-flies o i = inl (subst (λ (l : Life). Has o l.outs) (sym mv.turn.here) (has-right (w.life (repository n)).outs h.outs o i))

  flies : (from : NodeId) (o : Out) → Flying w from o → Flying w' from o ⊎ Taken (post from o)
  flies = turn-flies w w' (repository n) (life-hand (w.life (repository n)) h) Taken mv.turn

  for-brokers : (P : ℕ → List Effect → Heard → Type 0) → ((i : ℕ) → P i (log_of w (broker i)) (w.life (broker i)).mind.heard) → (i : ℕ) → P i (log_of w' (broker i)) (w'.life (broker i)).mind.heard
  for-brokers P k i = subst (λ (l : Life). P i (reverse (all_effects l)) l.mind.heard) (sym (broker-life i)) (k i)

  said-more : (i : ℕ) (m : Message) → SaidOf b w i m → SaidOf b w' i m
  said-more i m k = said-on b w w' i begun-more (λ s. subst (λ (l : Life). Ended s (reverse (all_effects l))) (sym (broker-life i))) m k

  -- a held read is still held or is answered
  held-there : (r : ℕ) (e : TimeParts × HeldRead) → Keeps R agree old (λ x. ⊥) (λ x. ⊥) h → Has e (held_of w r) → (r ≡ n → Serves h e.0 e.1.object e.1.from) × (r ≢ n → Has e (held_of w' r))
  held-there r e k i = (λ q. mine (subst (λ z. Has e (held_of w z)) q i), λ ne. other ne (mv.turn.there (repository r)))
    where
      mine : Has e (held_of w n) → Serves h e.0 e.1.object e.1.from
      mine i = elim (k.served e i) [ inl x ↦ absurd x | inr s ↦ s ]

      other : r ≢ n → (repository r ≡ repository n) ⊎ ((repository r ≢ repository n) × (w'.life (repository r) ≡ w.life (repository r))) → Has e (held_of w' r)
      other ne (inl q) = absurd (ne (repository-same r n q))
      other ne (inr q) = subst (λ (l : Life). Has e l.mind.hands.held) (sym q.1) i

  pub waits-there : Keeps R agree old (λ x. ⊥) (λ x. ⊥) h → (r : ℕ) (e : TimeParts × HeldRead) → Has e (held_of w' r) → Waits (log_of w' (repository r)) e
  waits-there k r e i = elim (mv.turn.there (repository r)) [
    | inr q ↦ subst (λ (l : Life). Waits (reverse (all_effects l)) e) (sym q.1) (calm.waits r e (subst (λ (l : Life). Has e l.mind.hands.held) q.1 i))
    | inl q ↦ subst (λ z. Waits (log_of w' z) e) (sym q) (subst (λ l. Waits l e) (sym log-here) (mine (subst (λ (l : Life). Has e l.mind.hands.held) mv.turn.here (subst (λ z. Has e (w'.life z).mind.hands.held) q i))))
  ]
    where
      mine : Has e h.held → Waits (now h) e
      mine i = elim (every-has (λ x. ⊥ ⊎ Waits (now h) x) h.held e k.waiting i) [ inl x ↦ absurd x | inr x ↦ x ]

  pub askers-there : Askers old h → (r : ℕ) (a : Asker) → Has a (w'.life (repository r)).mind.hands.askers → (a.stamp.home ≡ r) × ((x : Decision) → Has (effect.Decide a.stamp x) (log_of w' (repository r)) → ⊥)
  askers-there k r a i = elim (mv.turn.there (repository r)) [
    | inr q ↦ let u = calm.askers r a (subst (λ (l : Life). Has a l.mind.hands.askers) q.1 i) in (u.0, λ x j. u.1 x (subst (λ (l : Life). Has (effect.Decide a.stamp x) (reverse (all_effects l))) q.1 j))
    | inl q ↦
        let mine : Has a h.askers = subst (λ (l : Life). Has a l.mind.hands.askers) mv.turn.here (subst (λ z. Has a (w'.life z).mind.hands.askers) q i) in
        let u = k.undone a mine in
        (u.0 ∙ mv.number ∙ sym (repository-same r n q), λ x j. u.1 x (subst (Has (effect.Decide a.stamp x)) log-here (subst (λ z. Has (effect.Decide a.stamp x) (log_of w' z)) q j)))
  ]

  -- what is waited for is asked for, where an Ask and a Tell that were taken are served
  pub asked-there : Keeps R agree old (λ x. ⊥) (λ x. ⊥) h → Askers old h → ((r : ℕ) (s : StampParts) → Taken (post (repository r) (ask_of s)) → waits_for s (held_of w r) ≡ true → (s.home == r) ≡ false → AskedFor w' r s) →
      ((r : ℕ) (s : StampParts) (c : Bool) → Taken (post (repository s.home) (tell_of (record { repository = r; stamp = s }) c)) → waits_for s (held_of w' r) ≡ true → ⊥) →
      (r : ℕ) (s : StampParts) → waits_for s (held_of w' r) ≡ true → (s.home == r) ≡ false → AskedFor w' r s
  asked-there k as' ask-served tell-served r s e q = elim (mv.turn.there (repository r)) [
    | inr p ↦ let was : waits_for s (held_of w r) ≡ true = subst (λ (l : Life). waits_for s l.mind.hands.held ≡ true) p.1 e in still was (calm.asked r s was q)
    | inl p ↦ mine (repository-same r n p)
  ]
    where
      asker-still : Has (record { repository = r; stamp = s }) (w.life (repository s.home)).mind.hands.askers → AskedFor w' r s
      asker-still a = elim (mv.turn.there (repository s.home)) [
        | inr p ↦ inr (inl (subst (λ (l : Life). Has (record { repository = r; stamp = s }) l.mind.hands.askers) (sym p.1) a))
        | inl p ↦ elim (as'.kept (record { repository = r; stamp = s }) (subst (λ z. Has (record { repository = r; stamp = s }) (w.life z).mind.hands.askers) p a)) [
          | inl x ↦ inr (inl (subst (λ z. Has (record { repository = r; stamp = s }) (w'.life z).mind.hands.askers) (sym p) (subst (λ (l : Life). Has (record { repository = r; stamp = s }) l.mind.hands.askers) (sym mv.turn.here) x)))
          | inr x ↦ inr (inr (x.0, subst (λ z. Flying w' z (tell_of (record { repository = r; stamp = s }) x.0)) (sym p) (owed-flies (tell_of (record { repository = r; stamp = s }) x.0) x.1)))
        ]
      ]

      still : waits_for s (held_of w r) ≡ true → AskedFor w r s → AskedFor w' r s
      still was (inl f) = elim (flies (repository r) (ask_of s) f) [ inl g ↦ inl g | inr t ↦ ask-served r s t was q ]
      still was (inr (inl a)) = asker-still a
      still was (inr (inr (c, f))) = elim (flies (repository s.home) (tell_of (record { repository = r; stamp = s }) c) f) [ inl g ↦ inr (inr (c, g)) | inr t ↦ absurd (tell-served r s c t e) ]

      mine : r ≡ n → AskedFor w' r s
      mine p =
          let now-held : waits_for s h.held ≡ true = subst (λ (l : Life). waits_for s l.mind.hands.held ≡ true) mv.turn.here (subst (λ z. waits_for s (held_of w' z) ≡ true) p e) in
          let away : (s.home == h.number) ≡ false = subst (λ z. (s.home == z) ≡ false) (sym mv.number) (subst (λ z. (s.home == z) ≡ false) p q) in
          elim (k.asks s now-held away) [
            | inl x ↦ let was : waits_for s (held_of w r) ≡ true = subst (λ z. waits_for s (held_of w z) ≡ true) (sym p) x in still was (calm.asked r s was q)
            | inr x ↦ inl (subst (λ z. Flying w' (repository z) (ask_of s)) (sym p) (owed-flies (ask_of s) x))
          ]

  -- ---- where requests are

  -- who stands at a read
  reading : (st : Stage) (x : TimeParts) (o : ObjectId) → standing st ≡ Some (read_to x o) → (t : Try) × (st ≡ Asking t (ToRead o)) × (x ≡ time_of t)
  reading (Refused t) x o e = let m : message.Withdraw t.stamp ≡ message.Read x o = message-same _ _ e in absurd (cc m)
  reading (Opening t) x o e = let m : message.Begin t.stamp t.task.timeout ≡ message.Read x o = message-same _ _ e in absurd (cc m)
  reading (Asking t (ToRead p)) x o e =
      let m : message.Read (time_of t) p ≡ message.Read x o = message-same _ _ e in
      let k : time_of t ≡ x = cc m in
      let q : p ≡ o = cc m in
      (t, ap (λ z. Asking t (ToRead z)) q, sym k)
  reading (Asking t (ToWrite p v)) x o e = let m : message.Write (time_of t) p v ≡ message.Read x o = message-same _ _ e in absurd (cc m)
  reading (Finishing t) x o e = let m : message.Commit t.stamp ≡ message.Read x o = message-same _ _ e in absurd (cc m)
  reading (Closing t) x o e = let m : message.Withdraw t.stamp ≡ message.Read x o = message-same _ _ e in absurd (cc m)
  reading _ x o e = absurd (cc e)

  abbrev stage-in : World → ℕ → Stage
  stage-in v i = stage b.script b.run (state b.script i b.run (tasks_of b i) (desk_of b v i)) (v.life (broker i)).mind.heard

  -- an answer to the read that stands is heeded
  read-heeded : (i : ℕ) (x : TimeParts) (o : ObjectId) (m : Message) → standing_in b w' i ≡ Some (read_to x o) → Answers x m → Heeds b w' i m
  read-heeded i x o m e a =
      let k = reading (stage-in w' i) x o e in
      subst (λ st. row b.script st (w'.life (broker i)).mind.heard (news m) ≡ Ignored → ⊥) (sym k.1) (heeds-read b.script k.0 o (w'.life (broker i)).mind.heard m (subst (λ z. Answers z m) k.2 a))

  pub placed-there : Keeps R agree old (λ x. ⊥) (λ x. ⊥) h → ((p : Post) → Taken p → p.to ≡ repository n) → ((i : ℕ) (o : Out) → (w.flags (broker i)).gone ≡ true → standing_in b w i ≡ Some o → Taken (post (broker i) o) → Placed b w' i o) →
      (i : ℕ) (o : Out) → (w'.flags (broker i)).gone ≡ true → standing_in b w' i ≡ Some o → Placed b w' i o
  placed-there k to-here served i o g e = go (calm.placed i o was-gone stands)
    where
      was-gone : (w.flags (broker i)).gone ≡ true
      was-gone = sym (mv.turn.gones (broker i) (not-broker i n)) ∙ g

      stands : standing_in b w i ≡ Some o
      stands = subst (λ (l : Life). standing_at b.script i b.run (tasks_of b i) (reverse (all_effects l)) l.mind.heard ≡ Some o) (broker-life i) e

      heeded : (m : Message) → Heeds b w i m → Heeds b w' i m
      heeded m = subst (λ (l : Life). row b.script (stage b.script b.run (state b.script i b.run (tasks_of b i) (desk_at (reverse (all_effects l)) l.mind.heard)) l.mind.heard) l.mind.heard (news m) ≡ Ignored → ⊥) (sym (broker-life i))

      held : (x : TimeParts) (y : HeldRead) → o ≡ read_to x y.object → y.from ≡ broker i → Has (x, y) (held_of w y.object.repository) → Placed b w' i o
      held x y q own there = elim (mv.turn.there (repository y.object.repository)) [
        | inr p ↦ inr (inr (x, y, q, own, subst (λ (l : Life). Has (x, y) l.mind.hands.held) (sym p.1) there))
        | inl p ↦ elim (k.served (x, y) (subst (λ z. Has (x, y) (w.life z).mind.hands.held) p there)) [
          | inl no' ↦ absurd no'
          | inr s ↦ elim s [
            | inl t ↦ inr (inr (
              x,
              record { from = y.from; object = y.object; waits = t.0 },
              q,
              own,
              subst (λ z. Has (x, record { from = y.from; object = y.object; waits = t.0 }) (w'.life z).mind.hands.held) (sym p)
                  (subst (λ (l : Life). Has (x, record { from = y.from; object = y.object; waits = t.0 }) l.mind.hands.held) (sym mv.turn.here) t.1),
            ))
            | inr t ↦ inr (inl (
              repository n,
              t.0,
              owed-flies (record { to = broker i; message = t.0 }) (subst (λ z. Has (record { to = z; message = t.0 }) h.outs) own t.2),
              read-heeded i x y.object t.0 (e ∙ ap (λ z. Some z) q) t.1,
            ))
          ]
        ]
      ]

      go : Placed b w i o → Placed b w' i o
      go (inl f) = elim (flies (broker i) o f) [ inl x ↦ inl x | inr t ↦ served i o was-gone stands t ]
      go (inr (inl (from, m, f, a))) = elim (flies from (record { to = broker i; message = m }) f) [
        | inl x ↦ inr (inl (from, m, x, heeded m a))
        | inr t ↦ absurd (not-broker i n (to-here (post from (record { to = broker i; message = m })) t))
      ]
      go (inr (inr (x, y, q, own, there))) = held x y q own there

  -- ---- all fields

  pub turned-calm : Keeps R agree old (λ x. ⊥) (λ x. ⊥) h → Askers old h → ((p : Post) → Taken p → p.to ≡ repository n) →
      ((i : ℕ) (o : Out) → (w.flags (broker i)).gone ≡ true → standing_in b w i ≡ Some o → Taken (post (broker i) o) → Placed b w' i o) →
      ((r : ℕ) (s : StampParts) → Taken (post (repository r) (ask_of s)) → waits_for s (held_of w r) ≡ true → (s.home == r) ≡ false → AskedFor w' r s) →
      ((r : ℕ) (s : StampParts) (c : Bool) → Taken (post (repository s.home) (tell_of (record { repository = r; stamp = s }) c)) → waits_for s (held_of w' r) ≡ true → ⊥) → CalmWorld b w'
  turned-calm k as' to-here request-served ask-served tell-served = record {
    ups = turn-ups w w' (repository n) (life-hand (w.life (repository n)) h) Taken mv.turn b calm;
    outside = turn-outside w w' (repository n) (life-hand (w.life (repository n)) h) Taken mv.turn b calm;
    shut = turn-shut w w' (repository n) (life-hand (w.life (repository n)) h) Taken mv.turn b calm;
    still = turn-still w w' (repository n) (life-hand (w.life (repository n)) h) Taken mv.turn b calm;
    untaken = mv.turn.untaken;
    rested = for-brokers (λ i l g. (w'.flags (broker i)).gone ≡ true → IsRested b.script i b.run (tasks_of b i) (desk_at l g)) (λ i g. calm.rested i (sym (mv.turn.gones (broker i) (not-broker i n)) ∙ g));
    sound = for-brokers (λ i l g. DeskSound b.script i b.run (tasks_of b i) (IsBegun w') (IsDecided w') (desk_at l g))
        (λ i. sound-more b.script i b.run (tasks_of b i) (IsBegun w) (IsDecided w) (IsBegun w') (IsDecided w') begun-more decided-more (w.life (broker i)).mind.heard (state b.script i b.run (tasks_of b i) (desk_of b w i)) (calm.sound i));
    said = λ i o x. said-more i o.message (calm.said i o (elim x [
      | inl y ↦ inl (subst (λ (l : Life). Has o l.outs) (broker-life i) y)
      | inr y ↦ inr (subst (Has (post (broker i) o)) (ap (map (λ (s : Sending). s.post)) mv.turn.sendings) y)
    ]));
    placed = placed-there k to-here request-served;
    waits = waits-there k;
    asked = asked-there k as' ask-served tell-served;
    askers = askers-there as';
  }
