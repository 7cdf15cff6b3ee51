-- An entry at which a broker takes a turn keeps what always holds.
use Rattle.complete_law.proofs.Names.{Has, every-map, has-right, has-either, StampParts, TimeParts, Decision, NodeId, Effect, Message, Out, Grew, Post, post, Tree, HeldRead, Asker, waits_for, Heard, Ignored, Act, Book, Try, book, find, last_try, tries, tries_of, is_none, row, news, stage, standing, repository, broker, Task, Desk, desk_at, state, FitsLog, IsTidy, IsRested, grown, same_stamp-self, Base, Life, Sending, World, sent_by, all_effects, Waits, standing_at, read_to, older, BookSound, HasSettled, Trail, DeskSound, ask_of, tell_of, ◌≡◌, ◌≢◌, ◌⊎◌, ℕ, ◌==◌, true, false, List, [], ◌∷◌, ◌++◌, map, reverse, refl, sym, ◌∙◌, ap, subst, Some, None, inl, inr, true≢false, IsLater, last-first, later-kept, HasStarted, OutSound, standing-sound, stands-to}
use Rattle.pseudo_time.specs.declared.nodes.NodeKind.TheVariants as kind
use Rattle.effect_form.specs.declared.effects.Effect.TheVariants as effect
use Rattle.message_form.specs.declared.messages.Message.TheVariants as message
use Rattle.broker_core.specs.Turns as desks
use Rattle.complete_law.proofs.Places.{log_of, held_of, IsBegun, IsDecided, Flying, AskedFor, tasks_of, desk_of, standing_in, Placed, SaidOf, Ended, said-on, CalmWorld}
use Rattle.complete_law.proofs.Frames.{OneTurn, life-with, turn-flies}

-- what is sound stays sound as more has begun and is decided
module _ (script : List ℕ → Tree) (me run : ℕ) (acts : List Task) (Begun Decided Begun' Decided' : StampParts → Type 0) (f : (s : StampParts) → Begun s → Begun' s) (g : (s : StampParts) → Decided s → Decided' s) where
  trail-more : (as' : List Act) → Trail script me run acts Begun Decided as' → Trail script me run acts Begun' Decided' as'
  trail-more [] k = tt
  trail-more (a ∷ done) k = (every-map _ _ (λ (t : Try). g t.stamp) (tries_of done) k.0, every-map _ _ (λ (t : Try). g t.stamp) (older a.tries) k.1, λ c e. every-map _ _ (λ (t : Try). g t.stamp) a.tries (k.2 c e))

  pub sound-more : (h : Heard) (k : Book) → BookSound script me run acts Begun Decided h k → BookSound script me run acts Begun' Decided' h k
  sound-more h k s = record {
    past = s.past;
    early = s.early;
    trail = trail-more k.acts s.trail;
    settled = every-map (HasSettled script me run acts Begun Decided) (HasSettled script me run acts Begun' Decided') (λ t w e. g t.stamp (w e)) (tries_of k.acts) s.settled;
    started = every-map (HasStarted script me run acts Begun Decided) (HasStarted script me run acts Begun' Decided') (λ t w e. f t.stamp (w e)) (tries_of k.acts) s.started;
    ended = s.ended;
    begun = λ x e. f x (s.begun x e);
    closed = λ x e. g x (s.closed x e);
  }

-- a try that has ended has ended later too
module _ (script : List ℕ → Tree) (me : ℕ) where
  ended-later : (t u : Try) → IsLater t u → is_none t.end ≡ false → is_none u.end ≡ false
  ended-later t u l e = (elim t.end as (λ o. t.end ≡ o → is_none o ≡ false → is_none u.end ≡ false) [ None ↦ λ q e. absurd (true≢false e) | Some o ↦ λ q e. ap is_none (l.ended o q) ]) refl e

  pub found-ended : (log fresh : List Effect) (s : StampParts) (t : Try) → IsTidy script me log → Grew (FitsLog script me) log fresh → find s (tries (book log)) ≡ Some t → is_none t.end ≡ false →
      (u : Try) × (find s (tries (book (fresh ++ log))) ≡ Some u) × (is_none u.end ≡ false)
  found-ended log [] s t tidy grew found e = (t, found, e)
  found-ended log (f ∷ fresh) s t tidy grew found e =
      let k = found-ended log fresh s t tidy grew.0 found e in
      let l = later-kept script me (fresh ++ log) f s k.0 (grown script me log fresh tidy grew.0) grew.1 k.1 in
      (l.0, l.1, ended-later k.0 l.0 l.2 k.2)

-- one broker's turn: `d` is its desk after it, and it took this message
abbrev pub Moved : Base → World → World → ℕ → Desk → NodeId → Message → Type 0
Moved b w w' n d from0 m0 = OneTurn w w' (broker n) (life-with b (w.life (broker n)) d) (λ p. p ≡ record { from = from0; to = broker n; message = m0 })

broker-same : (i n : ℕ) → broker i ≡ broker n → i ≡ n
broker-same i n e = ap (λ (x : NodeId). x.number) e

not-repository : (r n : ℕ) → repository r ≡ broker n → ⊥
not-repository r n e = let k : kind.Repository ≡ kind.Broker = ap (λ (x : NodeId). x.kind) e in cc k

module _ (b : Base) (w w' : World) (n : ℕ) (d : Desk) (from0 : NodeId) (m0 : Message) (mv : Moved b w w' n d from0 m0) (calm : CalmWorld b w)
    (log-is : reverse (all_effects (life-with b (w.life (broker n)) d)) ≡ desks.all_effects d) where
  abbrev Repo : ℕ → NodeId
  Repo r = repository r

  repo-same : (r : ℕ) → w'.life (repository r) ≡ w.life (repository r)
  repo-same r = go (mv.there (repository r))
    where
      go : (repository r ≡ broker n) ⊎ ((repository r ≢ broker n) × (w'.life (repository r) ≡ w.life (repository r))) → w'.life (repository r) ≡ w.life (repository r)
      go (inl e) = absurd (not-repository r n e)
      go (inr e) = e.1

  begun-more : (s : StampParts) → IsBegun w s → IsBegun w' s
  begun-more s h = (h.0, subst (λ (l : Life). Has (effect.Begin s h.0) (reverse l.gated)) (sym (repo-same s.home)) h.1)

  decided-more : (s : StampParts) → IsDecided w s → IsDecided w' s
  decided-more s h = (h.0, subst (λ (l : Life). Has (effect.Decide s h.0) (reverse l.gated)) (sym (repo-same s.home)) h.1)

  -- what holds of the turn's desk and of the other brokers holds of all
  for-brokers : (P : ℕ → List Effect → Heard → Type 0) → P n (desks.all_effects d) d.heard → ((i : ℕ) → i ≢ n → P i (log_of w (broker i)) (w.life (broker i)).mind.heard) →
      (i : ℕ) → P i (log_of w' (broker i)) (w'.life (broker i)).mind.heard
  for-brokers P here others i = go (mv.there (broker i))
    where
      mine : P n (log_of w' (broker n)) (w'.life (broker n)).mind.heard
      mine = subst (λ (l : Life). P n (reverse (all_effects l)) l.mind.heard) (sym mv.here) (subst (λ z. P n z d.heard) (sym log-is) here)

      go : (broker i ≡ broker n) ⊎ ((broker i ≢ broker n) × (w'.life (broker i) ≡ w.life (broker i))) → P i (log_of w' (broker i)) (w'.life (broker i)).mind.heard
      go (inl e) = subst (λ z. P z (log_of w' (broker z)) (w'.life (broker z)).mind.heard) (sym (broker-same i n e)) mine
      go (inr e) = subst (λ (l : Life). P i (reverse (all_effects l)) l.mind.heard) (sym e.1) (others i (λ q. e.0 (ap broker q)))

  flies : (from : NodeId) (o : Out) → Flying w from o → Flying w' from o ⊎ (post from o ≡ record { from = from0; to = broker n; message = m0 })
  flies = turn-flies w w' (broker n) (life-with b (w.life (broker n)) d) (λ p. p ≡ record { from = from0; to = broker n; message = m0 }) mv

  to-of : (from : NodeId) (o : Out) → post from o ≡ record { from = from0; to = broker n; message = m0 } → o.to ≡ broker n
  to-of from o e = ap (λ (p : Post). p.to) e

  flies-to-repository : (from : NodeId) (o : Out) (r : ℕ) → o.to ≡ repository r → Flying w from o → Flying w' from o
  flies-to-repository from o r to f = go (flies from o f)
    where
      go : Flying w' from o ⊎ (post from o ≡ record { from = from0; to = broker n; message = m0 }) → Flying w' from o
      go (inl g) = g
      go (inr e) = absurd (not-repository r n (sym to ∙ to-of from o e))

  -- ---- what is the same for each turn of a broker

  pub moved-waits : (r : ℕ) (e : TimeParts × HeldRead) → Has e (held_of w' r) → Waits (log_of w' (repository r)) e
  moved-waits r e h = subst (λ (l : Life). Waits (reverse (all_effects l)) e) (sym (repo-same r)) (calm.waits r e (subst (λ (l : Life). Has e l.mind.hands.held) (repo-same r) h))

  pub moved-asked : (r : ℕ) (s : StampParts) → waits_for s (held_of w' r) ≡ true → (s.home == r) ≡ false → AskedFor w' r s
  moved-asked r s e q = go (calm.asked r s (subst (λ (l : Life). waits_for s l.mind.hands.held ≡ true) (repo-same r) e) q)
    where
      go : AskedFor w r s → AskedFor w' r s
      go (inl f) = inl (flies-to-repository (repository r) (ask_of s) s.home refl f)
      go (inr (inl a)) = inr (inl (subst (λ (l : Life). Has (record { repository = r; stamp = s }) l.mind.hands.askers) (sym (repo-same s.home)) a))
      go (inr (inr (c, f))) = inr (inr (c, flies-to-repository (repository s.home) (tell_of (record { repository = r; stamp = s }) c) r refl f))

  pub moved-askers : (r : ℕ) (a : Asker) → Has a (w'.life (repository r)).mind.hands.askers → (a.stamp.home ≡ r) × ((x : Decision) → Has (effect.Decide a.stamp x) (log_of w' (repository r)) → ⊥)
  moved-askers r a h = let k = calm.askers r a (subst (λ (l : Life). Has a l.mind.hands.askers) (repo-same r) h) in
      (k.0, λ x i. k.1 x (subst (λ (l : Life). Has (effect.Decide a.stamp x) (reverse (all_effects l))) (repo-same r) i))

  pub moved-rested : IsRested b.script n b.run (tasks_of b n) d → (i : ℕ) → (w'.flags (broker i)).gone ≡ true → IsRested b.script i b.run (tasks_of b i) (desk_of b w' i)
  moved-rested rest = for-brokers (λ i l h. (w'.flags (broker i)).gone ≡ true → IsRested b.script i b.run (tasks_of b i) (desk_at l h)) (λ g. rest)
      (λ i o g. calm.rested i (sym (mv.gones (broker i) (λ q. o (broker-same i n q))) ∙ g))

  pub moved-sound : DeskSound b.script n b.run (tasks_of b n) (IsBegun w) (IsDecided w) d → (i : ℕ) → DeskSound b.script i b.run (tasks_of b i) (IsBegun w') (IsDecided w') (desk_of b w' i)
  moved-sound s i =
      for-brokers (λ i l h. BookSound b.script i b.run (tasks_of b i) (IsBegun w') (IsDecided w') h (state b.script i b.run (tasks_of b i) (desk_at l h)))
      (sound-more b.script n b.run (tasks_of b n) (IsBegun w) (IsDecided w) (IsBegun w') (IsDecided w') begun-more decided-more d.heard (state b.script n b.run (tasks_of b n) d) s)
      (λ i o. sound-more b.script i b.run (tasks_of b i) (IsBegun w) (IsDecided w) (IsBegun w') (IsDecided w') begun-more decided-more (w.life (broker i)).mind.heard (state b.script i b.run (tasks_of b i) (desk_of b w i)) (calm.sound i)) i

  -- ---- what was said

  sent-same : sent_by w' ≡ sent_by w
  sent-same = ap (map (λ (s : Sending). s.post)) mv.sendings

  module _ (base-is : d.past ≡ log_of w (broker n)) (tidy : IsTidy b.script n d.past) (grew : Grew (FitsLog b.script n) d.past d.added) (sound : DeskSound b.script n b.run (tasks_of b n) (IsBegun w) (IsDecided w) d)
      (counts : state b.script n b.run (tasks_of b n) d ≡ book (desks.all_effects d)) where
    ended-more : (s : StampParts) (i : ℕ) → Ended s (log_of w (broker i)) → Ended s (log_of w' (broker i))
    ended-more s = for-brokers (λ i l h. Ended s (log_of w (broker i)) → Ended s l)
        (λ e. found-ended b.script n d.past d.added s e.0 tidy grew (subst (λ l. find s (tries (book l)) ≡ Some e.0) (sym base-is) e.1) e.2)
        (λ i o e. e)

    said-more : (i : ℕ) (m : Message) → SaidOf b w i m → SaidOf b w' i m
    said-more i m k = said-on b w w' i begun-more (λ s. ended-more s i) m k

    -- what stands after the turn says what is so
    new-said : (m : Message) → OutSound b.script n b.run (tasks_of b n) (IsBegun w) (IsDecided w) (state b.script n b.run (tasks_of b n) d) m → SaidOf b w' n m
    new-said (message.Read x o) k = begun-more x.stamp k
    new-said (message.Write x o v) k = begun-more x.stamp k
    new-said (message.Commit s) k = begun-more s k
    new-said (message.Withdraw s) k = (begun-more s k.0, subst (λ (l : Life). Ended s (reverse (all_effects l))) (sym mv.here) (subst (Ended s) (sym log-is) there))
      where
        t : Try
        t = k.1.0

        last : last_try (book (desks.all_effects d)) ≡ Some k.1.0
        last = subst (λ z. last_try z ≡ Some k.1.0) counts k.1.1

        first : (rest : List Try) × (tries (book (desks.all_effects d)) ≡ k.1.0 ∷ rest)
        first = last-first b.script n b.run (tasks_of b n) k.1.0 (book (desks.all_effects d)).acts (book (desks.all_effects d)).past last

        here : find k.1.0.stamp (tries (book (desks.all_effects d))) ≡ Some k.1.0
        here = subst (λ ts. find k.1.0.stamp ts ≡ Some k.1.0) (sym first.1) (rw (same_stamp-self k.1.0.stamp) refl)

        there : Ended s (desks.all_effects d)
        there = (k.1.0, subst (λ z. find z (tries (book (desks.all_effects d))) ≡ Some k.1.0) k.1.2 here, k.1.3)
    new-said _ k = tt

    pub moved-said : ((o : Out) → Has o d.outs → standing (stage b.script b.run (state b.script n b.run (tasks_of b n) d) d.heard) ≡ Some o) → (i : ℕ) (o : Out) → Has o (w'.life (broker i)).outs ⊎ Has (post (broker i) o) (sent_by w') → SaidOf b w' i o.message
    moved-said stands i o (inr h) = said-more i o.message (calm.said i o (inr (subst (Has (post (broker i) o)) sent-same h)))
    moved-said stands i o (inl h) = go (mv.there (broker i))
      where
        new : Has o ((w.life (broker n)).outs ++ d.outs) → SaidOf b w' n o.message
        new h = elim (has-either (w.life (broker n)).outs d.outs o h) [
          | inl a ↦ said-more n o.message (calm.said n o (inl a))
          | inr c ↦ new-said o.message (standing-sound b.script n b.run (tasks_of b n) (IsBegun w) (IsDecided w) d o sound (stands o c))
        ]

        go : (broker i ≡ broker n) ⊎ ((broker i ≢ broker n) × (w'.life (broker i) ≡ w.life (broker i))) → SaidOf b w' i o.message
        go (inl e) = subst (λ z. SaidOf b w' z o.message) (sym (broker-same i n e)) (new (subst (λ (l : Life). Has o l.outs) mv.here (subst (λ z. Has o (w'.life z).outs) e h)))
        go (inr e) = said-more i o.message (calm.said i o (inl (subst (λ (l : Life). Has o l.outs) e.1 h)))

  -- ---- where requests are

  abbrev pub PlacedAt : ℕ → List Effect → Heard → Out → Type 0
  PlacedAt i l h o =
      Flying w' (broker i) o ⊎ (((from : NodeId) × (m : Message) × Flying w' from (record { to = broker i; message = m }) × (row b.script (stage b.script b.run (state b.script i b.run (tasks_of b i) (desk_at l h)) h) h (news m) ≡ Ignored → ⊥))
      ⊎ ((x : TimeParts) × (e : HeldRead) × (o ≡ read_to x e.object) × (e.from ≡ broker i) × Has (x, e) (held_of w' e.object.repository)))

  held-more : (i : ℕ) (o : Out) → ((x : TimeParts) × (e : HeldRead) × (o ≡ read_to x e.object) × (e.from ≡ broker i) × Has (x, e) (held_of w e.object.repository)) → (x : TimeParts) × (e : HeldRead) × (o ≡ read_to x e.object) × (e.from ≡ broker i) × Has (x, e) (held_of w' e.object.repository)
  held-more i o k = (k.0, k.1, k.2, k.3, subst (λ (l : Life). Has (k.0, k.1) l.mind.hands.held) (sym (repo-same k.1.object.repository)) k.4)

  own-flies : (i : ℕ) (o : Out) → standing_in b w i ≡ Some o → Flying w (broker i) o → Flying w' (broker i) o
  own-flies i o e f =
      let to = stands-to b.script i b.run (tasks_of b i) (IsBegun w) (IsDecided w) (stage b.script b.run (state b.script i b.run (tasks_of b i) (desk_of b w i)) (w.life (broker i)).mind.heard) o e in
      flies-to-repository (broker i) o to.0 to.1 f

  pub moved-placed : ((o : Out) → (w'.flags (broker n)).gone ≡ true → standing_at b.script n b.run (tasks_of b n) (desks.all_effects d) d.heard ≡ Some o → PlacedAt n (desks.all_effects d) d.heard o) →
      (i : ℕ) (o : Out) → (w'.flags (broker i)).gone ≡ true → standing_in b w' i ≡ Some o → Placed b w' i o
  moved-placed here i =
      for-brokers (λ i l h. (o : Out) → (w'.flags (broker i)).gone ≡ true → standing_at b.script i b.run (tasks_of b i) l h ≡ Some o → PlacedAt i l h o) here others i
    where
      others : (i : ℕ) → i ≢ n → (o : Out) → (w'.flags (broker i)).gone ≡ true → standing_in b w i ≡ Some o → PlacedAt i (log_of w (broker i)) (w.life (broker i)).mind.heard o
      others i other o g e = go (calm.placed i o (sym (mv.gones (broker i) (λ q. other (broker-same i n q))) ∙ g) e)
        where
          go : Placed b w i o → PlacedAt i (log_of w (broker i)) (w.life (broker i)).mind.heard o
          go (inl f) = inl (own-flies i o e f)
          go (inr (inl (from, m, f, h))) = elim (flies from (record { to = broker i; message = m }) f) [
            | inl g ↦ inr (inl (from, m, g, h))
            | inr q ↦ absurd (other (broker-same i n (to-of from (record { to = broker i; message = m }) q)))
          ]
          go (inr (inr k)) = inr (inr (held-more i o k))

  -- a message that is ignored leaves the request where it is
  pub ignored-placed : (row b.script (stage b.script b.run (state b.script n b.run (tasks_of b n) (desk_of b w n)) (w.life (broker n)).mind.heard) (w.life (broker n)).mind.heard (news m0) ≡ Ignored) →
      (o : Out) → (w.flags (broker n)).gone ≡ true → standing_in b w n ≡ Some o → PlacedAt n (log_of w (broker n)) (w.life (broker n)).mind.heard o
  ignored-placed ignored o g e = go (calm.placed n o g e)
    where
      go : Placed b w n o → PlacedAt n (log_of w (broker n)) (w.life (broker n)).mind.heard o
      go (inl f) = inl (own-flies n o e f)
      go (inr (inl (from, m, f, h))) = elim (flies from (record { to = broker n; message = m }) f) [
        | inl g ↦ inr (inl (from, m, g, h))
        | inr q ↦ absurd (h (subst (λ z. row b.script (stage b.script b.run (state b.script n b.run (tasks_of b n) (desk_of b w n)) (w.life (broker n)).mind.heard) (w.life (broker n)).mind.heard (news z) ≡ Ignored) (sym (ap (λ (p : Post). p.message) q)) ignored))
      ]
      go (inr (inr k)) = inr (inr (held-more n o k))

  -- and a request that is owed is on its way
  pub owed-placed : (o : Out) → Has o d.outs → PlacedAt n (desks.all_effects d) d.heard o
  owed-placed o h = inl (inl (subst (λ (l : Life). Has o l.outs) (sym mv.here) (has-right (w.life (broker n)).outs d.outs o h)))
