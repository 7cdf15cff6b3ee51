-- A turn over the whole log, of which the durable one is a beginning.
use Rattle.repository_laws.proofs.Names.{Every, Has, StampParts, NodeId, NodeKind, has-right, Effect, Message, Grew, Post, eq-from, Hand, Mind, on_message, on_learn, on_moment, hand_at, hand_turn, Taking, Learning, Hearing, FitsLog, PostHolds, IsDecidedAt, RestsOn, HandHolds, IsBacked, HasCome, ◌≡◌, ℕ, ◌==◌, Bool, true, false, List, [], ◌∷◌, ◌++◌, refl, sym, ap, subst, if◌then◌else◌, eqb-yes}
use Rattle.pseudo_time.specs.declared.nodes.NodeKind.TheVariants.{Repository}
use Rattle.effect_form.specs.declared.effects.Effect.TheVariants as effect
use Rattle.message_form.specs.declared.messages.Message.TheVariants as message
use Rattle.repository_laws.specs.Givens.{IsGiven, Gives}
use Rattle.repository_laws.proofs.Turns.{take-ok, on-learn-ok, hear-ok}

module _ (ever : List Post) (homes : ℕ → List Effect) (ticks : List ℕ) (r : ℕ) (log : List Effect) where
  -- as if the whole log were durable
  there : ℕ → List Effect
  there i = if i == r then log else homes i

  there-own : there r ≡ log
  unfolding there
  there-own = ap (λ b. if b then log else homes r) (eqb-yes r r refl)

  -- a Learn names another home's own log
  cause-back : (below : List Effect) (f : Effect) → FitsLog r below f → RestsOn ever there ticks r f → RestsOn ever homes ticks r f
  unfolding there
  cause-back below (effect.Learn s c) fits p = (p.0, go (s.home == r) refl p.1, p.2)
    where
      go : (b : Bool) → (s.home == r) ≡ b → Has (effect.Decide s p.0) (if b then log else homes s.home) → Has (effect.Decide s p.0) (homes s.home)
      go true e h = absurd (fits.0 (eq-from s.home r e))
      go false e h = h
  cause-back below _ fits p = p

  causes-back : (added : List Effect) → Grew (FitsLog r) log added → Every (RestsOn ever there ticks r) added → Grew (λ l f. RestsOn ever homes ticks r f) log added
  causes-back [] g p = tt
  causes-back (f ∷ added) g p = (causes-back added g.0 p.1, cause-back (added ++ log) f g.1 p.0)

  gives : (h : Hand) → HandHolds ever there ticks r log h → Gives ever homes ticks r log h
  gives h ok =
      let grew : Grew (FitsLog r) log h.added = subst (λ l. Grew (FitsLog r) l h.added) ok.past ok.grew in
      record {
        grew = grew;
        causes = causes-back h.added grew ok.causes;
        held = ok.held;
        outs = subst (λ l. Every (λ p. PostHolds ever r (h.added ++ l) p.to p.message) h.outs) ok.past ok.outs;
      }

  module _ (mind : Mind) (g : IsGiven ever homes r log mind) where
    given-ok : HandHolds ever there ticks r log (hand_at r log mind)
    given-ok = record { number = refl; past = refl; tidy = g.tidy; grew = tt; causes = tt; held = g.held; outs = tt }

    -- what stands at home stands in the whole log
    decided-there : (s : StampParts) (c : Bool) → IsDecidedAt homes s c → IsDecidedAt there s c
    unfolding there
    decided-there s c h = (h.0, go (s.home == r) refl, h.2)
      where
        go : (b : Bool) → (s.home == r) ≡ b → Has (effect.Decide s h.0) (if b then log else homes s.home)
        go true e = subst (Has (effect.Decide s h.0)) (sym g.own) (has-right g.added (homes r) (effect.Decide s h.0) (subst (λ i. Has (effect.Decide s h.0) (homes i)) (eq-from s.home r e) h.1))
        go false e = h.1

    backed-there : (k : NodeKind) (i : ℕ) (m : Message) → IsBacked homes k i m → IsBacked there k i m
    unfolding there
    backed-there Repository i (message.Tell s c) p = (p.0, go (i == r) refl p.1, p.2)
      where
        go : (b : Bool) → (i == r) ≡ b → Has (effect.Decide s p.0) (homes i) → Has (effect.Decide s p.0) (if b then log else homes i)
        go true e h = subst (Has (effect.Decide s p.0)) (sym g.own) (has-right g.added (homes r) (effect.Decide s p.0) (subst (λ j. Has (effect.Decide s p.0) (homes j)) (eq-from i r e) h))
        go false e h = h
    backed-there k i m p = tt

    pub gives-taking : (from : NodeId) (m : Message) → HasCome ever homes r from m → Gives ever homes ticks r log (hand_turn (hand_at r log mind) (Taking from m))
    gives-taking from m came = gives (on_message (hand_at r log mind) from m) (take-ok ever there ticks r log (hand_at r log mind) from m (came.0, backed-there from.kind from.number m came.1) there-own given-ok)

    pub gives-learning : (s : StampParts) (c : Bool) → IsDecidedAt homes s c → Gives ever homes ticks r log (hand_turn (hand_at r log mind) (Learning s c))
    gives-learning s c at = gives (on_learn (hand_at r log mind) s c) (on-learn-ok ever there ticks r log (hand_at r log mind) s c there-own (decided-there s c at) given-ok)

    pub gives-hearing : (m : ℕ) → Has m ticks → Gives ever homes ticks r log (hand_turn (hand_at r log mind) (Hearing m))
    gives-hearing m tick = gives (on_moment (hand_at r log mind) m) (hear-ok ever there ticks r log (hand_at r log mind) m tick given-ok)
