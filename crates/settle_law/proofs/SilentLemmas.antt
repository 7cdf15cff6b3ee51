-- A repository for which nobody waits owes no message.
use Rattle.std.proofs.Common.{◌≡◌, ℕ, Bool, true, false, List, [], ◌∷◌, ◌++◌, refl, sym, ap, subst, ◌∙◌, Option, Some, None, nat_le, not, if◌then◌else◌, reverse}
use Rattle.std.specs.List.{filter}
use Rattle.pseudo_time.specs.Order.{same_stamp}
use Rattle.pseudo_time.specs.StampParts.{StampParts}
use Rattle.pseudo_time.specs.declared.decisions.Decision.TheVariants as decision
use Rattle.commit_record.specs.declared.states.RecordState.{RecordState}
use Rattle.commit_record.specs.declared.states.RecordState.TheVariants.{Unknown, Decided}
use Rattle.effect_form.specs.declared.effects.Effect.{Effect}
use Rattle.effect_form.specs.declared.effects.Effect.TheVariants as effect
use Rattle.repository_log.specs.Expiries.{due}
use Rattle.repository_log.specs.Logs.{known, record_of}
use Rattle.repository_core.specs.Hands.{Hand, now, note}
use Rattle.repository_core.specs.Hearing.{expire, expire_all, expire_as, on_moment}
unfoldable use Rattle.repository_core.specs.Hearing.{ask_again}
use Rattle.repository_core.specs.Hearing.{asks, waited}
use Rattle.repository_core.specs.Rows.{learn_as, on_learn, release, reread}
unfoldable use Rattle.repository_core.specs.Rows.{tell_askers}
use Rattle.repository_draft.specs.Replies.{tells}

-- No read is held, nobody is to be informed, and no message is owed. The log as the turn began is this one.
pub record Silent (log : List Effect) (h : Hand) : Type 0 where
  pub past : h.past ≡ log
  pub held : h.held ≡ []
  pub askers : h.askers ≡ []
  pub outs : h.outs ≡ []

module _ (log : List Effect) where
  note-silent : (f : Effect) (h : Hand) → Silent log h → Silent log (note f h)
  note-silent f h q = record { past = q.past; held = q.held; askers = q.askers; outs = q.outs }

  tell-silent : (s : StampParts) (c : Bool) (h : Hand) → Silent log h → Silent log (tell_askers s c h)
  unfolding tell_askers
  tell-silent s c h q =
      subst (λ xs. Silent log (tells (filter (λ a. same_stamp a.stamp s) xs) s c (record h { askers = filter (λ a. not (same_stamp a.stamp s)) xs }))) (sym q.askers)
      (record { past = q.past; held = q.held; askers = refl; outs = q.outs })

  release-silent : (s : StampParts) (h : Hand) → Silent log h → Silent log (release s h)
  unfolding release
  release-silent s h q =
      subst (λ xs. Silent log (reread (filter (λ e. same_stamp e.1.waits s) xs) (record h { held = filter (λ e. not (same_stamp e.1.waits s)) xs }))) (sym q.held)
      (record { past = q.past; held = refl; askers = q.askers; outs = q.outs })

  learn-as-silent : (h : Hand) (s : StampParts) (c : Bool) (u : Option Bool) → Silent log h → Silent log (learn_as h s c u)
  learn-as-silent h s c None q = release-silent s (note (effect.Learn s c) h) (note-silent (effect.Learn s c) h q)
  learn-as-silent h s c (Some d) q = q

  pub learn-silent : (h : Hand) (s : StampParts) (c : Bool) → Silent log h → Silent log (on_learn h s c)
  unfolding on_learn
  learn-silent h s c q = learn-as-silent h s c (known (now h) s) q

  expire-as-silent : (m : ℕ) (s : StampParts) (h : Hand) (u : Option RecordState) → Silent log h → Silent log (expire_as m s h u)
  expire-as-silent m s h None q = q
  expire-as-silent m s h (Some (Decided d)) q = q
  expire-as-silent m s h (Some (Unknown t)) q = go (nat_le t m)
    where
      g : Hand
      g = note (effect.Decide s (decision.Expired t m)) h

      go : (b : Bool) → Silent log (if b then release s (tell_askers s false g) else h)
      go true = release-silent s (tell_askers s false g) (tell-silent s false g (note-silent (effect.Decide s (decision.Expired t m)) h q))
      go false = q

  expire-all-silent : (m : ℕ) (ss : List StampParts) (h : Hand) → Silent log h → Silent log (expire_all m ss h)
  unfolding expire
  expire-all-silent m [] h q = q
  expire-all-silent m (s ∷ more) h q = expire-all-silent m more (expire_as m s h (record_of (now h) s)) (expire-as-silent m s h (record_of (now h) s) q)

  again-silent : (h : Hand) → Silent log h → Silent log (ask_again h)
  unfolding ask_again
  again-silent h q = subst (λ xs. Silent log (asks (waited h.number xs []) h)) (sym q.held) q

  pub hear-silent : (h : Hand) (m : ℕ) → Silent log h → Silent log (on_moment h m)
  unfolding on_moment
  hear-silent h m q =
      let g : Hand = record h { moment = m } in
      again-silent (expire_all m (due m (now h)) g) (expire-all-silent m (due m (now h)) g (record { past = q.past; held = q.held; askers = q.askers; outs = q.outs }))
