-- A legal trace of a plan without brokers.
use Rattle.std.proofs.Common.{◌≡◌, ◌⊎◌, ℕ, Bool, true, false, List, [], ◌++◌, map, inl, inr, refl, sym, ap, subst, ◌∙◌, Option, Some, None}
use Rattle.std.proofs.lemmas.Bool.{true≢false}
use Rattle.std.proofs.lemmas.List.{append-nil}
use Rattle.broker_core.specs.Readings.{reading}
use Rattle.effect_form.specs.declared.effects.Effect.{Effect}
use Rattle.plan_form.specs.declared.plans.Plan.{Plan}
use Rattle.pseudo_time.specs.Nodes.{is_broker, repository}
use Rattle.pseudo_time.specs.declared.nodes.NodeId.{NodeId}
use Rattle.pseudo_time.specs.declared.nodes.NodeKind.{NodeKind}
use Rattle.pseudo_time.specs.declared.nodes.NodeKind.TheVariants.{Broker, Repository}
use Rattle.settle_law.proofs.WalkLemmas.{Calm, calm, none-mapped, none-within}
use Rattle.settle_law.specs.Settling.{AllExpired, NoneDue}
use Rattle.stream_port.specs.declared.fates.Asked.{Asked}
use Rattle.world_core.specs.Legal.{base_of, fates_of, is_within, most_of, post_of}
use Rattle.world_core.specs.Readings.{IsLegal, world_after}
use Rattle.world_core.specs.Walks.{Sending, all_effects, start_world}
use Rattle.world_core.specs.declared.traces.Trace.{Trace}

module _ (plan : Plan) (asked : List Asked) (t : Trace) (none : plan.brokers ≡ 0) (legal : IsLegal plan asked t) where
  no-broker : (n : NodeId) → is_broker n.kind ≡ true → ((start_world (base_of (reading plan.acts) plan t)).flags n).known ≡ false
  no-broker n h = legal.nodes.just n ∙ by n.kind refl
    where
      by : (k : NodeKind) → n.kind ≡ k → is_within n.number (most_of plan k) ≡ false
      by Broker e = ap (is_within n.number) none ∙ none-within n.number
      by Repository e = absurd (true≢false (sym h ∙ ap is_broker e))

  calm-end : Calm (base_of (reading plan.acts) plan t) (world_after plan t)
  calm-end = calm (base_of (reading plan.acts) plan t) t.entries no-broker

  pub none-sent : t.sent ≡ []
  none-sent = none-mapped post_of t.sent (legal.sent ∙ ap (map (λ (s : Sending). s.post)) calm-end.unsent)

  pub all-expired : AllExpired plan t
  all-expired idle moment last r within up =
      let q = calm-end.quiet (repository r) refl in
      let i = idle (repository r) up in
      let heard : ((world_after plan t).heard (repository r)) ≡ true = was-heard i.heard in
      let due : NoneDue moment (all_effects ((world_after plan t).life (repository r))) = q.none (q.known up) heard moment last in
      subst (NoneDue moment) (ap (λ (x : List Effect). ((world_after plan t).life (repository r)).gated ++ x) (q.closed i.closed) ∙ append-nil ((world_after plan t).life (repository r)).gated) due
    where
      was-heard : ((world_after plan t).last ≡ None) ⊎ ((world_after plan t).heard (repository r) ≡ true) → (world_after plan t).heard (repository r) ≡ true
      was-heard (inl e) = absurd (let z : None ≡ Some moment = sym e ∙ last in cc z)
      was-heard (inr h) = h
