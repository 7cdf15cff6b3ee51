use Rattle.std.proofs.Common.{inl, sym, ◌∙◌, subst}
use Rattle.pseudo_time.specs.Lists.{Has}
use Rattle.effect_form.specs.declared.effects.Effect.TheVariants as effect
use Rattle.world_core.specs.Deeds.{log_of}
use Rattle.log_replay.proofs.DecisionLemmas.{blamed}
use Rattle.log_replay.proofs.decisions.Rulings.decide.Goals as goal

pub returns-then-home-repository-clause-based : goal.returns-then-home-repository-clause-based
returns-then-home-repository-clause-based c = λ k d inside there is based.
    c.in_ok-decide_home.ensures.based k d (subst (λ r. Has (effect.Decide c.args.stamp d) (log_of k r)) (sym c.if-home-repository.true ∙ c.home.ensures) there) is based

pub returns-clause-based : goal.returns-clause-based
returns-clause-based c = λ k d inside there is based.
    blamed c.args.self.now c.blame.new.self c.args.stamp k c.blame.ensures.decided c.blame.ensures.one
    (λ none. inl (record { repository = c.args.repository; decision = d; inside = inside; there = there; away = λ e. c.if-home-repository.false (c.home.ensures ∙ sym e) })) based
