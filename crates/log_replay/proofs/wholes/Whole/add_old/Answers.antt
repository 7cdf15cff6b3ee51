use Rattle.std.proofs.Common.{◌∷◌, sym, subst, ap, ◌∙◌}
use Rattle.effect_form.specs.declared.effects.Effect.{Effect as AnEffect}
use Rattle.serial_law.specs.Wholes.{with_puts}
use Rattle.log_replay.specs.Whole.{IsWhole}
use Rattle.log_replay.proofs.JoinLemmas.{with-new, with-old}
use Rattle.log_replay.proofs.wholes.Whole.add_old.Goals as goal

pub returns-in_ok-add : goal.returns-in_ok-add
returns-in_ok-add c = λ met older at.
    let now = with_puts met older in
    let is = sym (c.lacks.ensures now at) ∙ c.if-lacks.true in
    subst (λ z. IsWhole z c.add.new.self) (ap (λ (f : AnEffect). f ∷ now) c.in_ok-effect.ensures ∙ sym (with-new met older c.args.effect.now is)) (c.in_ok-add.ensures now at)

pub returns-else-lacks : goal.returns-else-lacks
returns-else-lacks c = λ met older at.
    let is = sym (c.lacks.ensures (with_puts met older) at) ∙ c.if-lacks.false in
    subst (λ z. IsWhole z c.args.self.now) (sym (with-old met older c.args.effect.now is)) at
