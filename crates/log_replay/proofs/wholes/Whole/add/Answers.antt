use Rattle.std.proofs.Common.{◌∷◌, [], reverse, ap, ◌∙◌}
use Rattle.std.proofs.lemmas.List.{reverse-append}
use Rattle.std.specs.Global.{Vec}
use Rattle.effect_form.specs.declared.effects.Effect.{Effect}
use Rattle.log_replay.proofs.wholes.Whole.add.Goals as goal

pub returns : goal.returns
returns c = λ log at. record {
  log_is = ap reverse c.in_ok-push.ensures.items ∙ (reverse-append c.meet.new.self.log.items (c.args.effect ∷ []) ∙ ap (λ z. c.args.effect ∷ z) (ap (λ (v : Vec Effect). reverse v.items) c.in_ok-meet.ensures.log ∙ at.log_is));
  met = c.in_ok-meet.ensures.met log at;
}
