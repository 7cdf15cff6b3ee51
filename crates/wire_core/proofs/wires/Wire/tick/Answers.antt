use Rattle.std.proofs.Common.{◌+◌, max, min, ap, ◌∙◌}
use Rattle.wire_core.proofs.ChangeLemmas.{tick-more}
use Rattle.wire_core.proofs.wires.Wire.tick.Goals as goal

pub invariant_of-self-2 : goal.invariant_of-self-2
invariant_of-self-2 g c =
    tick-more _ _ _ _ _ _ _ _ _ c.self.invariant c.if-self.false c.moment-answer.result _ _ _ c.in_ok-add.ensures.ok
    (rw (← c.self.view_is) at (c.idle.ensures.quiet.0 c.if-not-idle.false).1)
    (c.max-moment.ensures ∙ ap (λ x. max x (c.unwrap_or-last.result + 1)) c.min.ensures ∙ ap (λ l. max (min c.moment-answer.result 4611686018427387904) (l + 1)) c.unwrap_or-last.ensures) c.moment-answer.ensures c.in_ok-pass.ensures.ok
