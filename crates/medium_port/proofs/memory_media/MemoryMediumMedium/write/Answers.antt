use Rattle.std.proofs.Common.{refl, sym, ap, ◌∙◌}
use Rattle.medium_port.proofs.MetLemmas.{stops_met}
use Rattle.medium_port.proofs.memory_media.MemoryMediumMedium.write.Goals as goal
use Rattle.medium_port.proofs.memory_media.MemoryMediumMedium.write.Goals.{then-is_some, else-is_some}

pub returns-then-is_some-2-clause-stops : goal.returns-then-is_some-2-clause-stops
returns-then-is_some-2-clause-stops c = elim c.if-is_some.branch [
  | then-is_some w ↦ stops_met _ _ _ _ c.take_met-met.result c.saturating_add-self.result c.saturating_add-self.ensures c.take_met-met.ensures.met c.if-is_some-2.ensures c.take_met-met.ensures.rest (ap (λ z. z.1.1.1.1.1.0) w.self-is) refl
  | else-is_some w ↦ absurd (cc (sym w.if-is_some.false ∙ c.is_some.ensures ∙ sym c.if-is_some-2.ensures))
]
