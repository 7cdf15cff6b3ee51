use Rattle.object_history.proofs.KeptLemmas.{whole-new, kept-new}
use Rattle.object_history.proofs.plain.PlainHistories.new.Goals as goal

pub invariant_of-result : goal.invariant_of-result
invariant_of-result c = whole-new c.new.result.items c.new-2.result c.new-3.result c.new.ensures.items (kept-new c.new.result.items c.new-2.result c.new-3.result c.new.ensures.items c.new-2.ensures c.new-3.ensures)
