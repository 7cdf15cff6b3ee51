use Rattle.std.proofs.Common.{ap, ◌∙◌}
use Rattle.std.specs.FinMap as finite
use Rattle.serial_model.proofs.MapLemmas.{insert-entries_of}
use Rattle.serial_model.proofs.object_maps.ObjectMap.set.Goals as goal

pub returns-clause-ok : goal.returns-clause-ok
returns-clause-ok c = insert-entries_of c.self.inside.entries.entries c.insert.new.self.entries c.args.object c.args.value c.in_ok-insert.ensures.updates.0 ∙ ap (λ m. finite.insert m c.args.object c.args.value) c.self.view_is
