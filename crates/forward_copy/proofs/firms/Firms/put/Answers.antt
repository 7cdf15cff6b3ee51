use Rattle.forward_copy.proofs.Names.{ap, ◌∙◌, object_cmp-total, object_cmp-exact, insert-entries_of}
use Rattle.std.specs.FinMap as finite
use Rattle.forward_copy.proofs.firms.Firms.put.Goals as goal

pub returns : goal.returns
returns c = insert-entries_of object_cmp-total object_cmp-exact c.self.inside.entries.entries c.insert.new.self.entries c.args.object c.args.firm c.in_ok-insert.ensures.updates.0 ∙ ap (λ m. finite.insert m c.args.object c.args.firm) c.self.view_is
