use Rattle.forward_copy.proofs.Names.{sym, ap, ◌∙◌, object_cmp-total, object_cmp-exact, get-entries_of}
use Rattle.std.specs.FinMap as finite
use Rattle.forward_copy.proofs.firms.Firms.get.Goals as goal

pub returns : goal.returns
returns c = c.copied.ensures ∙ c.get.ensures.value ∙ sym (get-entries_of object_cmp-total object_cmp-exact c.self.inside.entries.entries c.args.object) ∙ ap (λ m. finite.get m c.args.object) c.self.view_is
