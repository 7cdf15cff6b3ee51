use Rattle.trace_report.proofs.Names.{sym, ap, ◌∙◌, stamp_cmp-total, stamp_cmp-exact, get-entries_of}
use Rattle.std.specs.FinMap as finite
use Rattle.trace_report.proofs.firsts.Firsts.get.Goals as goal

pub returns : goal.returns
returns c = c.copied.ensures ∙ c.get.ensures.value ∙ sym (get-entries_of stamp_cmp-total stamp_cmp-exact c.self.inside.entries.entries c.args.stamp) ∙ ap (λ m. finite.get m c.args.stamp) c.self.view_is
