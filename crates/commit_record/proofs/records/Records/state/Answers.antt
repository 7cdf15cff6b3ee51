use Rattle.std.proofs.Common.{sym, ap, ◌∙◌}
use Rattle.std.specs.FinMap as finite
use Rattle.commit_record.proofs.RecordLemmas.{get-entries_of}
use Rattle.commit_record.proofs.records.Records.state.Goals as goal

pub returns : goal.returns
returns c = c.copied.ensures ∙ c.get.ensures.value ∙ sym (get-entries_of c.self.inside.states.entries c.args.stamp) ∙ ap (λ m. finite.get m c.args.stamp) c.self.view_is
