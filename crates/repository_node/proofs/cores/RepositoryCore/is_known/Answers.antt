use Rattle.repository_node.proofs.Names.{ap, sym, ◌∙◌, is_some}
use Rattle.repository_node.specs.KeptCores.{log_in}
use Rattle.repository_node.proofs.CoreLemmas.{knows-asked}
use Rattle.repository_node.proofs.cores.RepositoryCore.is_known.Goals as goal

pub returns-in-Open : goal.returns-in-Open
returns-in-Open g c = c.is_some.ensures ∙ ap (λ x. is_some x) c.known.ensures ∙ knows-asked c.in-Open.core.log (log_in c.args.self.now.kept) c.args.stamp (sym (ap (λ z. log_in z) c.in-Open.is))
