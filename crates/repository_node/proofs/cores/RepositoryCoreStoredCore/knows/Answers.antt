use Rattle.repository_node.proofs.Names.{ap, ◌∙◌, repository, knows}
use Rattle.repository_node.proofs.CoreLemmas.{life-log}
use Rattle.repository_node.proofs.cores.RepositoryCoreStoredCore.knows.Goals as goal

pub returns : goal.returns
returns g c = λ kind t b l h.
    let core = c.args.self.now in
    c.is_known.ensures ∙ ap (λ es. knows es c.args.stamp) (life-log core.kept (repository core.number) l h)
