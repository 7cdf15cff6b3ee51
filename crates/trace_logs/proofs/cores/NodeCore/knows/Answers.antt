use Rattle.trace_logs.proofs.Names.{is_some, StandsFor, subst, ap, reverse, ◌∙◌}
use Rattle.repository_log.specs.Logs.{known}
use Rattle.repository_log.proofs.MarkLemmas.{knows-known}
use Rattle.trace_logs.proofs.MarkLemmas.{knows-reverse}
use Rattle.trace_logs.proofs.cores.NodeCore.knows.Goals as goal

pub returns-in-Repository : goal.returns-in-Repository
returns-in-Repository c b n mind s =
    let h = subst (StandsFor b n c.args.log.now mind) c.in-Repository.is s in
    c.is_some.ensures ∙ ap is_some (c.known.ensures ∙ ap (λ l. known (reverse l) c.args.stamp) h.log) ∙ knows-known (reverse c.args.log.now) c.args.stamp ∙ knows-reverse c.args.log.now c.args.stamp
