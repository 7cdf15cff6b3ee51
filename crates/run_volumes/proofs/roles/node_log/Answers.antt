use Rattle.run_volumes.proofs.Names.{sym, ap, ◌∙◌, log_at, logs_of}
use Rattle.run_volumes.proofs.VolumeLemmas.{log-nowhere, log-there}
use Rattle.run_volumes.proofs.roles.node_log.Goals as goal

pub returns-in-Some : goal.returns-in-Some
returns-in-Some g c =
    let found = c.in-Some.ensures.lookup in
    c.log_of.ensures ∙ sym (log-there c.args.openings.now c.current.result c.in-Some.opening.now found.3.0 found.1) ∙ ap (log_at (logs_of c.args.openings.now)) c.current.ensures

pub returns-in-None : goal.returns-in-None
returns-in-None g c =
    let found = c.in-None.ensures.lookup in
    sym (log-nowhere c.args.openings.now c.current.result found.3) ∙ ap (log_at (logs_of c.args.openings.now)) c.current.ensures
