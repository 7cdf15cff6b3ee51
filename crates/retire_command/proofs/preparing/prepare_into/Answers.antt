use Rattle.retire_command.proofs.RetireLemmas.{refused-for}
use Rattle.retire_command.proofs.preparing.prepare_into.Goals as goal

pub returns-in-Err-clause-stops : goal.returns-in-Err-clause-stops
returns-in-Err-clause-stops g c =
    refused-for c.args.node c.args.mark c.args.openings.now c.args.volume c.node_log.result.now c.in-Err.fault c.refusal.result c.requires.open c.requires.fresh c.node_log.ensures c.in-Err.ensures.old c.in-Err.ensures.undecided c.refusal.ensures
