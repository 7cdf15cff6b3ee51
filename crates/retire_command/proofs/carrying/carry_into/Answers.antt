use Rattle.forward_copy.specs.Sifted.{between}
use Rattle.retire_command.proofs.RetireLemmas.{cut}
use Rattle.retire_command.proofs.carrying.carry_into.Goals as goal

pub returns-in-Err : goal.returns-in-Err
returns-in-Err g c =
    cut g.M.Medium c.args.node (between c.args.mark c.args.forward.now.kept.items) c.args.fresh c.args.line c.in-Err.fault c.cut_off.result c.in-Err.medium c.in-Err.ensures.images c.in-Err.ensures.failed c.in-Err.ensures.full c.cut_off.ensures
