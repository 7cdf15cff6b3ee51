use Rattle.run_rounds.proofs.CloseLemmas.{told-for, told-idle}
use Rattle.run_rounds.proofs.ends.told_by.Goals as goal

pub returns-in-Down : goal.returns-in-Down
returns-in-Down g = told-for g.args.told g.args.idle g.args.reason g.in-Down.is

pub returns-then-idle : goal.returns-then-idle
returns-then-idle g = told-idle g.args.told g.args.idle g.args.reason g.in-RunOut.is g.if-idle.true
