use Rattle.node_inputs.specs.Words.{knows}
use Rattle.node_turn.proofs.SeekLemmas.{seeks-none, none-of}
use Rattle.node_turn.proofs.lookups.look_up_asked.Goals as goal

pub returns-in-None-clause-seeks : goal.returns-in-None-clause-seeks
returns-in-None-clause-seeks g c = seeks-none c.args.node (knows c.args.pass) _ (λ t. none-of c.args.asked _ c.in-None.is)
