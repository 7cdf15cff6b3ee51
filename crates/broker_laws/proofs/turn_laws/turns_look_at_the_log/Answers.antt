use Rattle.broker_laws.proofs.Parts.{parts}
use Rattle.broker_laws.proofs.turn_laws.turns_look_at_the_log.Goals as goal

pub returns : goal.returns
returns c = parts
