use Rattle.serial_model.proofs.QuestionLemmas.{carried_out-walk}
use Rattle.serial_model.proofs.laws.law_of_worlds.Goals as goal

pub returns : goal.returns
returns g c = carried_out-walk
