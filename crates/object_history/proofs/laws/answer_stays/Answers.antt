use Rattle.object_history.proofs.ViewLemmas.{viewed-kept}
use Rattle.object_history.proofs.laws.answer_stays.Goals as goal

pub returns : goal.returns
returns c = viewed-kept
