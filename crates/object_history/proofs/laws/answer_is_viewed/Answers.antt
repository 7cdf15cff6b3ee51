use Rattle.object_history.proofs.AnswerLemmas.{answer-viewed}
use Rattle.object_history.proofs.laws.answer_is_viewed.Goals as goal

pub returns : goal.returns
returns c = answer-viewed
