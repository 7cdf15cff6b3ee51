use Rattle.archive_promise.proofs.AnsweredLemmas.{is-lawful}
use Rattle.archive_promise.proofs.laws.law_of_questions.Goals as goal

pub returns : goal.returns
returns c = is-lawful
