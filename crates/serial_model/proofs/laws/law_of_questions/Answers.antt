use Rattle.serial_model.proofs.QuestionLemmas.{perform-told}
use Rattle.serial_model.proofs.AnswerLemmas.{talked-stop}
use Rattle.serial_model.proofs.ScriptLemmas.{talk_of}
use Rattle.serial_model.proofs.laws.law_of_questions.Goals as goal

pub returns-clause-alone : goal.returns-clause-alone
returns-clause-alone c = perform-told

pub returns-clause-answered : goal.returns-clause-answered
returns-clause-answered c = talk_of

pub returns-clause-stops : goal.returns-clause-stops
returns-clause-stops c = talked-stop
