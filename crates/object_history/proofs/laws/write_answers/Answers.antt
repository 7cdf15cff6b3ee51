use Rattle.object_history.proofs.AnswerLemmas.{again-stands, later-read, later-version}
use Rattle.object_history.proofs.laws.write_answers.Goals as goal

pub returns-clause-again : goal.returns-clause-again
returns-clause-again c = again-stands

pub returns-clause-later_read : goal.returns-clause-later_read
returns-clause-later_read c = later-read

pub returns-clause-later_version : goal.returns-clause-later_version
returns-clause-later_version c = later-version
