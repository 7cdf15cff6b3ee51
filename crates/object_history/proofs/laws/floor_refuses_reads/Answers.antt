use Rattle.object_history.proofs.AnswerLemmas.{read-below, answer-on-floor}
use Rattle.object_history.proofs.laws.floor_refuses_reads.Goals as goal

pub returns-clause-refused : goal.returns-clause-refused
returns-clause-refused c = read-below

pub returns-clause-answered : goal.returns-clause-answered
returns-clause-answered c = answer-on-floor
