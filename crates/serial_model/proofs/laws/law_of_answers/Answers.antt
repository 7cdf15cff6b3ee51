use Rattle.serial_model.proofs.AnswerLemmas.{before_line}
use Rattle.serial_model.proofs.ScriptLemmas.{talk_whole, talk_front, talk_more}
use Rattle.serial_model.proofs.laws.law_of_answers.Goals as goal

pub returns-clause-whole : goal.returns-clause-whole
returns-clause-whole c = talk_whole

pub returns-clause-front : goal.returns-clause-front
returns-clause-front c = talk_front

pub returns-clause-fronts : goal.returns-clause-fronts
returns-clause-fronts c = before_line

pub returns-clause-more : goal.returns-clause-more
returns-clause-more c = talk_more
