use Rattle.log_replay.proofs.ToldLemmas.{serial-told, told-answers, told-serial}
use Rattle.log_replay.proofs.laws.law_of_told.Goals as goal

pub returns-clause-serial : goal.returns-clause-serial
returns-clause-serial c = told-serial

pub returns-clause-answers : goal.returns-clause-answers
returns-clause-answers c = told-answers

pub returns-clause-replays : goal.returns-clause-replays
returns-clause-replays c = λ k told all serial answers. serial-told k told all serial answers
