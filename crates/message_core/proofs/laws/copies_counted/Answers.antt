use Rattle.message_core.proofs.Names.{start, blank_tally}
use Rattle.message_core.proofs.TallyLemmas.{tallied_start, tallied_step, tallied_flown, front-due, empty-taken}
use Rattle.message_core.proofs.laws.copies_counted.Goals as goal

pub returns-clause-start : goal.returns-clause-start
returns-clause-start c = tallied_start

pub returns-clause-step : goal.returns-clause-step
returns-clause-step c = tallied_step

pub returns-clause-whole : goal.returns-clause-whole
returns-clause-whole c = λ nodes calls. tallied_flown (start nodes) blank_tally calls (tallied_start nodes)

pub returns-clause-front : goal.returns-clause-front
returns-clause-front c = front-due

pub returns-clause-empty : goal.returns-clause-empty
returns-clause-empty c = empty-taken
