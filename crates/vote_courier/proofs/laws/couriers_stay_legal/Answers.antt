use Rattle.vote_courier.proofs.StationLemmas.{takes-legal, notes-legal, gates-legal, downs-legal, ticks-legal}
use Rattle.vote_courier.proofs.laws.couriers_stay_legal.Goals as goal

pub returns-clause-takes : goal.returns-clause-takes
returns-clause-takes c = takes-legal

pub returns-clause-notes : goal.returns-clause-notes
returns-clause-notes c = notes-legal

pub returns-clause-gates : goal.returns-clause-gates
returns-clause-gates c = gates-legal

pub returns-clause-downs : goal.returns-clause-downs
returns-clause-downs c = downs-legal

pub returns-clause-ticks : goal.returns-clause-ticks
returns-clause-ticks c = ticks-legal
