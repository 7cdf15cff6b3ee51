use Rattle.vote_law.proofs.LawLemmas.{all-quiet, all-still, idle-holds, few-letters, short-logs, votes-alone}
use Rattle.vote_law.proofs.laws.law_of_calm_votes.Goals as goal

pub returns-clause-quiet : goal.returns-clause-quiet
returns-clause-quiet c = λ lines asked t front legal calm ticks. all-still front (all-quiet lines asked t front legal calm ticks)

pub returns-clause-held : goal.returns-clause-held
returns-clause-held c = idle-holds

pub returns-clause-few : goal.returns-clause-few
returns-clause-few c = few-letters

pub returns-clause-short : goal.returns-clause-short
returns-clause-short c = λ lines asked t front s legal calm ticks blank. short-logs lines asked t front legal calm ticks s blank

pub returns-clause-votes : goal.returns-clause-votes
returns-clause-votes c = λ lines asked t front s legal calm ticks blank. votes-alone lines asked t front legal calm ticks s blank
