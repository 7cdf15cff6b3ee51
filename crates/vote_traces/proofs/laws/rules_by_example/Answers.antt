use Rattle.vote_traces.proofs.RowLemmas.{row-meets, row-decided, no-early-tick, not-twice}
use Rattle.vote_traces.proofs.laws.rules_by_example.Goals as goal

pub returns-clause-met : goal.returns-clause-met
returns-clause-met c = row-meets

pub returns-clause-decided : goal.returns-clause-decided
returns-clause-decided c = row-decided

pub returns-clause-early : goal.returns-clause-early
returns-clause-early c = no-early-tick

pub returns-clause-twice : goal.returns-clause-twice
returns-clause-twice c = not-twice
