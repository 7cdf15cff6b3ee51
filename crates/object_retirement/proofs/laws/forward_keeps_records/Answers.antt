use Rattle.object_retirement.proofs.ForwardLemmas.{marks-forwarded, record-forwarded, decide-forwarded, forwarded-has}
use Rattle.object_retirement.proofs.laws.forward_keeps_records.Goals as goal

pub returns-clause-history : goal.returns-clause-history
returns-clause-history c = marks-forwarded

pub returns-clause-records : goal.returns-clause-records
returns-clause-records c = record-forwarded

pub returns-clause-decided : goal.returns-clause-decided
returns-clause-decided c = decide-forwarded

pub returns-clause-old : goal.returns-clause-old
returns-clause-old c = forwarded-has
