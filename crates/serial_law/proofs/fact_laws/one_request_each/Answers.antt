use Rattle.serial_law.proofs.OwnAnswers.{one-read, one-write, read-or-write}
use Rattle.serial_law.proofs.fact_laws.one_request_each.Goals as goal

pub returns-clause-reads : goal.returns-clause-reads
returns-clause-reads c = one-read

pub returns-clause-writes : goal.returns-clause-writes
returns-clause-writes c = one-write

pub returns-clause-apart : goal.returns-clause-apart
returns-clause-apart c = read-or-write
