use Rattle.serial_law.proofs.OwnAnswers.{own-write-read}
use Rattle.serial_law.proofs.fact_laws.reads_see_own_writes.Goals as goal

pub returns : goal.returns
returns c = own-write-read
