use Rattle.repository_laws.proofs.TurnLemmas.{turn-reads}
use Rattle.repository_laws.proofs.wait_laws.held_reads_wait.Goals as goal

pub returns : goal.returns
returns c = turn-reads
