use Rattle.snapshot_command.proofs.RepositoryLemmas.{read-few}
use Rattle.snapshot_command.proofs.calls.snapshot.Goals as goal

pub tell-requires-clause-few : goal.tell-requires-clause-few
tell-requires-clause-few g c = read-few g.S.Medium.Medium c.gather-read.ensures.volumes c.gather-read.result.0 c.in-Ok-read.known c.as_slice.result.now c.gather-read.ensures.read c.in-Ok-read.is c.as_slice.ensures.value
