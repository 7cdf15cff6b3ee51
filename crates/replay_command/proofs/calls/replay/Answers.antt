use Rattle.replay_command.proofs.NodeLemmas.{all-read}
use Rattle.replay_command.proofs.calls.replay.Goals as goal

pub tell-requires : goal.tell-requires
tell-requires g c = all-read g.S.Medium.Medium c.gather-read.ensures.volumes c.gather-read.result.0 c.in-Ok-read.nodes c.gather-read.ensures.read c.in-Ok-read.is
