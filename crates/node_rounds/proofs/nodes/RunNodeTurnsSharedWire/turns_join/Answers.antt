use Rattle.node_rounds.proofs.TurnedLemmas.{had-again}
use Rattle.node_rounds.proofs.nodes.RunNodeTurnsSharedWire.turns_join.Goals as goal

pub returns : goal.returns
returns g c shared first mid last had ready more = had-again shared.lock g.M.Medium first mid last had ready more
