use Rattle.replay_law.proofs.FolderLemmas.{past-replays}
use Rattle.replay_law.proofs.laws.law_of_replays.Goals as goal

pub returns : goal.returns
returns c = λ cs past. past-replays cs past
