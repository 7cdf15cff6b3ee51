use Rattle.object_retirement.proofs.ChainLemmas.{put-on-floor}
use Rattle.object_retirement.proofs.laws.nothing_is_put_below.Goals as goal

pub returns : goal.returns
returns c = put-on-floor
