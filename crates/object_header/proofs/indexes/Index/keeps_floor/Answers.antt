use Rattle.object_header.proofs.IndexLemmas.{indexed-floor}
use Rattle.object_header.proofs.indexes.Index.keeps_floor.Goals as goal

pub returns : goal.returns
returns c m is = indexed-floor m _ _ c.args.at is
