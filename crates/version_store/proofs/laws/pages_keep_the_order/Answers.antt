use Rattle.version_store.proofs.FillingLemmas.{joined-filling}
use Rattle.version_store.proofs.laws.pages_keep_the_order.Goals as goal

pub returns : goal.returns
returns c = joined-filling
