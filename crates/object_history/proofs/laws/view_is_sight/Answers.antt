use Rattle.object_history.proofs.ViewLemmas.{sees-views}
use Rattle.object_history.proofs.laws.view_is_sight.Goals as goal

pub returns : goal.returns
returns c = sees-views
