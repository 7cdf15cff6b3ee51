use Rattle.commit_watch.proofs.TotalLemmas.{total-advanced}
use Rattle.commit_watch.proofs.laws.advance_keeps_totals.Goals as goal

pub returns : goal.returns
returns g c = λ m o w u. total-advanced g.R.WatchRule.first g.R.WatchRule.next o m w u
