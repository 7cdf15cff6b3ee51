use Rattle.commit_watch.proofs.TotalLemmas.{total-kept}
use Rattle.commit_watch.proofs.laws.marks_keep_totals.Goals as goal

pub returns : goal.returns
returns g c = λ m f o w. total-kept g.R.WatchRule.first g.R.WatchRule.next o m f w
