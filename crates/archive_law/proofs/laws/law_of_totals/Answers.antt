use Rattle.archive_law.proofs.TotalLemmas.{some-counted, whole-counted}
use Rattle.archive_law.proofs.laws.law_of_totals.Goals as goal

pub returns-clause-totals : goal.returns-clause-totals
returns-clause-totals g c r es past are o w e = some-counted g.R.WatchRule.first g.R.WatchRule.next r es past are o w e

pub returns-clause-whole : goal.returns-clause-whole
returns-clause-whole g c r es past are o u h = whole-counted g.R.WatchRule.first g.R.WatchRule.next r es past are o u h
