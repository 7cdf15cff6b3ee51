use Rattle.archive_promise.proofs.WatchedLemmas.{counts-on}
use Rattle.archive_promise.proofs.laws.law_of_watches.Goals as goal

pub returns : goal.returns
returns c rule r logs log puts text ready = counts-on rule r logs log puts text ready
