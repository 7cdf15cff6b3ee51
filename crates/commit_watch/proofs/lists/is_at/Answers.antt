use Rattle.std.proofs.Common.{arith}
use Rattle.commit_watch.proofs.ListLemmas.{is-at-found, is-at-other}
use Rattle.commit_watch.proofs.lists.is_at.Goals as goal

pub returns-clause-found : goal.returns-clause-found
returns-clause-found g c = is-at-found c.args.moved.now c.args.place c.args.object c.index-moved-place.result c.eq.result c.eq.ensures (omega arith)

pub returns-clause-other : goal.returns-clause-other
returns-clause-other g c = is-at-other c.args.moved.now c.args.place c.args.object c.index-moved-place.result c.eq.result c.eq.ensures (omega arith)
