use Rattle.archive_store.proofs.Names.{reverse}
use Rattle.archive_store.proofs.ArchiveLemmas.{closed-by}
use Rattle.archive_store.proofs.homes.asof_by.Goals as goal

pub latest_of-requires-clause-closed : goal.latest_of-requires-clause-closed
latest_of-requires-clause-closed c = closed-by (reverse c.args.marks.now) c.args.at c.in_ok-first.field-0 c.in_ok-first.ensures c.in_default.is
