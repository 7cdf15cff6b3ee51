use Rattle.archive_store.proofs.ArchiveLemmas.{unretired-as, closed-as}
use Rattle.archive_store.proofs.archives.Archive.asof.Goals as goal

pub latest_of-requires-clause-unretired : goal.latest_of-requires-clause-unretired
latest_of-requires-clause-unretired c = unretired-as c.args.self.now c.in_ok-marks.marks.items c.as_slice-2.result.now c.in_ok-marks.ensures c.as_slice-2.ensures.value

pub latest_of-requires-clause-closed : goal.latest_of-requires-clause-closed
latest_of-requires-clause-closed c = closed-as c.in_ok-marks.marks.items c.as_slice-2.result.now c.as_slice.result.now c.args.mark c.in_ok-first.field-0 c.as_slice-2.ensures.value c.as_slice.ensures.value c.in_ok-first.ensures c.in_default.is
