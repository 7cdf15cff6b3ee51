use Rattle.archive_store.proofs.Names.{◌∙◌, ap, last_log, reverse, settle_of}
use Rattle.archive_store.proofs.ArchiveLemmas.{joined-unretired}
use Rattle.archive_store.proofs.known.Known.of.Goals as goal

pub invariant_of-result : goal.invariant_of-result
invariant_of-result c = (joined-unretired c.args.archive.now (last_log c.args.archive.now) c.in_ok-marks.marks.items c.in_ok-marks.ensures, λ p. c.in_ok-settles.ensures p ∙ ap (λ z. settle_of (reverse z) p) c.as_slice.ensures.value)
