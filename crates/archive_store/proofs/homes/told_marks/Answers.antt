use Rattle.archive_store.proofs.Names.{reverse, settle_of}
use Rattle.archive_store.specs.Homes.{at_home}
use Rattle.archive_store.proofs.HomeLemmas.{told-next, told-none, whole-unretired}
use Rattle.archive_store.proofs.homes.told_marks.Goals as goal

pub loop-mark-init : goal.loop-mark-init
loop-mark-init c = told-none (settle_of (reverse c.args.archive.now)) (at_home c.args.known.now) c.args.archive.now c.as_slice.result.now c.in_ok-marks.marks.items c.as_slice.ensures.marks c.in_ok-marks.ensures

pub loop-mark-preserved : goal.loop-mark-preserved
loop-mark-preserved c =
    told-next (settle_of (reverse c.args.archive.now)) (at_home c.args.known.now) c.as_slice-mark-items.result.now c.args.archive.now c.loop-mark.mark-index c.mark-item.result c.args.archive.now c.loop-mark.marks.items c.add_told.new.marks.items
    c.as_slice-mark-items.ensures.marks c.loop-mark-test.true c.mark-item.is c.loop-mark.invariant c.in_ok-add_told.ensures

pub returns-clause-unretired : goal.returns-clause-unretired
returns-clause-unretired c =
    whole-unretired (settle_of (reverse c.args.archive.now)) (at_home c.args.known.now) c.as_slice-mark-items.result.now c.args.archive.now c.loop-mark.mark-index c.loop-mark.marks.items c.as_slice-mark-items.ensures.marks c.loop-mark-test.false
    c.loop-mark.invariant c.as_slice-mark-items.ensures.unretired
