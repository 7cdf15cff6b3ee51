use Rattle.watch_command.proofs.Names.{Every, shelf_sight, Stands, AreOpen, logs_of, stand-all, joined_marks, Keeps, ap, ◌∙◌, inl, inr, subst, sym}
use Rattle.archive_command.proofs.AnswerLemmas.{handed-back}
use Rattle.watch_command.proofs.MarkLemmas.{archive-in-range, archive-unretired}
use Rattle.watch_command.proofs.WatchLemmas.{stops-before, watches-over}
use Rattle.watch_command.proofs.watching.watch.Goals as goal

pub watch_totals-outcome-requires-clause-unretired : goal.watch_totals-outcome-requires-clause-unretired
watch_totals-outcome-requires-clause-unretired g c = archive-unretired (logs_of c.as_slice.result.now) c.as_slice-in-Ok-marks_in.result.now (c.as_slice-in-Ok-marks_in.ensures.value ∙ c.in-Ok-marks_in.ensures.marks)

pub watch_totals-outcome-requires-clause-marks : goal.watch_totals-outcome-requires-clause-marks
watch_totals-outcome-requires-clause-marks g c =
    archive-in-range g.S.Medium.Medium c.as_slice.result.now c.as_slice-in-Ok-marks_in.result.now
    (subst (Every (Stands g.S.Medium.Medium)) (sym c.as_slice.ensures.value) (stand-all g.S.Medium.Medium c.open_volumes-openings.ensures.volumes.0 c.open_volumes-openings.result.items c.open_volumes-openings.ensures.volumes.1.opened))
    (c.as_slice-in-Ok-marks_in.ensures.value ∙ c.in-Ok-marks_in.ensures.marks)

pub returns-in-Ok-marks_in : goal.returns-in-Ok-marks_in
returns-in-Ok-marks_in g c =
    let h = g.S.Shelf in
    let node = c.repository-node.result in
    let os = c.open_volumes-openings.result.items in
    inr (inr (watches-over g.S.Medium.Medium (shelf_sight h c.args.shelf.now) (shelf_sight h c.open_volumes-openings.new.shelf) (shelf_sight h c.watch_totals-outcome.new.shelf) c.args.repository c.args.rule node c.totals_volume.result
    c.open_volumes-openings.ensures.volumes.0 os c.as_slice-in-Ok-marks_in.result.now c.keep_volumes-kept.result.items c.keep_one.result.items c.watch_totals-outcome.result.1 c.watch_totals-outcome.result.0
    c.repository-node.ensures c.totals_volume.ensures c.open_volumes-openings.ensures.volumes.1 (subst AreOpen c.as_slice.ensures.value c.in-Ok-marks_in.ensures.opened)
    (handed-back node os c.give_back.result.items c.in-Ok-with_capacity-2.kept.items c.keep_volumes-kept.result.items c.in-Ok-with_capacity-2.ensures.items c.give_back.ensures.back c.keep_volumes-kept.ensures.kept)
    c.keep_one.ensures.kept
    (c.as_slice-in-Ok-marks_in.ensures.value ∙ c.in-Ok-marks_in.ensures.marks ∙ ap (λ l. joined_marks (logs_of l)) c.as_slice.ensures.value) c.watch_totals-outcome.ensures))

pub returns-in-Err : goal.returns-in-Err
returns-in-Err g c =
    let h = g.S.Shelf in
    let node = c.repository-node.result in
    let os = c.open_volumes-openings.result.items in
    inr (inl (stops-before g.S.Medium.Medium (shelf_sight h c.args.shelf.now) (shelf_sight h c.open_volumes-openings.new.shelf) c.args.repository c.args.rule node c.open_volumes-openings.ensures.volumes.0 os c.keep_volumes.result.items c.in-Err.outcome
    c.repository-node.ensures c.open_volumes-openings.ensures.volumes.1
    (handed-back node os c.give_back-in-Err.result.items c.in-Ok-with_capacity-2.kept.items c.keep_volumes.result.items c.in-Ok-with_capacity-2.ensures.items c.give_back-in-Err.ensures.back c.keep_volumes.ensures.kept)
    (subst (λ l. Keeps c.args.repository l c.in-Err.outcome) c.as_slice.ensures.value c.in-Err.ensures.keeps)))
