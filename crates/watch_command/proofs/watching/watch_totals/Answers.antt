use Rattle.watch_command.proofs.Names.{reverse, shelf_sight, volume_name, one-usable}
use Rattle.watch_command.proofs.WatchLemmas.{one-stands, totals-over}
use Rattle.watch_command.proofs.watching.watch_totals.Goals as goal

pub open_one-opening-requires : goal.open_one-opening-requires
open_one-opening-requires g c = record {
  usable = one-usable g.S.Medium.Medium (shelf_sight g.S.Shelf c.args.shelf.now) (shelf_sight g.S.Shelf c.take_volume-taken.new.shelf) (volume_name c.repository-node.result c.totals_volume.result) c.take_volume-taken.result c.take_volume-taken.ensures;
}

pub watch_opened-requires-clause-stands : goal.watch_opened-requires-clause-stands
watch_opened-requires-clause-stands g c =
    one-stands g.S.Medium.Medium (shelf_sight g.S.Shelf c.args.shelf.now) (shelf_sight g.S.Shelf c.take_volume-taken.new.shelf) c.args.repository c.args.rule c.take_volume-taken.result c.open_one-opening.result c.open_one-opening.ensures

pub returns : goal.returns
returns g c =
    totals-over g.S.Medium.Medium (shelf_sight g.S.Shelf c.args.shelf.now) (shelf_sight g.S.Shelf c.take_volume-taken.new.shelf) c.args.repository c.args.rule c.repository-node.result c.totals_volume.result (reverse c.args.marks.now)
    c.watch_opened.result.0 c.take_volume-taken.result c.watch_opened.result.1 c.open_one-opening.result c.repository-node.ensures c.totals_volume.ensures c.take_volume-taken.ensures c.open_one-opening.ensures c.watch_opened.ensures
