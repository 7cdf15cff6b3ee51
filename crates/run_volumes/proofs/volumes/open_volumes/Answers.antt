use Rattle.run_volumes.proofs.Names.{rules, refl, ap, sym, ◌∙◌, arith, length, shelf_sight, volume_name}
use Rattle.run_volumes.proofs.ShelfLemmas.{one-usable}
use Rattle.run_volumes.proofs.VolumeLemmas.{go-few, opened-more, opened-none, volumes-end}
use Rattle.run_volumes.proofs.volumes.open_volumes.Goals as goal

pub loop-volume-init : goal.loop-volume-init
loop-volume-init g c = record {
  opened = opened-none g.S.Medium.Medium (shelf_sight g.S.Shelf c.args.shelf.now) c.args.node c.args.room.items c.requires.empty;
  count = ap length c.requires.empty;
  room = refl;
}

pub open_one-opening-requires : goal.open_one-opening-requires
open_one-opening-requires g c = record {
  usable = one-usable g.S.Medium.Medium (shelf_sight g.S.Shelf c.loop-volume.shelf) (shelf_sight g.S.Shelf c.take_volume.new.shelf) (volume_name c.args.node c.loop-volume.volume) c.take_volume.result c.take_volume.ensures;
}

pub returns-then-is_last-clause-volumes : goal.returns-then-is_last-clause-volumes
returns-then-is_last-clause-volumes g c =
    volumes-end g.S.Medium.Medium (shelf_sight g.S.Shelf c.args.shelf.now) (shelf_sight g.S.Shelf c.loop-volume.shelf) (shelf_sight g.S.Shelf c.take_volume.new.shelf) c.args.node c.loop-volume.volume
    c.loop-volume.openings.items c.push_reserved.new.self.items c.take_volume.result c.open_one-opening.result c.loop-volume.invariant.opened c.loop-volume.invariant.count c.take_volume.ensures c.open_one-opening.ensures
    (sym c.goes_on-is_last.ensures ∙ search rules) c.push_reserved.ensures.items

pub loop-volume-preserved : goal.loop-volume-preserved
loop-volume-preserved g c =
    let count = c.loop-volume.invariant.count in
    let longer = c.push_reserved.ensures.len in
    let room = c.push_reserved.ensures.capacity in
    record {
      opened = opened-more g.S.Medium.Medium (shelf_sight g.S.Shelf c.args.shelf.now) (shelf_sight g.S.Shelf c.loop-volume.shelf) (shelf_sight g.S.Shelf c.take_volume.new.shelf) c.args.node c.loop-volume.volume
          c.loop-volume.openings.items c.push_reserved.new.self.items c.take_volume.result c.open_one-opening.result c.loop-volume.invariant.opened count c.take_volume.ensures c.open_one-opening.ensures
          (sym c.goes_on-is_last.ensures ∙ search rules) c.push_reserved.ensures.items;
      count = search rules;
      room = room ∙ c.loop-volume.invariant.room;
    }

pub returns-clause-volumes : goal.returns-clause-volumes
returns-clause-volumes g c =
    let few = go-few c.args.node.kind 0 c.loop-volume.openings.items (omega arith) c.loop-volume.invariant.opened.go_on in
    let count = c.loop-volume.invariant.count in
    let ended = c.loop-volume-test.false in
    absurd (omega (arith, few, count, ended))
