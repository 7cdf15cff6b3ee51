use Rattle.swallow_top.proofs.Names.{shelf_sight, TellsVolumes, sinking, inr, subst}
use Rattle.swallow_top.proofs.HistoryLemmas.{handed-back, tells-history}
use Rattle.swallow_top.proofs.histories.tell_history.Goals as goal

pub returns : goal.returns
returns g c =
    let h = g.S.Shelf in
    let k = g.O.Sink in
    let s = sinking (k.taken c.args.sink.now) (k.taken c.tell_volumes-status.new.sink) (k.faults c.args.sink.now) (k.faults c.tell_volumes-status.new.sink) in
    let node = c.repository-node.result in
    let os = c.open_volumes-openings.result.items in
    inr (tells-history g.S.Medium.Medium (shelf_sight h c.args.shelf.now) (shelf_sight h c.open_volumes-openings.new.shelf) c.args.object node c.open_volumes-openings.ensures.volumes.0 os c.keep_volumes.result.items s
    c.tell_volumes-status.result c.repository-node.ensures c.open_volumes-openings.ensures.volumes.1
    (handed-back node os c.give_back.result.items c.in-Ok-with_capacity-2.kept.items c.keep_volumes.result.items c.in-Ok-with_capacity-2.ensures.items c.give_back.ensures.back c.keep_volumes.ensures.kept)
    (subst (λ l. TellsVolumes c.args.object l c.tell_volumes-status.result s) c.as_slice.ensures.value c.tell_volumes-status.ensures))
