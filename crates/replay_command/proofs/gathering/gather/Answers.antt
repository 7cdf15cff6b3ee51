use Rattle.std.proofs.Common.{◌+◌, [], length, arith, refl, sym, ap, subst, ◌∙◌}
use Rattle.std.specs.Prelude.{Ok}
use Rattle.snapshot_command.specs.Nodes.{Takes}
use Rattle.snapshot_command.specs.Shelves.{shelf_sight}
use Rattle.snapshot_command.proofs.NodeLemmas.{lacking, next-read, none-yet, stopped}
use Rattle.replay_command.specs.Nodes.{node_at, node_log}
use Rattle.replay_command.proofs.NodeLemmas.{nodes-differ}
use Rattle.replay_command.proofs.gathering.gather.Goals as goal

pub loop-place-init : goal.loop-place-init
loop-place-init g c =
    let none = ap length c.requires.empty in
    record {
      volumes = ([], refl, none-yet node_at nodes-differ node_log g.S.Medium.Medium (shelf_sight g.S.Shelf c.args.shelf.now) c.args.kept.items c.requires.empty, (tt, c.new-logs.ensures.items));
      few = omega (arith, none, c.args.kept.ok);
      room = c.requires.room;
    }

pub returns-in-Err : goal.returns-in-Err
returns-in-Err g c =
    let w = g.S.Medium.Medium in
    let now = c.loop-place.invariant.volumes in
    let old = shelf_sight g.S.Shelf c.args.shelf.now in
    let mid = shelf_sight g.S.Shelf c.loop-place.shelf in
    let new = shelf_sight g.S.Shelf c.take_node-read.new.shelf in
    stopped node_at nodes-differ node_log w 32 old mid new now.0 c.loop-place.kept.items c.take_node-read.result.1.items c.loop-place.logs.items c.node_at.result c.in-Err.outcome (c.node_at.ensures ∙ ap node_at (sym now.1)) now.2 now.3
    (subst (λ r. Takes node_log w mid new c.node_at.result c.loop-place.kept.items c.take_node-read.result.1.items r) c.in-Err.is c.take_node-read.ensures.took)

pub returns-in_default : goal.returns-in_default
returns-in_default g c =
    let w = g.S.Medium.Medium in
    let now = c.loop-place.invariant.volumes in
    let old = shelf_sight g.S.Shelf c.args.shelf.now in
    let mid = shelf_sight g.S.Shelf c.loop-place.shelf in
    let new = shelf_sight g.S.Shelf c.take_node-read.new.shelf in
    lacking node_at nodes-differ node_log w 32 old mid new now.0 c.loop-place.kept.items c.take_node-read.result.1.items c.node_at.result c.take_node-read.result.0 (c.node_at.ensures ∙ ap node_at (sym now.1)) now.2 c.take_node-read.ensures.took

pub loop-place-preserved : goal.loop-place-preserved
loop-place-preserved g c =
    let w = g.S.Medium.Medium in
    let now = c.loop-place.invariant in
    let old = shelf_sight g.S.Shelf c.args.shelf.now in
    let mid = shelf_sight g.S.Shelf c.loop-place.shelf in
    let new = shelf_sight g.S.Shelf c.take_node-read.new.shelf in
    let few = c.take_node-read.ensures.few in
    let room = c.take_node-read.ensures.room in
    let took = subst (λ r. Takes node_log w mid new c.node_at.result c.loop-place.kept.items c.take_node-read.result.1.items r) c.in-Ok.is c.take_node-read.ensures.took in
    record {
      volumes = next-read node_at nodes-differ node_log w old mid new c.loop-place.kept.items c.take_node-read.result.1.items c.loop-place.logs.items c.push.new.self.items c.loop-place.place (c.loop-place.place + 1) c.in-Ok.log now.volumes refl
          (subst (λ n. Takes node_log w mid new n c.loop-place.kept.items c.take_node-read.result.1.items (Ok c.in-Ok.log)) c.node_at.ensures took) c.in-Ok-push.ensures.items;
      few = omega (arith, few, now.few);
      room = omega (arith, room, now.room);
    }
