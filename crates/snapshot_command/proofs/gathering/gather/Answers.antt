use Rattle.std.proofs.Common.{◌+◌, ℕ, [], length, arith, refl, sym, ap, subst}
use Rattle.std.specs.Prelude.{Ok}
use Rattle.pseudo_time.specs.Nodes.{repository as named}
use Rattle.watch_command.specs.Archives.{joined_marks}
use Rattle.watch_command.specs.Shelves.{shelf_sight}
use Rattle.snapshot_command.specs.Nodes.{Takes}
use Rattle.snapshot_command.specs.Repositories.{in_order}
use Rattle.snapshot_command.proofs.NodeLemmas.{lacking, next-read, none-yet, stopped}
use Rattle.snapshot_command.proofs.RepositoryLemmas.{in-order}
use Rattle.snapshot_command.proofs.gathering.gather.Goals as goal

pub loop-number-init : goal.loop-number-init
loop-number-init g c =
    let none = ap length c.requires.empty in
    record {
      volumes = ([], refl, none-yet in_order in-order joined_marks g.S.Medium.Medium (shelf_sight g.S.Shelf c.args.shelf.now) c.args.kept.items c.requires.empty, (tt, c.new-known.ensures.items));
      few = omega (arith, none, c.args.kept.ok);
      room = c.requires.room;
    }

pub returns-in-Err : goal.returns-in-Err
returns-in-Err g c =
    let w = g.S.Medium.Medium in
    let now = c.loop-number.invariant.volumes in
    let old = shelf_sight g.S.Shelf c.args.shelf.now in
    let mid = shelf_sight g.S.Shelf c.loop-number.shelf in
    let new = shelf_sight g.S.Shelf c.take_repository-read.new.shelf in
    stopped in_order in-order joined_marks w 16 old mid new now.0 c.loop-number.kept.items c.take_repository-read.result.1.items c.loop-number.known.items (named c.loop-number.number) c.in-Err.outcome (ap named (sym now.1)) now.2 now.3
    (subst (λ r. Takes joined_marks w mid new (named c.loop-number.number) c.loop-number.kept.items c.take_repository-read.result.1.items r) c.in-Err.is c.take_repository-read.ensures.took)

pub returns-in_default : goal.returns-in_default
returns-in_default g c =
    let w = g.S.Medium.Medium in
    let now = c.loop-number.invariant.volumes in
    let old = shelf_sight g.S.Shelf c.args.shelf.now in
    let mid = shelf_sight g.S.Shelf c.loop-number.shelf in
    let new = shelf_sight g.S.Shelf c.take_repository-read.new.shelf in
    lacking in_order in-order joined_marks w 16 old mid new now.0 c.loop-number.kept.items c.take_repository-read.result.1.items (named c.loop-number.number) c.take_repository-read.result.0 (ap named (sym now.1)) now.2
    c.take_repository-read.ensures.took

pub loop-number-preserved : goal.loop-number-preserved
loop-number-preserved g c =
    let w = g.S.Medium.Medium in
    let now = c.loop-number.invariant in
    let vs = now.volumes.0 in
    let at = now.volumes.1 in
    let old = shelf_sight g.S.Shelf c.args.shelf.now in
    let mid = shelf_sight g.S.Shelf c.loop-number.shelf in
    let new = shelf_sight g.S.Shelf c.take_repository-read.new.shelf in
    let few = c.take_repository-read.ensures.few in
    let room = c.take_repository-read.ensures.room in
    let took = subst (λ r. Takes joined_marks w mid new (named c.loop-number.number) c.loop-number.kept.items c.take_repository-read.result.1.items r) c.in-Ok.is c.take_repository-read.ensures.took in
    let more = next-read in_order in-order joined_marks w old mid new c.loop-number.kept.items c.take_repository-read.result.1.items c.loop-number.known.items c.push.new.self.items (length vs) (length vs + 1) c.in-Ok.archive
    (vs, refl, now.volumes.2, now.volumes.3) refl
    (subst (λ (n : ℕ). Takes joined_marks w mid new (named n) c.loop-number.kept.items c.take_repository-read.result.1.items (Ok c.in-Ok.archive)) (sym at) took) c.in-Ok-push.ensures.items in
    let next = more.1 in
    record {
      volumes = (more.0, omega (arith, next, at), more.2, more.3);
      few = omega (arith, few, now.few);
      room = omega (arith, room, now.room);
    }
