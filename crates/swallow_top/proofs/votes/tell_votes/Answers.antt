use Rattle.swallow_top.proofs.Names.{shelf_sight, limits_of, sinking, refl}
use Rattle.swallow_top.proofs.VoteLemmas.{few-end, polled}
use Rattle.swallow_top.proofs.votes.tell_votes.Goals as goal

pub tell_end-status-requires : goal.tell_end-status-requires
tell_end-status-requires g c =
    few-end g.S.Medium.Medium (shelf_sight g.S.Shelf c.args.shelf.now) (shelf_sight g.S.Shelf c.vote-end.new.shelf) (limits_of c.args.options) c.args.polls.now _ c.vote-end.result.media.items c.vote-end.result.end c.requires.few c.vote-end.ensures

pub returns : goal.returns
returns g c =
    let h = g.S.Shelf in
    let k = g.O.Sink in
    record {
      polled = polled g.S.Medium.Medium (shelf_sight h c.args.shelf.now) (shelf_sight h c.vote-end.new.shelf) c.args.polls.now c.args.options (limits_of c.args.options) _ c.tell_end-status.result.1 c.vote-end.result.media.items c.of.result
          (sinking (k.taken c.args.sink.now) (k.taken c.tell_end-status.new.sink) (k.faults c.args.sink.now) (k.faults c.tell_end-status.new.sink)) c.tell_end-status.result.0 c.vote-end.result.end refl c.of.ensures c.vote-end.ensures c.tell_end-status.ensures c.none.ensures;
    }
