use Rattle.std.proofs.Common.{inl, inr, refl}
use Rattle.run_volumes.specs.Shelves.{shelf_sight}
use Rattle.run_volumes.proofs.ShelfLemmas.{left-same}
use Rattle.votes_command.proofs.MemberLemmas.{members-usable}
use Rattle.votes_command.proofs.voting.vote.Goals as goal

pub votes-end-requires-clause-usable : goal.votes-end-requires-clause-usable
votes-end-requires-clause-usable g c =
    members-usable g.S.Medium.Medium (shelf_sight g.S.Shelf c.args.shelf.now) (shelf_sight g.S.Shelf c.take_members-media.new.shelf) c.take_members-media.result c.take_members-media.ensures

pub returns-in_default : goal.returns-in_default
returns-in_default g c = inl (record { wanting = refl; fates = refl; clock = refl; none = c.new.ensures.items; unasked = refl; left = λ name. left-same g.S.Medium.Medium.tells (shelf_sight g.S.Shelf c.args.shelf.now) name })

pub returns : goal.returns
returns g c = inr (record {
  media = c.take_members-media.result;
  left = c.votes-end.result.media;
  taken = c.take_members-media.ensures;
  handed = c.keep_members.ensures;
  ended = c.votes-end.ensures.ended;
  safe = c.votes-end.ensures.kept;
})
