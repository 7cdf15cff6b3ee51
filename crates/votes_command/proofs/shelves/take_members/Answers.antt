use Rattle.std.proofs.Common.{subst}
use Rattle.run_volumes.specs.Shelves.{TakesOne, shelf_sight, volume_name}
use Rattle.votes_command.proofs.MemberLemmas.{members-taken}
use Rattle.votes_command.proofs.shelves.take_members.Goals as goal

pub returns : goal.returns
returns g c =
    let w = g.S.Medium.Medium in
    let a = shelf_sight g.S.Shelf c.args.shelf.now in
    let one = shelf_sight g.S.Shelf c.take_volume-first.new.shelf in
    let two = shelf_sight g.S.Shelf c.take_volume-second.new.shelf in
    let three = shelf_sight g.S.Shelf c.take_volume-third.new.shelf in
    members-taken w a one two three c.take_volume-first.result c.take_volume-second.result c.take_volume-third.result
    (subst (λ n. TakesOne w a one (volume_name n 1010) c.take_volume-first.result) c.repository.ensures c.take_volume-first.ensures)
    (subst (λ n. TakesOne w one two (volume_name n 1010) c.take_volume-second.result) c.repository-2.ensures c.take_volume-second.ensures)
    (subst (λ n. TakesOne w two three (volume_name n 1010) c.take_volume-third.result) c.repository-3.ensures c.take_volume-third.ensures)
