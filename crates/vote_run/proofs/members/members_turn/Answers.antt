use Rattle.vote_run.proofs.FareLemmas.{all-turned}
use Rattle.vote_run.proofs.LastLemmas.{all-last}
use Rattle.vote_run.proofs.MembersLemmas.{all-sat}
use Rattle.vote_run.proofs.members.members_turn.Goals as goal

pub returns-clause-sat : goal.returns-clause-sat
returns-clause-sat g c told lines st sit enough =
    all-sat g.M.Medium lines told c.args.courier.now c.turn-first.new.courier c.turn-second.new.courier c.turn-third.new.courier c.args.members
    (record { first = c.turn-first.result; second = c.turn-second.result; third = c.turn-third.result }) st sit c.turn-first.ensures.turns c.turn-second.ensures.turns c.turn-third.ensures.turns enough

pub returns-clause-fares : goal.returns-clause-fares
returns-clause-fares g c enough first h =
    all-turned g.M.Medium first c.args.courier.now c.turn-first.new.courier c.turn-second.new.courier c.turn-third.new.courier c.args.members
    (record { first = c.turn-first.result; second = c.turn-second.result; third = c.turn-third.result }) c.turn-first.ensures.turns c.turn-second.ensures.turns c.turn-third.ensures.turns enough h

pub returns-clause-lasts : goal.returns-clause-lasts
returns-clause-lasts g c first h =
    all-last g.M.Medium first c.args.courier.now c.turn-first.new.courier c.turn-second.new.courier c.turn-third.new.courier c.args.members
    (record { first = c.turn-first.result; second = c.turn-second.result; third = c.turn-third.result }) c.turn-first.ensures.turns c.turn-second.ensures.turns c.turn-third.ensures.turns h
