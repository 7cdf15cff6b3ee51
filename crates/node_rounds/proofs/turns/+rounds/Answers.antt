use Rattle.std.specs.List.{AllZip}
use Rattle.node_rounds.proofs.PairLemmas.{zip-joined}
use Rattle.node_rounds.proofs.turns.+rounds.Goals as goal

pub round-returns-then-stands_alone-clause-does : goal.round-returns-then-stands_alone-clause-does
round-returns-then-stands_alone-clause-does g t c = zip-joined (λ old new. AllZip (g.S.Turns.does c.args.shared.now) old.items new.items) _ _ _ _ _ _ c.in-Some.ensures.items c.push_reserved.ensures.items c.round.ensures.does c.share_often.ensures.does

pub round-returns-clause-does : goal.round-returns-clause-does
round-returns-clause-does g t c = zip-joined (λ old new. AllZip (g.S.Turns.does c.args.shared.now) old.items new.items) _ _ _ _ _ _ c.in-Some.ensures.items c.push_reserved-2.ensures.items c.beside.ensures.others c.beside.ensures.own
