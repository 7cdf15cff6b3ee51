use Rattle.node_rounds.proofs.PairLemmas.{zip-joined}
use Rattle.node_rounds.proofs.turns.+share.Goals as goal

pub returns-clause-does : goal.returns-clause-does
returns-clause-does g t c = zip-joined (g.S.Turns.does c.args.shared.now) _ _ _ _ _ _ c.in-Some.ensures.items c.push_reserved.ensures.items c.share-before.ensures.does c.take_turn-last.ensures.does
