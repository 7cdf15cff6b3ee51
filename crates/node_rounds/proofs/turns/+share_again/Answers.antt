use Rattle.node_rounds.specs.Turns.{GoesFurther}
use Rattle.node_rounds.proofs.PairLemmas.{zip-joined}
use Rattle.node_rounds.proofs.turns.+share_again.Goals as goal

pub returns-clause-does : goal.returns-clause-does
returns-clause-does g t c =
    zip-joined (GoesFurther (g.S.Turns.does c.args.shared.now)) _ _ _ _ _ _
    c.in-Some.ensures.items c.push_reserved.ensures.items c.share_again-before.ensures.does c.turn_again-last.ensures.does
