use Rattle.node_rounds.proofs.Names.{◌∙◌, GoesFurther, HadSome}
use Rattle.node_rounds.proofs.PairLemmas.{all-through, zip-through}
use Rattle.node_rounds.proofs.turns.share_often.Goals as goal

pub share_again-worked-requires : goal.share_again-worked-requires
share_again-worked-requires g c =
    let does = g.S.Turns.does c.args.shared.now in
    record { had = all-through (g.S.Turns.ready c.args.shared.now) does (HadSome does) (λ x y ready did. record { first = x; did = did }) c.args.nodes.now.items c.loop.nodes.items c.requires.ready c.loop.invariant.does }

pub loop-preserved : goal.loop-preserved
loop-preserved g c =
    let does = g.S.Turns.does c.args.shared.now in
    record {
      does = zip-through does (GoesFurther does) does (λ x y z did further. further.also x did) c.args.nodes.now.items c.loop.nodes.items c.share_again-worked.new.nodes.items c.loop.invariant.does c.share_again-worked.ensures.does;
      room = (c.share_again-worked.ensures.room.0 ∙ c.loop.invariant.room.0, c.share_again-worked.ensures.room.1 ∙ c.loop.invariant.room.1);
    }
