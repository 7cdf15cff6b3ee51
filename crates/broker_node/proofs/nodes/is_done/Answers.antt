use Rattle.broker_node.proofs.Names.{ap, ◌∙◌, NodeId, base_at, life_at, is_over}
use Rattle.node_turn.specs.Nodes.{sight}
use Rattle.broker_node.proofs.nodes.is_done.Goals as goal

pub returns : goal.returns
returns g c =
    let p = c.args.node.now in
    let l = life_at (sight p) p.node in
    record {
      over = λ t at. c.is_done.ensures (base_at (sight p)) l (c.core.ensures.life t at).1.0 ∙ ap (λ (n : NodeId). is_over (base_at (sight p)) n.number l) c.core.ensures.node;
      own = c.core.ensures.own;
    }
