use Rattle.repository_node.proofs.Names.{◌≡◌, subst, repository, IfOk}
use Rattle.pseudo_time.specs.declared.nodes.NodeId.{NodeId}
use Rattle.node_turn.specs.Nodes.{sight}
use Rattle.node_turn.specs.Sights.{life_at}
use Rattle.repository_node.specs.Doubts.{decided_at}
use Rattle.repository_node.proofs.CoreLemmas.{closed-log}
use Rattle.repository_node.proofs.nodes.decided.Goals as goal

pub returns : goal.returns
returns g c = λ t.
    let p = c.args.node.now in
    let l = life_at (sight p) p.node in
    let core = c.core.result.now in
    let at = c.requires.up in
    let log = closed-log core.kept (repository core.number) l (c.core.ensures.life t at).1 (c.core.ensures.fresh t at) in
    subst (λ (n : NodeId). IfOk c.decided.result (λ d. d ≡ decided_at n.number l.gated c.args.stamp)) c.core.ensures.node
    (subst (λ es. IfOk c.decided.result (λ d. d ≡ decided_at core.number es c.args.stamp)) log c.decided.ensures)
