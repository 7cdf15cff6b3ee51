use Rattle.repository_node.proofs.Names.{◌≡◌, subst, repository, IfOk}
use Rattle.pseudo_time.specs.declared.nodes.NodeId.{NodeId}
use Rattle.node_turn.specs.Nodes.{sight}
use Rattle.node_turn.specs.Sights.{life_at}
use Rattle.repository_node.specs.Doubts.{doubts}
use Rattle.repository_node.proofs.CoreLemmas.{closed-log}
use Rattle.repository_node.proofs.nodes.doubts.Goals as goal

pub returns : goal.returns
returns g c = λ t.
    let p = c.args.node.now in
    let l = life_at (sight p) p.node in
    let core = c.core.result.now in
    let at = c.requires.up in
    let log = closed-log core.kept (repository core.number) l (c.core.ensures.life t at).1 (c.core.ensures.fresh t at) in
    subst (λ (n : NodeId). IfOk c.doubts.result (λ all. all.items ≡ doubts n.number l.gated)) c.core.ensures.node
    (subst (λ es. IfOk c.doubts.result (λ all. all.items ≡ doubts core.number es)) log c.doubts.ensures)
