use Rattle.run_rounds.proofs.Names.{◌∙◌, ◌++◌, ◌∷◌, [], IsTrue, IsUp, List, NodeParts, AllZip, sym, ap, subst, take}
use Rattle.run_starts.proofs.PairLemmas.{zip-joined}
use Rattle.std.proofs.lemmas.List.{take_all, take_more}
use Rattle.run_rounds.specs.Settled.{IsListFor, IsOwn}
use Rattle.run_rounds.proofs.settled.lists_for.Goals as goal

pub list_for-requires : goal.list_for-requires
list_for-requires g c = record { up = (c.requires.up, subst IsUp (sym c.node-item.is) (c.requires.up c.loop-node.node-index c.node-item.result c.loop-node-test.true)) }

pub loop-node-preserved : goal.loop-node-preserved
loop-node-preserved g c =
    zip-joined (λ n list. (IsTrue g.M.Medium.tells → IsListFor c.args.nodes.now n list.items) × IsOwn n) _ (take c.loop-node.node-index c.args.nodes.now) _ c.loop-node.lists.items c.node-item.result _
    (take_more c.args.nodes.now c.loop-node.node-index c.node-item.result c.loop-node-test.true ∙ ap (λ (x : NodeParts _). take c.loop-node.node-index c.args.nodes.now ++ x ∷ []) (sym c.node-item.is)) c.in_ok-push.ensures.items c.loop-node.invariant
    (c.in_ok-list_for.ensures.list, c.in_ok-list_for.ensures.own)

pub returns : goal.returns
returns g c = record {
  lists = subst (λ (nodes : List (NodeParts _)). AllZip (λ n list. (IsTrue g.M.Medium.tells → IsListFor c.args.nodes.now n list.items) × IsOwn n) nodes c.loop-node.lists.items)
      (take_all c.loop-node.node-index c.args.nodes.now c.loop-node-test.false) c.loop-node.invariant;
}
