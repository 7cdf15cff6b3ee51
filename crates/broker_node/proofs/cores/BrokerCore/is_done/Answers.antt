use Rattle.broker_node.proofs.Names.{all_effects, broker, subst, sym, ◌∙◌}
use Rattle.node_turn.specs.WorldCores.{IsBroker}
use Rattle.broker_node.proofs.CoreLemmas.{done-over}
use Rattle.broker_node.proofs.cores.BrokerCore.is_done.Goals as goal

pub returns : goal.returns
returns g c = λ b l s.
    let at = subst (IsBroker b (broker c.args.self.now.number) (all_effects l) l.mind) (sym c.as_ref.ensures) s in
    c.done.ensures b.script at.scripted ∙ done-over b c.args.self.now.number l c.as_ref.result.now at
