use Rattle.broker_node.proofs.Names.{◌≡◌, refl, ap, sym, subst, ◌∙◌, Some, medium_of, Scripted, opened_log, IsOf, base_at, origin_at, IsReady, leaves-log}
use Rattle.broker_core.specs.Parts.{BrokerParts}
use Rattle.seat_lock.specs.Words.{knows}
use Rattle.node_turn.proofs.NewLemmas.{up-new}
use Rattle.broker_node.proofs.CoreLemmas.{opened-broker}
use Rattle.broker_node.proofs.nodes.open_broker.Goals as goal

pub new-node-requires : goal.new-node-requires
new-node-requires g c =
    let k = knows c.args.pass in
    let b = base_at k in
    let log = c.args.effects.now in
    let m = medium_of c.args.store in
    let name = sym c.broker-name.ensures in
    let plan = c.requires.acts in
    let fresh = c.in-Ok-new.ensures.ok ∙ c.in-Ok.ensures.fresh in
    let own = ap (λ (x : BrokerParts). x.acts) fresh in
    record {
      up = up-new _ k c.broker-name.result log _ name refl tt (sym c.requires.runs.1, own ∙ plan.1, subst (Scripted b.script) (sym own) plan.2)
          (subst (λ n. IsOf n k) name c.requires.pass.0) c.requires.pass.1 (subst (λ n. opened_log (origin_at k).opened n ≡ Some log) name c.requires.opened) refl (subst (λ n. IsReady b n log) name c.requires.ready)
          (λ t. (
            opened-broker b c.args.number c.args.run c.args.acts.items log c.in-Ok-new.broker.value (sym c.requires.runs.1) plan.1 plan.2 fresh,
            c.requires.log t,
          ))
          (λ t. leaves-log (g.M.Medium.reads m) (g.M.Medium.may_leave m) (c.args.store.settled t) log (c.requires.log t));
    }
