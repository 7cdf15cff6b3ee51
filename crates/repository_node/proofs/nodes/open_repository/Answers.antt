use Rattle.repository_node.proofs.Names.{◌≡◌, refl, sym, ap, subst, ◌∙◌, not, Some, append-nil, medium_of, ledger_of, opened_log, IsReady, LeavesLog, leaves-log}
use Rattle.seat_lock.specs.Words.{knows}
use Rattle.node_turn.specs.Sights.{IsOf, base_at, origin_at}
use Rattle.node_turn.proofs.NewLemmas.{up-new}
use Rattle.repository_node.proofs.CoreLemmas.{opened-repository, ready-repository}
use Rattle.repository_node.proofs.nodes.open_repository.Goals as goal

pub new-node-requires : goal.new-node-requires
new-node-requires g c =
    let k = knows c.args.pass in
    let b = base_at k in
    let log = c.args.effects.now in
    let core = c.in-Ok.core in
    let m = medium_of c.args.store in
    let name = sym c.repository-name.ensures in
    record {
      up = up-new _ k c.repository-name.result log _ name (ap not c.in-Ok.ensures.able) (c.in-Ok.ensures.log ∙ sym c.in-Ok.ensures.stored ∙ sym (append-nil (ledger_of core.histories).log)) c.requires.start.1
          (subst (λ n. IsOf n k) name c.requires.pass.0) c.requires.pass.1 (subst (λ n. opened_log (origin_at k).opened n ≡ Some log) name c.requires.opened) refl
          (subst (λ n. IsReady b n log) name (ready-repository b c.args.number log))
          (λ t. (opened-repository b c.args.number c.args.start log core c.requires.start.1 c.in-Ok.ensures.number c.in-Ok.ensures.log c.in-Ok.ensures.mind, c.in-Ok.ensures.stored))
          (λ t. subst (λ s. LeavesLog (g.M.Medium.may_leave (medium_of s)) log) (sym c.in-Ok.ensures.store) (leaves-log (g.M.Medium.reads m) (g.M.Medium.may_leave m) (c.args.store.settled t) log (c.requires.log t)));
    }
