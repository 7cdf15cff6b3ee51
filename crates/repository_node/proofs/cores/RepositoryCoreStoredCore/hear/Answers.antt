use Rattle.repository_node.proofs.Names.{◌≤◌, IsTrue, refl, ap, sym, subst, ◌∙◌, Rose, repository, NoMore, medium_of, BeneathParts, ledger_of, store_of, Hearing, none-new, medium_in, HasLife, Owes}
use Rattle.repository_core.specs.Turns as turns
use Rattle.repository_node.proofs.CoreLemmas.{able-called, gave-repository, owed-more, told-same}
use Rattle.repository_node.proofs.cores.RepositoryCoreStoredCore.hear.Goals as goal

pub returns-in-Open : goal.returns-in-Open
returns-in-Open g c =
    let old = c.in-Open.core in
    let new = c.hear-gave.new.self in
    let m = medium_of (store_of old.histories) in
    let n = medium_of (store_of new.histories) in
    let name = repository c.args.self.now.number in
    let called = c.hear-gave.ensures.called in
    let was = sym (ap (λ z. medium_in z) c.in-Open.is) in
    let both = λ (t : IsTrue g.M.Medium.tells). told-same g.M.Medium.tells (g.M.Medium.reads n) (g.M.Medium.reads m) (g.M.Medium.stages n) (g.M.Medium.stages m) t (ap (λ (b : BeneathParts). b.medium) called.stays) in
    let same = λ (t : IsTrue g.M.Medium.tells). (both t).0 in
    let stored = ap (λ (b : BeneathParts). b.log) called.stays in
    record {
      given = record {
        same = record { node = refl; run = λ b f. f; later = subst (λ z. g.M.Medium.faults z ≤ g.M.Medium.faults n) was called.cause.faults_stay };
        able = able-called c.hear-gave.result new.is_failed called.failed;
        gave = λ t b l f h.
            let o = subst (λ z. HasLife z name l) c.in-Open.is h in
            gave-repository b name l old new c.hear-gave.result (turns.Hearing c.args.moment) (Hearing c.args.moment) refl o.0 (c.hear-gave.ensures.gives t) called.log called.number (stored ∙ o.1);
        owed = λ es o. owed-more c.hear-gave.result old.log (ledger_of old.histories).log new.log (ledger_of new.histories).log es stored (subst (λ z. Owes z es) c.in-Open.is o) called.log;
        in_range = called.in_range;
        still = λ t. same t ∙ ap g.M.Medium.reads was;
        stages_still = λ t. (both t).1 ∙ ap g.M.Medium.stages was;
        images = λ t. subst (λ z. NoMore (g.M.Medium.may_leave z) (g.M.Medium.may_leave n)) was (none-new (g.M.Medium.reads m) (g.M.Medium.reads n) (g.M.Medium.may_leave m) (g.M.Medium.may_leave n) (same t) (g.met.M.Medium.reads_now m t) ((store_of new.histories).settled t));
        cause = λ e. subst (λ z. Rose (g.M.Medium.faults z) (g.M.Medium.faults n)) was (called.cause.medium e);
        sound = called.sound;
      };
    }
