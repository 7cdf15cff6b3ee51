use Rattle.repository_node.proofs.Names.{◌≡◌, true, not, refl, ap, sym, subst, ◌∙◌, ◌++◌, Ok, append-nil, repository, LeavesOnly, medium_of, HasMarks, content, ledger_of, store_of, AppendsTo, appended, appends-all, appends-none, is_able, medium_in, HasLife, HasMarksOfLog, Owes}
use Rattle.version_store.specs.Filling.{HasPrefix, KeepsPages}
use Rattle.version_store.proofs.StoreLemmas.{images_left}
use Rattle.object_header.proofs.LedgerLemmas.{late-of_log}
use Rattle.repository_node.proofs.CoreLemmas.{joined, joined-repository, parted}
use Rattle.repository_node.proofs.cores.RepositoryCoreStoredCore.append.Goals as goal

pub flush-requires-clause-late : goal.flush-requires-clause-late
flush-requires-clause-late g c =
    let core = c.in-Open.core in
    let table = c.part-rest.result.1 in
    let able : not core.is_failed ≡ true = subst (λ z. is_able z ≡ true) c.in-Open.is c.requires.able in
    let owed : core.log ≡ (ledger_of core.histories).log ++ c.args.effects.now = subst (λ z. Owes z c.args.effects.now) c.in-Open.is c.requires.owed in
    let marked : HasMarks (content (ledger_of core.histories)) core.log = subst (λ z. HasMarksOfLog z) c.in-Open.is c.args.self.marked able in
    late-of_log (ledger_of table) c.args.effects.now
    (subst (λ h. HasMarks (content (ledger_of h)) ((ledger_of h).log ++ c.args.effects.now)) (sym c.part-rest.ensures.histories) (subst (λ l. HasMarks (content (ledger_of core.histories)) l) owed marked))

pub returns-in-Ok : goal.returns-in-Ok
returns-in-Ok g c =
    let core = c.in-Open.core in
    let effects = c.args.effects.now in
    let name = repository c.args.self.number in
    let old = c.part-rest.result.1 in
    let new = c.in-Ok.table in
    let m = medium_of (store_of old) in
    let n = medium_of (store_of new) in
    let now = g.met.M.Medium.reads_now in
    let was = ap (λ z. medium_in z) c.in-Open.is ∙ ap (λ h. medium_of (store_of h)) (sym c.part-rest.ensures.histories) in
    let p = parted c.part-rest.result.0 core c.part-rest.ensures.state in
    let j = joined c.join.result c.part-rest.result.0 new c.join.ensures in
    let able : not core.is_failed ≡ true = subst (λ z. is_able z ≡ true) c.in-Open.is c.requires.able in
    let owed : core.log ≡ (ledger_of core.histories).log ++ effects = subst (λ z. Owes z effects) c.in-Open.is c.requires.owed in
    let stored : (ledger_of c.join.result.histories).log ≡ (ledger_of core.histories).log ++ effects =
    ap (λ h. (ledger_of h).log) j.4 ∙ c.in-Ok.ensures.log ∙ ap (λ h. (ledger_of h).log ++ effects) c.part-rest.ensures.histories in
    appended c.args.self _ m was refl (λ b f. f) effects _
    (subst (λ h. AppendsTo g.M.Medium m (medium_of (store_of h)) effects (Ok tt)) (sym j.4)
    (appends-all g.M.Medium now m n effects (store_of old).settled c.in-Ok.ensures.later
    (λ t i left. subst (λ l. HasPrefix l effects i) (sym (old.stored t)) (c.in-Ok.ensures.images t i left))
    (λ t. subst (λ l. LeavesOnly g.M.Medium.stages m n (HasPrefix l effects)) (sym (old.stored t)) (c.in-Ok.ensures.any_moment t)) tt g.met.M.Medium.shape c.in-Ok.ensures.size (store_of new).settled
    (λ t. new.stored t ∙ c.in-Ok.ensures.log ∙ ap (λ l. l ++ effects) (sym (old.stored t)))
    (λ t. images_left g.M.Medium.stages g.M.Medium.reads g.M.Medium.may_leave m n (KeepsPages (g.M.Medium.reads m)) (λ d there. g.met.M.Medium.counts_now n d t there) (c.in-Ok.ensures.kept t) (g.M.Medium.reads n) (now n t))
    c.in-Ok.ensures.clean c.requires.ranges c.in-Ok.ensures.used))
    (ap not (j.3 ∙ p.3) ∙ able, j.1 ∙ p.1 ∙ owed ∙ sym stored ∙ sym (append-nil (ledger_of c.join.result.histories).log))
    (λ t b l h fresh.
    let o = subst (λ z. HasLife z name l) c.in-Open.is h in
    (joined-repository name l core c.join.result (j.0 ∙ p.0) (j.1 ∙ p.1) (j.2 ∙ p.2) o.0, stored ∙ ap (λ es. es ++ effects) o.1 ∙ ap (λ es. l.gated ++ es) (sym fresh)))

pub returns-in-Err : goal.returns-in-Err
returns-in-Err g c =
    let effects = c.args.effects.now in
    let old = c.part-rest.result.1 in
    let m = medium_of (store_of old) in
    let was = ap (λ z. medium_in z) c.in-Open.is ∙ ap (λ h. medium_of (store_of h)) (sym c.part-rest.ensures.histories) in
    appended c.args.self _ m was refl (λ b f. f) effects _
    (appends-none g.M.Medium g.met.M.Medium.reads_now m c.in-Err.medium effects (store_of old).settled c.in-Err.ensures.later
    (λ t i left. subst (λ l. HasPrefix l effects i) (sym (old.stored t)) (c.in-Err.ensures.images t i left))
    (λ t. subst (λ l. LeavesOnly g.M.Medium.stages m c.in-Err.medium (HasPrefix l effects)) (sym (old.stored t)) (c.in-Err.ensures.any_moment t)) c.in-Err.fault c.in-Err.ensures.nothing
    (λ number e. (c.in-Err.ensures.full number e).0) c.in-Err.ensures.full_blank c.in-Err.ensures.failed)
    tt (λ t b l h fresh. tt)
