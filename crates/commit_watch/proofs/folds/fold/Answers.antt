use Rattle.commit_watch.proofs.Names.{◌≡◌, not, inr, refl, sym, ap, ◌∙◌, ◌+◌, drop, filter, subst, IfSome, option_copied, Version, moved_over, or_before, is_stopped}
use Rattle.commit_watch.proofs.FoldLemmas.{passed, taken, stuck, over-none, drop-at, drop-end}
use Rattle.commit_watch.proofs.folds.fold.Goals.{then-not-is_stopped+in_ok-total+in-Some, else-not-is_stopped}
use Rattle.commit_watch.proofs.folds.fold.Goals as goal

pub returns-in_default-clause-err : goal.returns-in_default-clause-err
returns-in_default-clause-err g c =
    let items = c.versions-version-items.result.now in
    let i = c.loop-version.version-index in
    let v = c.version-item.result in
    inr (stuck g.R.WatchRule.first g.R.WatchRule.next c.args.object (λ (z : Version). not (is_stopped c.undecided-undecided.result z.start)) (or_before c.loop-version.last (option_copied c.args.entry))
    (drop i items) (drop (i + 1) items) v _ (drop-at items i v c.loop-version-test.true c.version-item.is) (ap not (sym c.is_stopped.ensures ∙ c.if-not-is_stopped.true))
    (sym c.in_default.is ∙ c.in_ok-total.ensures) c.loop-version.invariant.left)

pub loop-version-preserved : goal.loop-version-preserved
loop-version-preserved g c =
    let items = c.versions-version-items.result.now in
    let i = c.loop-version.version-index in
    let v = c.version-item.result in
    let entry = option_copied c.args.entry in
    let p : Version → _ = λ z. not (is_stopped c.undecided-undecided.result z.start) in
    elim c.if-not-is_stopped.branch [
      | then-not-is_stopped+in_ok-total+in-Some w ↦ record {
        left =
            ap (λ z. moved_over g.R.WatchRule.first g.R.WatchRule.next c.args.object (or_before z entry) (filter p (drop (i + 1) items))) w.last-is
            ∙ taken g.R.WatchRule.first g.R.WatchRule.next c.args.object p (or_before c.loop-version.last entry) (drop i items) (drop (i + 1) items) v w.in-Some.total _
            (drop-at items i v c.loop-version-test.true c.version-item.is) (ap not (sym c.is_stopped.ensures ∙ w.if-not-is_stopped.true)) (sym w.in-Some.is ∙ w.in_ok-total.ensures) c.loop-version.invariant.left;
        object = subst (λ z. IfSome z (λ u. u.object ≡ c.args.object)) (sym w.last-is) refl;
      }
      | else-not-is_stopped w ↦ record {
        left =
            ap (λ z. moved_over g.R.WatchRule.first g.R.WatchRule.next c.args.object (or_before z entry) (filter p (drop (i + 1) items))) w.last-is
            ∙ passed g.R.WatchRule.first g.R.WatchRule.next c.args.object p (or_before c.loop-version.last entry) (drop i items) (drop (i + 1) items) v _
            (drop-at items i v c.loop-version-test.true c.version-item.is) (ap not (sym c.is_stopped.ensures ∙ w.if-not-is_stopped.false)) c.loop-version.invariant.left;
        object = subst (λ z. IfSome z (λ u. u.object ≡ c.args.object)) (sym w.last-is) c.loop-version.invariant.object;
      }
    ]

pub returns-clause-ok : goal.returns-clause-ok
returns-clause-ok g c =
    let items = c.versions-version-items.result.now in
    let i = c.loop-version.version-index in
    over-none g.R.WatchRule.first g.R.WatchRule.next c.args.object (λ (z : Version). not (is_stopped c.undecided-undecided.result z.start)) (or_before c.loop-version.last (option_copied c.args.entry))
    (drop i items) _ (drop-end items i c.loop-version-test.false) c.loop-version.invariant.left
