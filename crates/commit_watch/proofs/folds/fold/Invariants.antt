use Rattle.commit_watch.proofs.Names.{◌≡◌, drop, filter, not, IfSome, option_copied, moved_over, or_before, is_stopped, settled_in}
use Rattle.commit_watch.proofs.folds.fold.Given as goal

-- what is left of the fold comes to the same
abbrev pub invariant-loop-version : goal.invariant-loop-version
invariant-loop-version g l = record {
  left : moved_over g.R.WatchRule.first g.R.WatchRule.next l.object (or_before l.last (option_copied l.entry)) (filter (λ v. not (is_stopped l.undecided v.start)) (drop l.version-index l.version-items))
      ≡ moved_over g.R.WatchRule.first g.R.WatchRule.next l.object (option_copied l.entry) (settled_in l.standing);
  object : IfSome l.last (λ w. w.object ≡ l.object);
}
