use Rattle.run_starts.proofs.deals.+collect.Given as goal

abbrev pub decreases-collect : goal.decreases-collect
decreases-collect g l = l.count
