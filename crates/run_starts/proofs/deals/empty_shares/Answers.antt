use Rattle.run_starts.proofs.DealLemmas.{none-dealt}
use Rattle.run_starts.proofs.deals.empty_shares.Goals as goal

pub returns-clause-dealt : goal.returns-clause-dealt
returns-clause-dealt g c = none-dealt c.args.workers c.requires.some c.loop.shares.items c.loop.invariant.empty
