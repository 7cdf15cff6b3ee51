use Rattle.std.proofs.Common.{◌∙◌}
use Rattle.record_votes.proofs.BookLemmas.{opened-book}
use Rattle.record_votes.proofs.votes.Votes.open.Goals as goal

pub invariant_of-result : goal.invariant_of-result
invariant_of-result c =
    opened-book c.args.effects.now c.as_slice.result.now c.in_ok-log.log.items c.in_ok-records.records c.in_ok-records.early.entries
    (c.as_slice.ensures.value ∙ c.in_ok-owned.ensures) c.in_ok-log.ensures c.in_ok-records.ensures.records c.in_ok-records.ensures.early
