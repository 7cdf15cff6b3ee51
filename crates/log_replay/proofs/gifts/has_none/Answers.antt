use Rattle.std.proofs.Common.{ap, ◌-◌}
use Rattle.log_replay.proofs.GiftLemmas.{empty-log, some-log}
use Rattle.log_replay.proofs.gifts.has_none.Goals as goal

pub returns-clause-none : goal.returns-clause-none
returns-clause-none c = λ e. empty-log c.args.brokers.now c.args.number (c.from-place.result - 1) c.index-brokers-place.result c.as_slice.result.now c.is_empty.result c.requires.low c.requires.within (ap (λ z. z - 1) c.from-place.ensures) c.index-brokers-place.is c.as_slice.ensures.value c.is_empty.ensures e

pub returns-clause-some : goal.returns-clause-some
returns-clause-some c = λ e. some-log c.args.brokers.now c.args.number (c.from-place.result - 1) c.index-brokers-place.result c.as_slice.result.now c.is_empty.result c.requires.low c.requires.within (ap (λ z. z - 1) c.from-place.ensures) c.index-brokers-place.is c.as_slice.ensures.value c.is_empty.ensures e
