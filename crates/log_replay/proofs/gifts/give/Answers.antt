use Rattle.std.proofs.Common.{sym, ◌∙◌}
use Rattle.log_replay.specs.Folders.{items_of}
use Rattle.log_replay.specs.Telling.{told_at}
use Rattle.log_replay.proofs.GiftLemmas.{given-more, lost-log, no-items, not-given, passed-empty, passed-other, some-items, there-log}
use Rattle.log_replay.proofs.TellLemmas.{scripts-more}
use Rattle.log_replay.proofs.gifts.give.Goals as goal

pub returns-then-is_empty-clause-gives : goal.returns-then-is_empty-clause-gives
returns-then-is_empty-clause-gives c = λ k old new d b has news g.
    passed-empty k (told_at c.args.told.now) old new g c.args.stamp c.args.own has news (no-items c.as_slice.result.now c.args.own.items c.is_empty.result c.is_empty.ensures c.if-is_empty.true c.as_slice.ensures.value)

pub returns-then-not-has_none-clause-gives : goal.returns-then-not-has_none-clause-gives
returns-then-not-has_none-clause-gives c = λ k old new d b has news g. (
  g,
  not-given k (told_at c.args.told.now) old new g c.args.stamp c.args.own has news
      (some-items c.as_slice.result.now c.args.own.items c.is_empty.result c.is_empty.ensures c.if-is_empty.false c.as_slice.ensures.value)
      (there-log k (items_of c.args.brokers.now) c.args.stamp.broker c.broker.result b c.broker.ensures (c.has_none.ensures.some c.if-not-has_none.true)),
)

pub returns-then-not-is_committed-clause-gives : goal.returns-then-not-is_committed-clause-gives
returns-then-not-is_committed-clause-gives c = λ k old new d b has news g.
    passed-other k (told_at c.args.told.now) old new g c.args.stamp c.args.own has news
    (sym (d c.args.stamp c.is_committed.ensures.in_range) ∙ (sym c.is_committed.ensures.committed ∙ c.if-not-is_committed.true))
    (lost-log k (items_of c.args.brokers.now) c.args.stamp.broker c.broker.result b c.broker.ensures (c.has_none.ensures.none c.if-not-has_none.false))

pub returns-clause-gives : goal.returns-clause-gives
returns-clause-gives c = λ k old new d b has news g.
    given-more k (told_at c.args.told.now) old new g c.args.stamp c.args.own has news (told_at c.insert.new.self) c.of.result c.of.ensures
    (some-items c.as_slice.result.now c.args.own.items c.is_empty.result c.is_empty.ensures c.if-is_empty.false c.as_slice.ensures.value)
    (sym (d c.args.stamp c.is_committed.ensures.in_range) ∙ (sym c.is_committed.ensures.committed ∙ c.if-not-is_committed.false))
    (lost-log k (items_of c.args.brokers.now) c.args.stamp.broker c.broker.result b c.broker.ensures (c.has_none.ensures.none c.if-not-has_none.false))
    c.in_ok-insert.ensures.updates.0

pub returns-clause-scripts : goal.returns-clause-scripts
returns-clause-scripts c = λ all. scripts-more (told_at c.args.told.now) (told_at c.insert.new.self) c.args.stamp _ all tt c.in_ok-insert.ensures.updates.0
