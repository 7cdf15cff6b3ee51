use Rattle.log_replay.specs.Telling.{left_at, told_at}
use Rattle.log_replay.proofs.GiftLemmas.{first-untried, gave-none, gave-some, given-none, none-at, none-below}
use Rattle.log_replay.proofs.gifts.give_rest.Goals as goal

pub loop-stamp-preserved : goal.loop-stamp-preserved
loop-stamp-preserved c = record {
  scripts = λ all. c.in_ok-untried.ensures.scripts (c.loop-stamp.invariant.scripts all);
  gives = λ k d b g.
      gave-none k _ _ _ _ _ c.if-untried.false
      (c.in_ok-untried.ensures.gives k (λ s. left_at c.loop-stamp.puts s) (λ s. left_at c.pop_first.new.self s) d b c.in-Some.ensures.value c.in-Some.ensures.updates.0 (c.loop-stamp.invariant.gives k d b g));
}

pub returns-then-untried-clause-scripts : goal.returns-then-untried-clause-scripts
returns-then-untried-clause-scripts c = λ all. c.in_ok-untried.ensures.scripts (c.loop-stamp.invariant.scripts all)

pub returns-then-untried-clause-gives : goal.returns-then-untried-clause-gives
returns-then-untried-clause-gives c = λ k d b g.
    let now = c.loop-stamp.invariant.gives k d b g in
    let w = gave-some k _ _ _ _ _ c.if-untried.true
    (c.in_ok-untried.ensures.gives k (λ s. left_at c.loop-stamp.puts s) (λ s. left_at c.pop_first.new.self s) d b c.in-Some.ensures.value c.in-Some.ensures.updates.0 now) in
    (((λ s. left_at c.loop-stamp.puts s), w.0), first-untried k (told_at c.loop-stamp.told) (λ s. left_at c.loop-stamp.puts s) now _ (none-below (λ s. left_at c.loop-stamp.puts s) _ c.in-Some.ensures.least) w.1)

pub returns-clause-scripts : goal.returns-clause-scripts
returns-clause-scripts c = c.loop-stamp.invariant.scripts

pub returns-clause-gives : goal.returns-clause-gives
returns-clause-gives c = λ k d b g. given-none k (told_at c.loop-stamp.told) (λ s. left_at c.loop-stamp.puts s) (none-at c.loop-stamp.puts.entries c.in_default.ensures.variant.1) (c.loop-stamp.invariant.gives k d b g)
