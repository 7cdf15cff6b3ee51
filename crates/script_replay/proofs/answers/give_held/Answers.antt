use Rattle.std.proofs.Common.{refl, sym, ◌∙◌}
use Rattle.std.proofs.lemmas.Bool.{false≢true}
use Rattle.script_replay.proofs.WorkLemmas.{read-other, read-took}
use Rattle.script_replay.proofs.answers.give_held.Goals as goal

pub returns-then-not-holds : goal.returns-then-not-holds
returns-then-not-holds c =
    read-other c.args.map.now c.args.run.now c.args.run.now c.args.run.now c.args.writes.now c.requires.agrees c.args.object c.args.value.now c.requires.tells
    (λ e. false≢true (sym c.if-not-holds.true ∙ c.holds.ensures.1 e))

pub returns : goal.returns
returns c =
    read-took c.args.map.now c.args.run.now c.args.run.now c.give.new.self c.args.writes.now c.requires.agrees c.args.object c.args.value.now c.in_ok-value.value c.requires.tells
    c.requires.said refl refl (c.holds.ensures.0 c.if-not-holds.false) c.in_ok-value.ensures c.give.ensures
