use Rattle.std.proofs.Common.{reverse, take, subst, sym}
use Rattle.std.proofs.lemmas.List.{take_all}
use Rattle.serial_law.specs.Wholes.{with_puts}
use Rattle.log_replay.specs.Whole.{IsWhole}
use Rattle.log_replay.proofs.ItemLemmas.{back-next}
use Rattle.log_replay.proofs.JoinLemmas.{with-none}
use Rattle.log_replay.proofs.wholes.Whole.add_log.Goals as goal

pub loop-effect-init : goal.loop-effect-init
loop-effect-init c = λ met at. subst (λ z. IsWhole z c.args.self.now) (with-none met) at

pub loop-effect-preserved : goal.loop-effect-preserved
loop-effect-preserved c = λ met at.
    let older = c.args.older.now in
    let i = c.loop-effect.effect-index in
    subst (λ z. IsWhole (with_puts met z) c.add_old.new.self) (sym (back-next older i c.effect-item.result c.loop-effect-test.true c.effect-item.is))
    (c.in_ok-add_old.ensures met (reverse (take i older)) (c.loop-effect.invariant met at))

pub returns : goal.returns
returns c = λ met at. subst (λ z. IsWhole (with_puts met (reverse z)) c.loop-effect.self) (take_all c.loop-effect.effect-index c.args.older.now c.loop-effect-test.false) (c.loop-effect.invariant met at)
