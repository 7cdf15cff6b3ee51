use Rattle.std.proofs.Common.{map, reverse, take, subst, sym}
use Rattle.std.proofs.lemmas.List.{take_all}
use Rattle.serial_law.specs.Wholes.{whole_log, with_puts}
use Rattle.log_replay.specs.Folders.{items_of}
use Rattle.log_replay.specs.Whole.{IsWhole}
use Rattle.log_replay.proofs.JoinLemmas.{olds-next}
use Rattle.log_replay.proofs.wholes.with_olds.Goals as goal

pub loop-old-preserved : goal.loop-old-preserved
loop-old-preserved c =
    let olds = c.args.olds.now in
    let i = c.loop-old.old-index in
    let new = c.add_log.new.self in
    let met = whole_log (map reverse (reverse (items_of (take i olds)))) (reverse c.args.log.items) in
    subst (λ z. IsWhole (whole_log z (reverse c.args.log.items)) new) (sym (olds-next olds i c.old-item.result c.loop-old-test.true c.old-item.is))
    (subst (λ z. IsWhole (with_puts met (reverse z)) new) c.as_slice.ensures.value (c.in_ok-add_log.ensures met c.loop-old.invariant))

pub returns : goal.returns
returns c =
    let olds = c.args.olds.now in
    subst (λ z. IsWhole (whole_log (map reverse (reverse (items_of z))) (reverse c.args.log.items)) c.loop-old.whole) (take_all c.loop-old.old-index olds c.loop-old-test.false) c.loop-old.invariant
