use Rattle.std.proofs.Common.{ap, ◌+◌, subst}
use Rattle.script_replay.proofs.VersionLemmas.{told-differs, told-on}
use Rattle.script_replay.specs.Works.{HasTold}
use Rattle.script_replay.proofs.replays.replay.Goals as goal

pub returns-in-Err : goal.returns-in-Err
returns-in-Err c =
    let i = c.loop-stamp.invariant in
    told-differs c.args.told.now c.loop-stamp.stamp-index c.stamp-item.result c.loop-stamp.map c.loop-stamp-test.true c.stamp-item.is i.1 i.2 c.loop-stamp.place c.in-Err.difference i.0
    (subst (HasTold c.loop-stamp.map c.stamp-item.result) c.in-Err.is c.in_ok-after.ensures)

pub loop-stamp-preserved : goal.loop-stamp-preserved
loop-stamp-preserved c =
    let i = c.loop-stamp.invariant in
    let on = told-on c.args.told.now c.loop-stamp.stamp-index c.stamp-item.result c.loop-stamp.map c.loop-stamp-test.true c.stamp-item.is i.1 i.2 c.in-Ok.next (subst (HasTold c.loop-stamp.map c.stamp-item.result) c.in-Ok.is c.in_ok-after.ensures) in
    (ap (λ n. n + 1) i.0, on.0, on.1)
