use Rattle.run_rounds.proofs.Names.{◌∙◌, ap, arith, subst, sym, knows, tick_count, AllZip-long, GoesOn}
use Rattle.run_rounds.specs.Settled.{SettledEnds}
use Rattle.run_rounds.proofs.CourseLemmas.{never-out, one-at-most, one-made, pause-ends, sees-owner, settled-up, was-done}
use Rattle.run_rounds.proofs.courses.settling.Given as given
use Rattle.run_rounds.proofs.courses.settling.Goals as goal

pub settled-first-requires-clause-up : goal.settled-first-requires-clause-up
settled-first-requires-clause-up g c = λ is. settled-up c.reason_after-reason.result c.pass_time-conductor.new.nodes.items (subst (SettledEnds c.reason_after-reason.result) c.as_slice.ensures.value c.reason_after-reason.ensures.ends) is

pub settled_again-nodes-requires-clause-up : goal.settled_again-nodes-requires-clause-up
settled_again-nodes-requires-clause-up g c = λ is.
    let first = c.settled-first in
    settled-up first.result.reason first.result.nodes.items (first.ensures.ends (subst (SettledEnds c.reason_after-reason.result) c.as_slice.ensures.value c.reason_after-reason.ensures.ends)) is

pub returns : goal.returns
returns g c =
    let w = g.M.Medium in
    let nodes = c.pass_time-conductor.new.nodes.items in
    let k = knows c.args.conductor in
    let now = knows c.pass_time-conductor.result.0 in
    let made = c.pass_time-conductor.ensures.made in
    let first = c.settled-first in
    let again = c.settled_again-nodes in
    let ends = again.ensures.ends (first.ensures.ends (subst (SettledEnds c.reason_after-reason.result) c.as_slice.ensures.value c.reason_after-reason.ensures.ends)) in
    let last = again.result in
    let few = one-at-most k now c.requires.pass.2 c.pass_time-conductor.result.1 made in
    let ticks = again.ensures.ticks ∙ first.ensures.ticks in
    record {
      passes = again.ensures.passes;
      on = again.ensures.on c.args.nodes.items (first.ensures.on c.args.nodes.items (record {
        went = c.pass_time-conductor.ensures.went;
        kept = c.pass_time-conductor.ensures.kept;
        all = c.pass_time-conductor.ensures.all;
        owner = sees-owner c.pass_time-conductor.result.1 k now made ∙ c.requires.pass.1;
      }));
      ends = record {
        few = omega (arith, few, ticks);
        once = λ out. ticks ∙ one-made k now c.requires.pass.2 c.pass_time-conductor.result.1 (c.reason_after-reason.ensures.made (first.ensures.done (again.ensures.done (was-done last.reason c.if_idle.result c.if_idle.ensures out (never-out last.reason last.nodes.items ends))))) made;
        ends = pause-ends w.tells last.nodes.items last.reason c.if_idle.result c.if_idle.ensures ends again.ensures.settled;
      };
      count = again.ensures.count ∙ (first.ensures.count ∙ AllZip-long (GoesOn w.tells w.faults w.reads) c.args.nodes.items nodes c.pass_time-conductor.ensures.went);
    }
