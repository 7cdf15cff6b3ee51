use Rattle.vote_run.proofs.Names.{◌≤◌, ◌∙◌, ℕ, Bool, refl, sym, subst, arith, Option, IfSome, Came}
use Rattle.vote_run.proofs.EndLemmas.{come-first, if-ok}
use Rattle.vote_run.proofs.PollLemmas.{ok-of}
use Rattle.vote_run.proofs.rounds.conduct.Goals as goal

pub loop-init : goal.loop-init
loop-init g c = record {
  may = c.requires.may;
  count = refl;
  few = omega arith;
  come = λ told lines count between none. come-first g.M.Medium lines c.args.courier.now c.args.members c.args.polls.now.items between none;
  fares = λ first h. h;
  lasts = λ first h. h;
}

pub returns-in_default-came-clause-ended : goal.returns-in_default-came-clause-ended
returns-in_default-came-clause-ended g c told lines count b none =
    let all = Came g.M.Medium lines c.args.limits c.args.courier.now c.step-after.new.courier c.step-after.result.0 c.step-after.new.polls.items in
    let so = c.step-after.ensures.came told lines c.args.courier.now (count ∙ sym c.loop.invariant.count) (c.loop.invariant.come told lines count b none) in
    subst all c.in_default-came.is (if-ok c.step-after.result.1 all c.in-Ok.came c.in-Ok.is so)

pub loop-preserved : goal.loop-preserved
loop-preserved g c =
    let few : Option (Bool × ℕ) → Type 0 = (λ next. IfSome next (λ n. n.1 ≤ c.args.limits.ticks)) in
    record {
      may = c.step-after.ensures.may;
      count = c.step-after.ensures.count ∙ c.loop.invariant.count;
      few = subst few c.in-Some.is (if-ok c.step-after.result.1 few c.in-Ok.came c.in-Ok.is c.step-after.ensures.few);
      come = λ told lines count b none.
          (let all = Came g.M.Medium lines c.args.limits c.args.courier.now c.step-after.new.courier c.step-after.result.0 c.step-after.new.polls.items in
          let so = c.step-after.ensures.came told lines c.args.courier.now (count ∙ sym c.loop.invariant.count) (c.loop.invariant.come told lines count b none) in
          subst all c.in-Some.is (if-ok c.step-after.result.1 all c.in-Ok.came c.in-Ok.is so));
      fares = λ first h. ok-of c.step-after.result.1 c.in-Ok.came c.in-Ok.is c.step-after.ensures.fares first (c.loop.invariant.fares first h);
      lasts = λ first h. c.step-after.ensures.lasts first (c.loop.invariant.lasts first h);
    }

pub returns-in_default-came-clause-fares : goal.returns-in_default-came-clause-fares
returns-in_default-came-clause-fares g c first h = ok-of c.step-after.result.1 c.in-Ok.came c.in-Ok.is c.step-after.ensures.fares first (c.loop.invariant.fares first h)
