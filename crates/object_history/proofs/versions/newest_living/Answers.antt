use Rattle.object_history.proofs.Names.{rules, ◌≡◌, reverse, None, sym, ap, ◌∙◌, is_living, last_of}
use Rattle.object_history.proofs.LookLemmas.{last-done}
use Rattle.object_history.proofs.RisingLemmas.{newest-found, newest-step, rising-step}
use Rattle.object_history.proofs.versions.newest_living.Goals as goal

pub returns-then-is_living : goal.returns-then-is_living
returns-then-is_living c =
    let ok = is_living c.args.settles.now c.args.end.now in
    let same : c.into_iter-version-iterator.result.iter.rest.now ≡ c.args.versions.now = search rules in
    newest-found ok c.in-Some.version.now c.loop-version.version-iterator.iter.rest.now c.next.new.self.iter.rest.now _ c.in-Some.ensures.steps c.loop-version.invariant.rising
    (sym c.is_living.ensures ∙ c.if-is_living.true) c.loop-version.invariant.found
    ∙ ap (λ vs. last_of ok (reverse vs)) same

pub loop-version-preserved : goal.loop-version-preserved
loop-version-preserved c = record {
  found =
      newest-step (is_living c.args.settles.now c.args.end.now) c.in-Some.version.now c.loop-version.version-iterator.iter.rest.now c.next.new.self.iter.rest.now _ c.in-Some.ensures.steps
      (sym c.is_living.ensures ∙ c.if-is_living.false) c.loop-version.invariant.found;
  rising = rising-step c.loop-version.version-iterator.iter.rest.now c.next.new.self.iter.rest.now c.in-Some.version.now c.in-Some.ensures.steps c.loop-version.invariant.rising;
}

pub returns : goal.returns
returns c =
    let ok = is_living c.args.settles.now c.args.end.now in
    let same : c.into_iter-version-iterator.result.iter.rest.now ≡ c.args.versions.now = search rules in
    last-done ok None c.loop-version.version-iterator.iter.rest.now _ c.in-None.ensures.steps.0 c.loop-version.invariant.found
    ∙ ap (λ vs. last_of ok (reverse vs)) same
