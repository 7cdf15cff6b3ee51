use Rattle.object_history.proofs.Names.{rules, ◌≡◌, reverse, true, false, refl, sym, ap, ◌∙◌, option_copied, is_living, last_of}
use Rattle.object_history.proofs.LookLemmas.{last-step, last-done}
use Rattle.object_history.proofs.versions.greatest_living.Goals as goal
use Rattle.object_history.proofs.versions.greatest_living.Goals.{else-takes_over-via-then-takes_over+else-is_living, else-takes_over-via-else-takes_over}

pub loop-version-preserved-then-is_living : goal.loop-version-preserved-then-is_living
loop-version-preserved-then-is_living c =
    let v = c.in-Some.version.now in
    last-step (is_living c.args.settles.now c.args.end.now) true true (option_copied c.loop-version.last) v c.loop-version.version-iterator.iter.rest.now c.next.new.self.iter.rest.now _
    c.in-Some.ensures.steps (sym c.takes_over.ensures ∙ c.if-takes_over.true) (sym c.is_living.ensures ∙ c.if-is_living.true) c.loop-version.invariant

pub loop-version-preserved : goal.loop-version-preserved
loop-version-preserved c =
    let v = c.in-Some.version.now in
    let ok = is_living c.args.settles.now c.args.end.now in
    elim c.else-takes_over.branch [
      | else-takes_over-via-then-takes_over+else-is_living w ↦ last-step ok true false (option_copied c.loop-version.last) v c.loop-version.version-iterator.iter.rest.now c.next.new.self.iter.rest.now _
          c.in-Some.ensures.steps (sym c.takes_over.ensures ∙ w.if-takes_over.true) (sym w.is_living.ensures ∙ w.if-is_living.false) c.loop-version.invariant
      | else-takes_over-via-else-takes_over w ↦ last-step ok false (ok v.start) (option_copied c.loop-version.last) v c.loop-version.version-iterator.iter.rest.now c.next.new.self.iter.rest.now _
          c.in-Some.ensures.steps (sym c.takes_over.ensures ∙ w.if-takes_over.false) refl c.loop-version.invariant
    ]

pub returns : goal.returns
returns c =
    let ok = is_living c.args.settles.now c.args.end.now in
    let same : c.into_iter-version-iterator.result.iter.rest.now ≡ c.args.versions.now = search rules in
    last-done ok (option_copied c.loop-version.last) c.loop-version.version-iterator.iter.rest.now _ c.in-None.ensures.steps.0 c.loop-version.invariant
    ∙ ap (λ vs. last_of ok (reverse vs)) same
