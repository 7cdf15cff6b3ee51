use Rattle.object_history.proofs.Names.{is_firm, some_version, rising, Version, rules, ◌≡◌, reverse, sym, ap, ◌∙◌}
use Rattle.object_history.proofs.LookLemmas.{some-step, some-found, some-done}
use Rattle.object_history.proofs.RisingLemmas.{firm-done, rising-step}
use Rattle.object_history.proofs.versions.Track.has_firm.Goals as goal

pub returns-then-is_firm : goal.returns-then-is_firm
returns-then-is_firm c =
    let ok : Version → _ = λ v. is_firm c.args.settles.now c.args.other.now v.start in
    let same : c.into_iter-version-iterator.result.iter.rest.now ≡ c.self.inside.versions.items = search rules in
    some-found ok c.in-Some.version.now c.loop-version.version-iterator.iter.rest.now c.next.new.self.iter.rest.now _ c.in-Some.ensures.steps (sym c.is_firm.ensures ∙ c.if-is_firm.true) c.loop-version.invariant.none
    ∙ ap (λ vs. some_version ok (reverse vs)) same ∙ ap (λ t. some_version ok t.versions) c.self.view_is

pub returns-then-not-is_past : goal.returns-then-not-is_past
returns-then-not-is_past c =
    let ok : Version → _ = λ v. is_firm c.args.settles.now c.args.other.now v.start in
    let same : c.into_iter-version-iterator.result.iter.rest.now ≡ c.self.inside.versions.items = search rules in
    firm-done c.args.settles.now c.args.other.now c.in-Some.version.now c.loop-version.version-iterator.iter.rest.now c.next.new.self.iter.rest.now _ c.in-Some.ensures.steps
    (c.loop-version.invariant.rising (ap (λ vs. rising (reverse vs)) same ∙ sym c.self.invariant ∙ c.if-self.true))
    (sym c.is_past.ensures ∙ c.if-not-is_past.true) c.loop-version.invariant.none
    ∙ ap (λ vs. some_version ok (reverse vs)) same ∙ ap (λ t. some_version ok t.versions) c.self.view_is

pub loop-version-preserved : goal.loop-version-preserved
loop-version-preserved c = record {
  none =
      some-step (λ v. is_firm c.args.settles.now c.args.other.now v.start) c.in-Some.version.now c.loop-version.version-iterator.iter.rest.now c.next.new.self.iter.rest.now _
      c.in-Some.ensures.steps (sym c.is_firm.ensures ∙ c.if-is_firm.false) c.loop-version.invariant.none;
  rising = λ h. rising-step c.loop-version.version-iterator.iter.rest.now c.next.new.self.iter.rest.now c.in-Some.version.now c.in-Some.ensures.steps (c.loop-version.invariant.rising h);
}

pub returns : goal.returns
returns c =
    let ok : Version → _ = λ v. is_firm c.args.settles.now c.args.other.now v.start in
    let same : c.into_iter-version-iterator.result.iter.rest.now ≡ c.self.inside.versions.items = search rules in
    some-done ok c.loop-version.version-iterator.iter.rest.now _ c.in-None.ensures.steps.0 c.loop-version.invariant.none
    ∙ ap (λ vs. some_version ok (reverse vs)) same ∙ ap (λ t. some_version ok t.versions) c.self.view_is
