use Rattle.object_history.proofs.Names.{same_value, some_version, value_under, rising, rules, ◌≡◌, reverse, sym, ap, ◌∙◌, ◌&&◌, option_copied}
use Rattle.object_history.proofs.LookLemmas.{is_written, some-step, some-found, some-done, put-some, put-none}
use Rattle.object_history.proofs.RisingLemmas.{written-done, rising-step}
use Rattle.object_history.proofs.plain.PlainHistories.has_put.Goals as goal
use Rattle.object_history.proofs.plain.PlainHistories.has_put.Goals.{else-is_same-via-then-is_same+else-has_value, else-is_same-via-else-is_same}

pub returns-in_default : goal.returns-in_default
returns-in_default c =
    let i = c.self.inside in
    put-none i.marks.items c.args.self.now i.settles i.tracks c.args.object c.args.start c.args.value.now c.self.invariant.kept c.self.view_is (sym (ap option_copied c.in_default.is) ∙ c.get.ensures)

pub returns-then-has_value : goal.returns-then-has_value
returns-then-has_value c =
    let i = c.self.inside in
    let ok = is_written c.args.self.now c.args.start c.args.value.now in
    let v = c.in-Some-version.version.now in
    let same : c.into_iter-version-iterator.result.iter.rest.now ≡ c.versions.result.now = search rules in
    some-found ok v c.loop-version.version-iterator.iter.rest.now c.next.new.self.iter.rest.now _ c.in-Some-version.ensures.steps
    (ap (λ b. b && same_value (value_under c.args.self.now v.mark) c.args.value.now) (sym c.if-is_same.ensures) ∙ sym c.if-has_value.ensures) c.loop-version.invariant.none
    ∙ ap (λ vs. some_version ok (reverse vs)) same ∙ ap (some_version ok) c.versions.ensures
    ∙ put-some i.marks.items c.args.self.now i.settles i.tracks c.args.object c.args.start c.args.value.now c.in-Some.track.now c.self.invariant.kept c.self.view_is (sym (ap option_copied c.in-Some.is) ∙ c.get.ensures)

pub returns-then-is_before : goal.returns-then-is_before
returns-then-is_before c =
    let i = c.self.inside in
    let ok = is_written c.args.self.now c.args.start c.args.value.now in
    let v = c.in-Some-version.version.now in
    let same : c.into_iter-version-iterator.result.iter.rest.now ≡ c.versions.result.now = search rules in
    written-done c.args.self.now c.args.start c.args.value.now v c.loop-version.version-iterator.iter.rest.now c.next.new.self.iter.rest.now _ c.in-Some-version.ensures.steps
    (c.loop-version.invariant.rising (ap (λ vs. rising (reverse vs)) same ∙ ap rising c.versions.ensures ∙ sym c.rises.ensures ∙ c.if-rises.true))
    (sym c.is_before.ensures ∙ c.if-is_before.true) c.loop-version.invariant.none
    ∙ ap (λ vs. some_version ok (reverse vs)) same ∙ ap (some_version ok) c.versions.ensures
    ∙ put-some i.marks.items c.args.self.now i.settles i.tracks c.args.object c.args.start c.args.value.now c.in-Some.track.now c.self.invariant.kept c.self.view_is (sym (ap option_copied c.in-Some.is) ∙ c.get.ensures)

pub loop-version-preserved : goal.loop-version-preserved
loop-version-preserved c =
    let ok = is_written c.args.self.now c.args.start c.args.value.now in
    let v = c.in-Some-version.version.now in record {
      none = elim c.else-is_same.branch [
        | else-is_same-via-then-is_same+else-has_value w ↦ some-step ok v c.loop-version.version-iterator.iter.rest.now c.next.new.self.iter.rest.now _ c.in-Some-version.ensures.steps
            (ap (λ b. b && same_value (value_under c.args.self.now v.mark) c.args.value.now) (sym w.if-is_same.ensures) ∙ sym w.if-has_value.ensures) c.loop-version.invariant.none
        | else-is_same-via-else-is_same w ↦ some-step ok v c.loop-version.version-iterator.iter.rest.now c.next.new.self.iter.rest.now _ c.in-Some-version.ensures.steps
            (ap (λ b. b && same_value (value_under c.args.self.now v.mark) c.args.value.now) (sym w.if-is_same.ensures)) c.loop-version.invariant.none
      ];
      rising = λ h. rising-step c.loop-version.version-iterator.iter.rest.now c.next.new.self.iter.rest.now v c.in-Some-version.ensures.steps (c.loop-version.invariant.rising h);
    }

pub returns : goal.returns
returns c =
    let i = c.self.inside in
    let ok = is_written c.args.self.now c.args.start c.args.value.now in
    let same : c.into_iter-version-iterator.result.iter.rest.now ≡ c.versions.result.now = search rules in
    some-done ok c.loop-version.version-iterator.iter.rest.now _ c.in-None.ensures.steps.0 c.loop-version.invariant.none
    ∙ ap (λ vs. some_version ok (reverse vs)) same ∙ ap (some_version ok) c.versions.ensures
    ∙ put-some i.marks.items c.args.self.now i.settles i.tracks c.args.object c.args.start c.args.value.now c.in-Some.track.now c.self.invariant.kept c.self.view_is (sym (ap option_copied c.in-Some.is) ∙ c.get.ensures)
