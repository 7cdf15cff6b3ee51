use Rattle.report_writer.proofs.Names.{◌∙◌, ap, subst, reverse, ◌++◌, flat_map, marks, head_text, Holds, told_line}
use Rattle.report_writer.proofs.TextLemmas.{text-is}
use Rattle.report_writer.proofs.histories.history.Goals as goal

pub returns : goal.returns
returns c =
    let t = c.in_ok-telling.telling in
    let m = marks (reverse c.args.effects.now) in
    c.of.ensures
    ∙ text-is c.args.object m t.settles t.origin c.latest-origin.result c.floor_of-floor.result t.versions.items c.push_head.new.out.items c.push_versions.new.out.items
    (subst (λ o. Holds o m t.origin t.versions.items t.settles) c.in_ok-telling.ensures.object c.in_ok-telling.ensures.tells) c.floor_of-floor.ensures c.latest-origin.ensures
    (c.in_ok-push_head.ensures ∙ ap (λ z. z ++ head_text c.args.object c.latest-origin.result) c.new-out.ensures.items)
    (c.in_ok-push_versions.ensures ∙ ap (λ vs. c.push_head.new.out.items ++ flat_map (told_line t.settles c.floor_of-floor.result) vs) (c.as_slice.ensures.value ∙ c.reverse.ensures.items))
