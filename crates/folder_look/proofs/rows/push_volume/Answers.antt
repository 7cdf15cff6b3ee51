use Rattle.folder_look.proofs.Names.{contains, filter, TimeParts, time_cmp, Seen, marks, Holds, rows_with, starts_at, told_row, is_told_in, ◌≡◌, ◌∙◌, ◌++◌, List, map, reverse, ap, subst}
use Rattle.folder_look.proofs.RowLemmas.{rows-are}
use Rattle.folder_look.proofs.StartLemmas.{on-more}
use Rattle.folder_look.proofs.rows.push_volume.Goals as goal

pub returns : goal.returns
returns c =
    let m = marks (reverse c.args.effects.now) in
    let o = c.args.object in
    let next = c.args.next.now in
    let t = c.in_ok-telling.telling in
    let h : Holds o m t.origin t.versions.items t.settles = subst (λ z. Holds z m t.origin t.versions.items t.settles) c.in_ok-telling.ensures.object c.in_ok-telling.ensures.tells in
    let kept = map (told_row c.args.older t.settles c.floor_of-floor.result) (filter (is_told_in c.args.choice.now next) c.as_slice.result.now) in
    on-more c.push_versions.result (c.push_versions.new.rows.items ≡ c.args.rows.now.items ++ kept)
    ((qs : List Seen) → ((x : TimeParts) → contains time_cmp next x ≡ starts_at qs x) → c.push_versions.new.rows.items ≡ c.args.rows.now.items ++ rows_with c.args.choice.now c.args.older qs o m)
    (λ pushed qs has. pushed ∙ ap (λ l. c.args.rows.now.items ++ l)
    (ap (λ vs. map (told_row c.args.older t.settles c.floor_of-floor.result) (filter (is_told_in c.args.choice.now next) vs)) (c.as_slice.ensures.value ∙ c.reverse.ensures.items)
    ∙ rows-are c.args.choice.now o m c.args.older next qs has t.origin c.floor_of-floor.result t.versions.items t.settles h c.floor_of-floor.ensures))
    c.push_versions.ensures
