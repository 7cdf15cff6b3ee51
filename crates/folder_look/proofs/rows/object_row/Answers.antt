use Rattle.folder_look.proofs.Names.{filter, floor_of, marks, Holds, current, log_at, logs_of, given_up_by, rows_of, rows_with, told_at_home, told_row, is_told_in, ◌≡◌, ◌∙◌, ◌++◌, [], None, map, reverse, ap, subst, rules, reach, current_marks}
use Rattle.folder_look.proofs.RowLemmas.{origin-is, row-is, rows-are}
use Rattle.folder_look.proofs.StartLemmas.{none-start}
use Rattle.folder_look.proofs.rows.object_row.Goals as goal

pub returns : goal.returns
returns c =
    let logs = logs_of c.args.object.repository c.args.media.now in
    let choice = c.args.choice.now in
    let o = c.args.object in
    let effects = c.log_of-effects.result.now in
    let is : effects ≡ log_at logs (current logs) = c.log_of-effects.ensures ∙ ap (log_at logs) c.current_of-last.ensures in
    let m = marks (reverse effects) in
    let same : m ≡ current_marks logs = ap (λ l. marks (reverse l)) is in
    let t = c.in_ok-telling.telling in
    let h : Holds o m t.origin t.versions.items t.settles = subst (λ z. Holds z m t.origin t.versions.items t.settles) c.in_ok-telling.ensures.object c.in_ok-telling.ensures.tells in
    let floors = c.floor_of-floor.ensures in
    let none = c.new-none.result in
    let new = rows-are choice o m None none [] (none-start none c.new-none.ensures.empty) t.origin c.floor_of-floor.result t.versions.items t.settles h floors in
    let older : c.push_given_up.new.rows.items ≡ given_up_by choice o (current logs) logs = search rules in
    let rows : c.push_versions.new.rows.items ≡ rows_of choice o logs =
    c.in_ok-push_versions.ensures
    ∙ ap (λ vs. c.push_given_up.new.rows.items ++ map (told_row None t.settles c.floor_of-floor.result) (filter (is_told_in choice none) vs)) (c.as_slice.ensures.value ∙ c.reverse.ensures.items)
    ∙ ap (λ l. c.push_given_up.new.rows.items ++ l) (new ∙ ap (rows_with choice None [] o) same) ∙ ap (λ l. l ++ rows_with choice None [] o (current_marks logs)) older in
    let told = map (told_at_home c.args.homes.now) in
    c.in_ok-row.ensures
    ∙ row-is o c.latest-origin.result (reach (current_marks logs) o None) c.floor_of-floor.result (floor_of (current_marks logs)) c.tell_homes-told.result.items (told (rows_of choice o logs))
    (origin-is o m t.origin c.floor_of-floor.result c.latest-origin.result t.versions.items t.settles h floors c.latest-origin.ensures ∙ ap (λ z. reach z o None) same) (floors ∙ ap floor_of same) (c.tell_homes-told.ensures ∙ ap told rows)
