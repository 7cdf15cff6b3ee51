use Rattle.folder_look.proofs.Names.{◌∙◌, ◌++◌, [], ap, ℕ, List, ObjectRow, objects_left}
use Rattle.folder_look.specs.Objects.{rows_of}
use Rattle.folder_look.specs.Page.{first_text, head_text, rest_text}
use Rattle.folder_look.specs.Shown.{ShownParts}
use Rattle.folder_look.specs.Sights.{shown_of}
use Rattle.folder_look.proofs.Appends.{behind}
use Rattle.folder_look.proofs.pages.page_of.Goals as goal

pub returns : goal.returns
returns c =
    let z = c.push_rest.new.out.items in
    let media = c.args.media.now in
    let head = head_text c.args.name.now in
    let all = rows_of c.args.choice.now media in
    let shown = shown_of c.args.choice.now media all in
    let picked = c.in_ok-picked.picked in
    let given = c.as_slice-2.result.now in
    let rows = c.in_ok-picked.ensures.rows in
    c.of.ensures
    ∙ behind [] c.push_head.new.out.items z _ _ (c.in_ok-push_head.ensures ∙ ap (λ t. t ++ head) c.new-out.ensures.items)
    (behind c.push_head.new.out.items c.push_first.new.out.items z _ _ c.in_ok-push_first.ensures c.in_ok-push_rest.ensures)
    ∙ ap (λ (p : ShownParts). head ++ (first_text p media picked.rows.items picked.left ++ rest_text p media given))
    (c.in_ok-shown.ensures ∙ ap (λ (rs : List ObjectRow). shown_of c.args.choice.now media rs) (c.as_slice.ensures.value ∙ rows))
    ∙ ap (λ (rs : List ObjectRow). head ++ (first_text shown media rs picked.left ++ rest_text shown media given)) rows
    ∙ ap (λ (n : ℕ). head ++ (first_text shown media all n ++ rest_text shown media given)) c.in_ok-picked.ensures.left
    ∙ ap (λ (rs : List ObjectRow). head ++ (first_text shown media all (objects_left c.args.choice.now media) ++ rest_text shown media rs)) (c.as_slice-2.ensures.value ∙ rows)
