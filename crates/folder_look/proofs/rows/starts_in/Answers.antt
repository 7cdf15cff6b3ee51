use Rattle.folder_look.proofs.Names.{marks, Holds, ◌∙◌, reverse, subst}
use Rattle.folder_look.proofs.StartLemmas.{starts-told}
use Rattle.folder_look.proofs.rows.starts_in.Goals as goal

pub returns : goal.returns
returns c =
    let m = marks (reverse c.args.effects.now) in
    let o = c.args.object in
    let t = c.in_ok-telling.telling in
    let h : Holds o m t.origin t.versions.items t.settles = subst (λ z. Holds z m t.origin t.versions.items t.settles) c.in_ok-telling.ensures.object c.in_ok-telling.ensures.tells in
    starts-told o m c.as_slice.result.now (c.as_slice.ensures.value ∙ h.versions_are) c.starts_of.result c.starts_of.ensures
