use Rattle.folder_look.proofs.Names.{◌∙◌, ◌++◌, ◌∷◌, ap, append_assoc, sym}
use Rattle.folder_look.specs.Runs.{act_text, acts_text}
use Rattle.folder_look.specs.Shown.{parts_of}
use Rattle.folder_look.proofs.runs.push_acts.Goals as goal

pub loop-effect-preserved-in-Continue-1 : goal.loop-effect-preserved-in-Continue-1
loop-effect-preserved-in-Continue-1 c =
    let p = parts_of c.args.shown.now in
    let more = c.in-Some.more.now in
    let t = acts_text p more in
    let out = c.loop-effect.out.items in
    let a = c.in-Act in
    ap (λ x. x ++ t) c.in_ok-push_act-in-Act.ensures
    ∙ append_assoc out (act_text p a.index a.home a.tries c.as_slice.result.now more) t
    ∙ ap (λ s. out ++ (act_text p a.index a.home a.tries s more ++ t)) c.as_slice.ensures
    ∙ ap (λ es. out ++ acts_text p es) (sym (c.in-Some.ensures.cases.0 ∙ ap (λ f. f ∷ more) a.is))
    ∙ c.loop-effect.invariant
