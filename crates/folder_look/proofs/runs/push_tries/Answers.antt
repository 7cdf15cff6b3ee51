use Rattle.folder_look.proofs.Names.{◌∙◌, ◌++◌, ◌∷◌, ap, append_assoc, sym}
use Rattle.folder_look.specs.Runs.{tries_text, try_shown}
use Rattle.folder_look.specs.Shown.{parts_of}
use Rattle.folder_look.proofs.runs.push_tries.Goals as goal

pub loop-effect-preserved-in-Continue-1 : goal.loop-effect-preserved-in-Continue-1
loop-effect-preserved-in-Continue-1 c =
    let p = parts_of c.args.shown.now in
    let more = c.in-Some.more.now in
    let t = tries_text p more in
    let out = c.loop-effect.out.items in
    ap (λ x. x ++ t) c.in_ok-push_shown-in-Try.ensures
    ∙ append_assoc out (try_shown p c.in-Try.stamp more) t
    ∙ ap (λ es. out ++ tries_text p es) (sym (c.in-Some.ensures.cases.0 ∙ ap (λ f. f ∷ more) c.in-Try.is))
    ∙ c.loop-effect.invariant
