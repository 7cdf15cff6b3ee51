use Rattle.forward_copy.proofs.Names.{◌≡◌, ◌∙◌, ap, rules, subst, sym, Ok, [], HasPrefix, effects_found, storage, LeavesFront, between}
use Rattle.medium_port.specs.Moment.{LeavesOnly, stays, widens}
use Rattle.version_store.specs.StoreWords.{medium_of, effects_in, handed}
use Rattle.forward_copy.proofs.CarryLemmas.{carried-front, front-none}
use Rattle.forward_copy.proofs.carries.carry.Goals as goal

pub returns-in-Ok-clause-images : goal.returns-in-Ok-clause-images
returns-in-Ok-clause-images g c = λ t i left.
    carried-front c.args.mark c.args.forward.now.kept.items (effects_in g.M.Medium.reads c.args.fresh) c.as_slice-in-Ok.result.now i (c.requires.empty t) (search rules) c.requires.no_whole (c.append.ensures.images t i left)

pub returns-in-Ok-clause-any_moment : goal.returns-in-Ok-clause-any_moment
returns-in-Ok-clause-any_moment g c = λ t.
    widens g.M.Medium.stages (medium_of c.args.fresh) (handed c.append.result) (HasPrefix (effects_in g.M.Medium.reads c.args.fresh) c.as_slice-in-Ok.result.now) (LeavesFront (between c.args.mark c.args.forward.now.kept.items)) (c.append.ensures.any_moment t)
    (λ i has. carried-front c.args.mark c.args.forward.now.kept.items (effects_in g.M.Medium.reads c.args.fresh) c.as_slice-in-Ok.result.now i (c.requires.empty t) (search rules) c.requires.no_whole has)

pub returns-in-Err-clause-any_moment : goal.returns-in-Err-clause-any_moment
returns-in-Err-clause-any_moment g c = λ t.
    let m = medium_of c.args.fresh in
    let P = LeavesFront (between c.args.mark c.args.forward.now.kept.items) in
    let empty : storage (g.M.Medium.reads m) ≡ Ok [] = ap effects_found (c.args.fresh.settled t).log ∙ ap (λ l. Ok l) (c.requires.empty t) in
    subst (λ z. LeavesOnly g.M.Medium.stages m z P) (sym c.release.ensures)
    (stays g.M.Medium.stages m P (λ i left. front-none c.args.mark c.args.forward.now.kept.items i (ap storage ((c.args.fresh.settled t).only i (g.met.M.Medium.only_now m i t left)) ∙ empty)))
