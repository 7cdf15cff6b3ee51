use Rattle.std.proofs.Common.{◌≡◌, ◌∙◌, inl, map, sym, subst}
use Rattle.std.specs.List.{AllZip}
use Rattle.plan_volumes.specs.Media.{AreBack, IsLeftAlone}
use Rattle.plan_volumes.specs.Openings.{medium_in}
use Rattle.run_rounds.specs.Finishes.{IsKeptWhole}
use Rattle.run_command.proofs.ShelfLemmas.{alone-whole, opened-left, opened-there}
use Rattle.settle_command.proofs.settles.settle_opened.Goals as goal

pub returns-then-wanting-clause-ends : goal.returns-then-wanting-clause-ends
returns-then-wanting-clause-ends g c first opened =
    let w = g.M.Medium in
    let items = c.args.openings.items in
    let are : c.of.result ≡ map medium_in items = c.of.ensures ∙ c.give_back.ensures.back in
    let alone : AllZip (IsLeftAlone w) first (map medium_in items) = opened-left w first items opened in (
      subst (AreBack first) (sym are) (opened-there w first items opened),
      subst (AllZip (IsKeptWhole w) first) (sym are) (alone-whole w first (map medium_in items) alone),
      λ tells. inl (subst (AllZip (IsLeftAlone w) first) (sym are) alone),
    )
