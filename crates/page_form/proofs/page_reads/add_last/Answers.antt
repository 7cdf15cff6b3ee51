use Rattle.page_form.proofs.Names.{subst, HeldBelow, HeldFit}
use Rattle.page_form.proofs.ReadLemmas.{last_found}
use Rattle.page_form.proofs.page_reads.add_last.Goals as goal

pub returns-in_ok-good-in-Some-clause-found : goal.returns-in_ok-good-in-Some-clause-found
returns-in_ok-good-in-Some-clause-found c content was fits =
    last_found content.log c.in-Some.held c.add_piece.new.bytes c.add_held.new.heads c.add_held.new.effects.items c.in_ok-good-in-Some.good c.args.piece.now c.in_ok-add_piece-in-Some.ensures.small c.in_ok-add_piece-in-Some.ensures.stands
    (λ pieces stand small. c.in_ok-good-in-Some.ensures.found content.log pieces was stand small) content.held (subst (λ h. HeldFit h content.held) c.in-Some.is fits)

pub returns-in_ok-good-in-Some-clause-below : goal.returns-in_ok-good-in-Some-clause-below
returns-in_ok-good-in-Some-clause-below c limit low below = c.in_ok-good-in-Some.ensures.below limit (subst (λ h. HeldBelow limit h) c.in-Some.is low) below
