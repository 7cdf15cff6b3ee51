use Rattle.page_form.proofs.Names.{subst, arith, HeldFit}
use Rattle.page_form.proofs.ReadLemmas.{middle_found}
use Rattle.page_form.proofs.page_reads.add_middle.Goals as goal

pub returns-in_ok-add_piece-in-Some-clause-found : goal.returns-in_ok-add_piece-in-Some-clause-found
returns-in_ok-add_piece-in-Some-clause-found c content fits =
    middle_found content.log c.in-Some.held c.add_piece.new.bytes content.held c.args.piece.now (λ i. omega (arith, c.type_inv.piece i)) (subst (λ h. HeldFit h content.held) c.in-Some.is fits) c.in_ok-add_piece-in-Some.ensures.stands
