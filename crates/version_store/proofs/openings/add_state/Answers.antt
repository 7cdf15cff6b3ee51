use Rattle.version_store.proofs.Names.{ap, state_with, Option, MatchOption, sym, subst, ◌≡◌, ◌∙◌, Content, Damaged, Going, HeldFit, IsFound, next, Gated, Held, reading_of}
use Rattle.page_form.specs.Gate.{Gate}
use Rattle.version_store.proofs.GateLemmas.{opened_page, spoiled_goes}
use Rattle.version_store.proofs.openings.add_state.Goals as goal

pub returns-else-found-clause-found : goal.returns-else-found-clause-found
returns-else-found-clause-found c content was fits = spoiled_goes content c.args.page c.args.found.now.ended (state_with c.args.gate c.args.body.now) c.args.found.now.heads c.args.found.now.effects.items c.if-found.false (ap (λ (g : Gate). state_with g c.args.body.now) c.in-Spoiled.is) was

pub returns-in-None-clause-found : goal.returns-in-None-clause-found
returns-in-None-clause-found c content was fits =
    let added = c.in_ok-add_page-in-Open.ensures.found content was (subst (λ (h : Option Held). HeldFit h content.held) (sym c.take-held.ensures.value) fits) in
    opened_page c.args.gate content c.args.page c.args.found.now.ended c.args.body.now c.if-found-2.false c.in-Open.is
    ∙ subst (λ (o : Option (Option Held)). MatchOption o (next (Going content) c.args.page (Gated c.args.body.now) ≡ Damaged c.args.page) (λ h. (more : Content) × (next (Going content) c.args.page (Gated c.args.body.now) ≡ Going more) × IsFound c.add_page.new.heads c.add_page.new.effects.items more.log × HeldFit h more.held)) c.in-None.is added

pub returns-in-Some-clause-found : goal.returns-in-Some-clause-found
returns-in-Some-clause-found c content was fits =
    let added = c.in_ok-add_page-in-Open.ensures.found content was (subst (λ (h : Option Held). HeldFit h content.held) (sym c.take-held.ensures.value) fits) in
    let some = subst (λ (o : Option (Option Held)). MatchOption o (next (Going content) c.args.page (Gated c.args.body.now) ≡ Damaged c.args.page) (λ h. (more : Content) × (next (Going content) c.args.page (Gated c.args.body.now) ≡ Going more) × IsFound c.add_page.new.heads c.add_page.new.effects.items more.log × HeldFit h more.held)) c.in-Some.is added in
    (some.0, opened_page c.args.gate content c.args.page c.args.found.now.ended c.args.body.now c.if-found-2.false c.in-Open.is ∙ some.1 ∙ sym (ap (λ b. reading_of b some.0) c.if-found-2.false), some.2, some.3)
