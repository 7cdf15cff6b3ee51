use Rattle.version_store.proofs.Names.{state_with, ℕ, List, ◌++◌, sym, ◌∙◌, ap, subst, Some, Stand}
use Rattle.page_form.specs.Gate.{Gate}
use Rattle.version_store.proofs.FetchLemmas.{next_middle, next_last}
use Rattle.version_store.proofs.fetches.look_next.Goals as goal

pub returns-in_ok-add_piece-in-Middle-clause-sees : goal.returns-in_ok-add_piece-in-Middle-clause-sees
returns-in_ok-add_piece-in-Middle-clause-sees c front stand small =
    next_middle c.args.place (state_with c.args.gate c.args.body.now) c.args.body.now c.in-Some.field-0-1 c.in-Some.bytes.now (ap (λ (g : Gate). state_with g c.args.body.now) c.in-Open.is) front c.add_piece.new.bytes
    (sym c.in-Some.ensures.sheet ∙ ap (λ p. Some (p, c.in-Some.field-0-1, c.in-Some.bytes.now)) c.in-Middle.is)
    (c.in_ok-add_piece-in-Middle.ensures.stands front stand) small c.in_ok-add_piece-in-Middle.ensures.small

pub returns-in_ok-found-in-Last-clause-sees : goal.returns-in_ok-found-in-Last-clause-sees
returns-in_ok-found-in-Last-clause-sees c front stand small =
    next_last c.args.place (state_with c.args.gate c.args.body.now) c.args.body.now c.in-Some.field-0-1 c.in-Some.bytes.now (ap (λ (g : Gate). state_with g c.args.body.now) c.in-Open.is) front c.deref.result.now c.in_ok-found-in-Last.found
    (sym c.in-Some.ensures.sheet ∙ ap (λ p. Some (p, c.in-Some.field-0-1, c.in-Some.bytes.now)) c.in-Last.is)
    (subst (λ (l : List ℕ). Stand l (front ++ c.in-Some.bytes.now)) (sym c.deref.ensures.value) (c.in_ok-add_piece-in-Last.ensures.stands front stand))
    c.in_ok-found-in-Last.ensures.small small c.in_ok-add_piece-in-Last.ensures.small c.in_ok-found-in-Last.ensures.shown
