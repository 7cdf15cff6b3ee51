use Rattle.version_store.proofs.Names.{sym, ◌∙◌, ap, arith, Some, state_with}
use Rattle.page_form.specs.Gate.{Gate}
use Rattle.version_store.proofs.FetchLemmas.{first_piece}
use Rattle.version_store.proofs.fetches.look_first.Goals as goal

pub returns-in_ok-pieces-in-First-clause-sees : goal.returns-in_ok-pieces-in-First-clause-sees
returns-in_ok-pieces-in-First-clause-sees c =
    first_piece c.args.place (state_with c.args.gate c.args.body.now) c.args.body.now c.in-Some.from c.in-Some.bytes.now (ap (λ (g : Gate). state_with g c.args.body.now) c.in-Open.is) c.in_ok-pieces-in-First.pieces
    (sym c.in-Some.ensures.sheet ∙ ap (λ p. Some (p, c.in-Some.from, c.in-Some.bytes.now)) c.in-First.is) (omega (arith, c.if-place-ne5.false)) c.in_ok-pieces-in-First.ensures.kept c.in_ok-pieces-in-First.ensures.small
