use Rattle.node_turn.proofs.Names.{⊎_elim, EitherSide, joins}
use Rattle.node_inputs.specs.StoreWords.{opened}
use Rattle.node_turn.proofs.openings.open_again.Goals as goal

-- what the medium's reopening left, and then what opening its store left
pub returns-in-Ok-clause-any_moment : goal.returns-in-Ok-clause-any_moment
returns-in-Ok-clause-any_moment g c = λ told.
    let was = g.M.Medium.may_leave c.args.medium in
    let now = g.M.Medium.may_leave c.reopen.new.self in
    joins g.M.Medium.stages c.args.medium c.reopen.new.self (opened c.open.result) (EitherSide was now) now was (c.reopen.ensures.time told) (c.open.ensures.any_moment told)
    (λ image left. ⊎_elim (λ x. x) (λ y. c.reopen.ensures.crash told image y) left) (λ image left. c.reopen.ensures.crash told image left)
