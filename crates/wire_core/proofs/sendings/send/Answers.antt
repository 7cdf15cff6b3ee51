use Rattle.wire_core.proofs.Names.{State, state_of, Sent, IsTied, all_marked, subst, sym, ◌∷◌, [], ◌++◌}
use Rattle.wire_core.proofs.CopyLemmas.{tied-send}
use Rattle.wire_core.proofs.sendings.send.Goals as goal

pub returns-clause-tied : goal.returns-clause-tied
returns-clause-tied c = λ w msgs marks t.
    let x : Sent = record { number = c.args.number; from = c.args.from; to = c.args.out.to; message = c.args.out.message; fate = c.args.fate } in
    subst (λ (s : State). IsTied s w (msgs ++ x ∷ []) (marks ++ all_marked w.ticks (x ∷ [])))
    (sym c.in_ok-send.ensures.sent)
    (tied-send w msgs marks (state_of c.args.flight.now) x t)
