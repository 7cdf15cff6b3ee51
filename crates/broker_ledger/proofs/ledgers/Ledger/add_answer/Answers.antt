use Rattle.broker_ledger.proofs.Names.{Given, answer_noted, IsLedger, kept, ◌≡◌, ◌++◌, ◌∷◌, [], ℕ, List, take, sym, ap, ◌∙◌, subst}
use Rattle.broker_ledger.proofs.CountLemmas.{asked-viewed, ledger-run, ledger-none}
use Rattle.broker_ledger.proofs.ledgers.Ledger.add_answer.Goals as goal
use Rattle.broker_ledger.proofs.ledgers.Ledger.add_answer.Goals.{in-Some+in_ok-give, in_default}

pub invariant_of-self-2 : goal.invariant_of-self-2
invariant_of-self-2 c =
    let asked = asked-viewed c.args.self.now _ c.args.given c.self.view_is c.requires in
    let left : c.reserve.new.self.items ≡ kept c.self.inside.notes c.self.inside.answers.items =
    c.reserve.ensures.items ∙ (c.truncate.ensures.items ∙ ap (λ (m : ℕ). take m c.self.inside.answers.items) c.answered.ensures) in
    let one : c.reserve.new.self.items ++ c.args.given ∷ [] ≡ kept c.self.inside.notes c.self.inside.answers.items ++ c.args.given ∷ [] = ap (λ (xs : List Given). xs ++ c.args.given ∷ []) left in
    elim c.match-self.branch [
      | in-Some+in_ok-give w ↦ subst (λ (x : _). IsLedger x.number x.acts.items c.add_answer.new.self c.push_reserved.new.self.items x.stepper) (sym w.self-inside-is)
          (ledger-run c.self.inside.number c.self.inside.acts.items c.self.inside.notes _ c.self.inside.answers.items _ c.args.given c.self.inside.stepper w.in-Some.run' w.give.new.run c.self.invariant w.in-Some.is asked
          (c.add_answer.ensures ∙ ap (λ (x : _). answer_noted x.notes) w.self-inside-is)
          (c.push_reserved.ensures.items ∙ (ap (λ (x : _). x.answers.items ++ c.args.given ∷ []) w.self-inside-is ∙ one))
          w.give.ensures.script w.in_ok-give.ensures.ok)
      | in_default w ↦ subst (λ (x : _). IsLedger x.number x.acts.items c.add_answer.new.self c.push_reserved.new.self.items x.stepper) (sym w.self-inside-is)
          (ledger-none c.self.inside.number c.self.inside.acts.items c.self.inside.notes _ c.self.inside.answers.items _ c.args.given c.self.inside.stepper c.self.invariant w.in_default.not-Some asked
          (c.add_answer.ensures ∙ ap (λ (x : _). answer_noted x.notes) w.self-inside-is)
          (c.push_reserved.ensures.items ∙ (ap (λ (x : _). x.answers.items ++ c.args.given ∷ []) w.self-inside-is ∙ one)))
    ]
