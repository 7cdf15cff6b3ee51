use Rattle.command_words.proofs.Names.{sym, subst, arith, MatchOption, ObjectId, IsObjectWord}
use Rattle.command_words.proofs.WordLemmas.{object-parted, object-front, object-back}
use Rattle.command_words.proofs.numbers.object.Goals as goal

pub returns-in_err-repository : goal.returns-in_err-repository
returns-in_err-repository c =
    let w = c.args.word.now in
    subst (λ r. MatchOption r ((o : ObjectId) → IsObjectWord o w → ⊥) (λ o. IsObjectWord o w)) (sym c.from_residual.ensures)
    (λ o is. let at = c.in_err-repository.ensures.byte (omega arith) (λ x y f. f) in omega (arith, at, (object-parted o w is).0))

pub returns-in_err-repository-2 : goal.returns-in_err-repository-2
returns-in_err-repository-2 c =
    let w = c.args.word.now in
    subst (λ r. MatchOption r ((o : ObjectId) → IsObjectWord o w → ⊥) (λ o. IsObjectWord o w)) (sym c.from_residual-in_err-repository-2.ensures)
    (λ o is. let parts = c.in_ok-repository.ensures.byte (omega arith) (λ x y f. f) in
    c.in_err-repository-2.ensures o.repository (object-front o w c.in_ok-repository.repository.now parts.0 is))

pub returns-in_err-number : goal.returns-in_err-number
returns-in_err-number c =
    let w = c.args.word.now in
    subst (λ r. MatchOption r ((o : ObjectId) → IsObjectWord o w → ⊥) (λ o. IsObjectWord o w)) (sym c.from_residual-in_err-number.ensures)
    (λ o is. let parts = c.in_ok-repository.ensures.byte (omega arith) (λ x y f. f) in
    c.in_err-number.ensures o.number (object-back o w c.in_ok-repository.number_word.now parts.1 is))
