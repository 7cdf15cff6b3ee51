use Rattle.forward_copy.proofs.Names.{rules, ◌∷◌, sym, subst, ◌∙◌, ℕ, StampParts, on_ok, AreFirm}
use Rattle.std.specs.FinMap as finite
use Rattle.forward_copy.proofs.FirmLemmas.{noted, noted-below}
use Rattle.forward_copy.proofs.firms.note.Goals as goal

pub returns-then-has_over : goal.returns-then-has_over
returns-then-has_over c = λ l len h.
    noted-below (λ (s : StampParts). finite.get c.args.settles.now s) c.args.mark l c.args.effect.now c.in-Some.version c.args.firms.now (sym c.put_below.ensures ∙ c.in-Some.is) (sym c.has_over.ensures ∙ c.if-has_over.true) h

pub returns : goal.returns
returns c = λ l len h. on_ok c.put.result (λ is.
    subst (AreFirm (λ (s : StampParts). finite.get c.args.settles.now s) c.args.mark (c.args.effect.now ∷ l)) (sym is)
    (subst (λ (n : ℕ). AreFirm (λ (s : StampParts). finite.get c.args.settles.now s) c.args.mark (c.args.effect.now ∷ l) (finite.insert c.args.firms.now c.in-Some.version.object (record { start = c.in-Some.version.start; index = n }))) len
    (noted (λ (s : StampParts). finite.get c.args.settles.now s) c.args.mark l c.args.effect.now c.in-Some.version c.args.firms.now (sym c.put_below.ensures ∙ c.in-Some.is) (search rules) (sym c.has_over.ensures ∙ c.if-has_over.false) h))) c.put.ensures
