use Rattle.forward_copy.proofs.Names.{sym, ap, ◌∙◌, on_ok}
use Rattle.std.specs.FinMap as finite
use Rattle.forward_copy.proofs.SettledLemmas.{known-plain, known-first, known-kept, none-of}
use Rattle.forward_copy.proofs.settles.settle.Goals as goal

pub returns-in_default : goal.returns-in_default
returns-in_default c = λ l h. known-plain l c.args.effect.now c.args.settles.now (sym c.decided_by.ensures ∙ c.in_default.is) h

pub returns-then-is_some : goal.returns-then-is_some
returns-then-is_some c = λ l h.
    known-kept l c.args.effect.now c.args.settles.now c.in-Some.decided c.get.result (sym c.decided_by.ensures ∙ c.in-Some.is) c.get.ensures (sym c.is_some.ensures ∙ c.if-is_some.true) h

pub returns : goal.returns
returns c = λ l h. on_ok c.put.result (λ is s.
    ap (λ z. finite.get z s) (is ∙ ap (finite.insert c.args.settles.now c.in-Some.decided.0) c.is_commit.ensures)
    ∙ known-first l c.args.effect.now c.args.settles.now c.in-Some.decided (sym c.decided_by.ensures ∙ c.in-Some.is)
    (sym c.get.ensures ∙ none-of c.get.result (sym c.is_some.ensures ∙ c.if-is_some.false)) h s) c.put.ensures.ok
