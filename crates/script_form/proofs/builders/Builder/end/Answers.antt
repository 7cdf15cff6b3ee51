use Rattle.script_form.proofs.Names.{◌≡◌, ◌∙◌, sym, subst, Block, rows_so_far, rows}
use Rattle.script_form.proofs.BeginLemmas.{ended_depth, ended_open}
use Rattle.script_form.proofs.builders.Builder.end.Goals as goal

pub returns-then-len-eq0-clause-shallow : goal.returns-then-len-eq0-clause-shallow
returns-then-len-eq0-clause-shallow c = ended_depth c.self.inside.building c.self.invariant (sym c.len.ensures ∙ c.if-len-eq0.true)

pub returns-else-len-eq0-clause-open : goal.returns-else-len-eq0-clause-open
returns-else-len-eq0-clause-open c =
    subst (λ z. (script : Block) → rows script ≡ rows_so_far z → ⊥) c.self.view_is (ended_open c.self.inside.building (λ none. c.if-len-eq0.false (c.len.ensures ∙ none)))
