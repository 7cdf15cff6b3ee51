use Rattle.repository_core.proofs.Names.{sym, ap, ◌∙◌, Some, now, known}
use Rattle.repository_core.proofs.RowLemmas.{on-read-known, on-read-none}
use Rattle.repository_core.proofs.works.Work.on_read.Goals as goal

pub returns-in_ok-read-in-Some-true-clause-gives :
    goal.returns-in_ok-read-in-Some-true-clause-gives
returns-in_ok-read-in-Some-true-clause-gives g c = λ tells pending a.
    let h = c.args.self.now.draft in
    c.in_ok-read-in-Some-true.ensures.gives tells pending a
    ∙ sym (on-read-known h c.args.from c.args.at c.args.object (ap (λ s. known (now h) s) (sym c.stamp.ensures.value) ∙ sym (c.known.ensures.known pending (now h) a) ∙ c.in-Some-true.is ∙ ap (λ b. Some b) c.in-Some-true.field-0-test))

pub returns-in_ok-read-in-None-clause-gives : goal.returns-in_ok-read-in-None-clause-gives
returns-in_ok-read-in-None-clause-gives g c = λ tells pending a.
    let h = c.args.self.now.draft in
    c.in_ok-read-in-None.ensures.gives tells pending a
    ∙ sym (on-read-none h c.args.from c.args.at c.args.object (ap (λ s. known (now h) s) (sym c.stamp.ensures.value) ∙ sym (c.known.ensures.known pending (now h) a) ∙ c.in-None.is))
