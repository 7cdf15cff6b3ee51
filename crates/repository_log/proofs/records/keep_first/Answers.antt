use Rattle.repository_log.proofs.Names.{ap, ◌∙◌, sym, is_some, not}
use Rattle.repository_log.proofs.OpenLemmas.{kept-new, kept-old, copied-none, copied-some}
use Rattle.repository_log.proofs.records.keep_first.Goals as goal

pub returns-in_ok-insert : goal.returns-in_ok-insert
returns-in_ok-insert c = λ q.
    let none = copied-none c.get.result (c.is_none.ensures ∙ ap not c.if-is_none.true) in
    kept-new c.args.stamp q c.args.decision c.args.early.now.entries c.insert.new.self.entries (sym c.get.ensures.value ∙ none) (c.in_ok-insert.ensures.updates.0 q)

pub returns-else-is_none : goal.returns-else-is_none
returns-else-is_none c = λ q.
    let some = copied-some c.get.result (c.is_none.ensures ∙ ap not c.if-is_none.false) in
    kept-old c.args.stamp q c.args.decision c.args.early.now.entries (ap is_some (sym c.get.ensures.value) ∙ some)
