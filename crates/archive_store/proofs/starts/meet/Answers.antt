use Rattle.archive_store.proofs.Names.{ap, sym, ◌∙◌, ◌∷◌, Mark, has_start}
use Rattle.archive_store.proofs.JoinLemmas.{meets-put}
use Rattle.archive_store.proofs.starts.meet.Goals as goal

pub returns-in_ok-insert-in-Put : goal.returns-in_ok-insert-in-Put
returns-in_ok-insert-in-Put c = λ m h a y.
    meets-put c.args.met.now.entries.entries c.insert.new.self.entries m c.in-Put.object c.in-Put.start c.in-Put.field-2 c.in_ok-insert-in-Put.ensures.updates.0 h a y
    ∙ ap (λ (f : Mark). has_start a y (f ∷ m)) (sym c.in-Put.is)
