use Rattle.repository_core.proofs.Names.{◌≡◌, [], subst, sym, OnOk, row}
use Rattle.repository_draft.specs.Message.{Message}
use Rattle.repository_core.proofs.works.Work.on_row.Goals as goal

pub returns-in-Read-clause-gives : goal.returns-in-Read-clause-gives
returns-in-Read-clause-gives g c = λ tells.
    subst (λ (m : Message). OnOk c.on_read.result (c.on_read.new.self.draft ≡ row c.args.self.now.draft c.args.from m)) (sym c.in-Read.is)
    (c.on_read.ensures.gives tells [] c.requires.agreed)
