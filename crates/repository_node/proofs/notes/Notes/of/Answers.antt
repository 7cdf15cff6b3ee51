use Rattle.repository_node.proofs.Names.{[]}
use Rattle.repository_node.proofs.notes.Notes.of.Goals as goal

pub returns : goal.returns
returns c = c.follow.ensures [] (λ whole. c.new-notes.ensures)
