use Rattle.repository_core.proofs.Names.{reverse, opened-agrees}
use Rattle.repository_core.proofs.openings.open_books.Goals as goal

pub returns-clause-agreed : goal.returns-clause-agreed
returns-clause-agreed c = opened-agrees (reverse c.args.effects.now) _ _ c.in_ok-records.ensures.records c.in_ok-records.ensures.early
