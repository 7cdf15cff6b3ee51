use Rattle.object_header.proofs.Names.{sym, subst, IsIndexed}
use Rattle.object_header.specs.Marks as marks
use Rattle.repository_log.specs.Logs as logs
use Rattle.object_header.proofs.additions.add_effect.Goals as goal

-- a Mark is a Floor
pub returns-in-Mark : goal.returns-in-Mark
returns-in-Mark c = record { ok = λ m is. subst (λ e. IsIndexed (marks.added (logs.mark_of e) m) c.args.index.now.settles c.args.index.now.heads) (sym c.in-Mark.is) (c.keeps_floor.ensures m is) }
