use Rattle.std.proofs.Common.{sym, ◌∙◌}
use Rattle.object_header.proofs.PlanLemmas.{no-origin, no-shown}
use Rattle.object_header.proofs.indexes.Index.may_stand.Goals as goal

pub returns-in-Origin : goal.returns-in-Origin
returns-in-Origin c m v is apart = no-origin m _ _ c.args.object c.args.at v c.look.result c.requires.headed is c.look.ensures c.in-Origin.is

pub returns-in-Shown : goal.returns-in-Shown
returns-in-Shown c m v is apart = no-shown m _ _ c.args.object c.args.at v c.look.result c.in-Shown.span c.requires.headed is c.look.ensures c.in-Shown.is (sym apart ∙ c.is_same.ensures)
