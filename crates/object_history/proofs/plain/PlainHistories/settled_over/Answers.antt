use Rattle.object_history.proofs.Names.{sym, ap, ◌∙◌, option_copied}
use Rattle.object_history.proofs.LookLemmas.{over-some, over-none}
use Rattle.object_history.proofs.plain.PlainHistories.settled_over.Goals as goal

pub returns-in-Some : goal.returns-in-Some
returns-in-Some c =
    let i = c.self.inside in
    c.has_firm.ensures ∙ over-some i.marks.items c.args.self.now i.settles i.tracks c.args.object c.in-Some.track.now (option_copied c.args.seen) c.start_of-start.result c.self.invariant.kept c.self.view_is
    (sym (ap option_copied c.in-Some.is) ∙ c.get.ensures) c.start_of-start.ensures

pub returns-in-None : goal.returns-in-None
returns-in-None c =
    let i = c.self.inside in
    over-none i.marks.items c.args.self.now i.settles i.tracks c.args.object (option_copied c.args.seen) c.self.invariant.kept c.self.view_is (sym (ap option_copied c.in-None.is) ∙ c.get.ensures)
