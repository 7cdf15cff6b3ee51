use Rattle.object_history.proofs.KeptLemmas.{reach-none, reach-some}
use Rattle.object_history.proofs.plain.PlainHistories.reach.Goals as goal

pub returns-in-Some : goal.returns-in-Some
returns-in-Some c =
    let i = c.self.inside in
    reach-some i.marks.items c.args.self.now i.floor c.args.object _ c.in-Some.floor c.later.result c.read_to-read.result c.self.invariant.floors c.self.view_is c.in-Some.is c.later.ensures c.read_to-read.ensures

pub returns-in-None : goal.returns-in-None
returns-in-None c =
    let i = c.self.inside in
    reach-none i.marks.items c.args.self.now i.floor c.args.object _ c.read_to-read.result c.self.invariant.floors c.self.view_is c.in-None.is c.read_to-read.ensures
