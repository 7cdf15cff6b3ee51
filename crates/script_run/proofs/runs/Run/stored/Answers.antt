use Rattle.std.proofs.Common.{Some, sym, ap, ◌∙◌}
use Rattle.script_run.proofs.RunLemmas.{stores_next, stored_view}
use Rattle.script_run.proofs.runs.Run.stored.Goals as goal

pub invariant_of-self : goal.invariant_of-self
invariant_of-self c =
    let i = c.self.inside in
    let is = sym c.replace.ensures.value ∙ c.in-Some-Write.is ∙ ap Some c.in-Some-Write.field-0-is in
    stores_next i.script.lines i.machine c.pass.new.self i.waiting i.stop c.replace.new.dest c.in-Some-Write.object c.in-Some-Write.value c.push_reserved.new.self c.self.invariant is c.push_reserved.ensures.items c.pass.ensures c.replace.ensures.after

pub returns-in-Some-Write : goal.returns-in-Some-Write
returns-in-Some-Write c = λ o a said.
    let i = c.self.inside in
    let is = sym c.replace.ensures.value ∙ c.in-Some-Write.is ∙ ap Some c.in-Some-Write.field-0-is in
    stored_view i.script.lines i.machine c.pass.new.self i.stop c.replace.new.dest c.args.self.now o c.in-Some-Write.object a c.in-Some-Write.value c.push_reserved.new.self c.self.view_is is said c.push_reserved.ensures.items c.pass.ensures c.replace.ensures.after
