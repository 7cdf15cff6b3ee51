use Rattle.std.proofs.Common.{Some, sym, ap, ◌∙◌}
use Rattle.script_run.proofs.RunLemmas.{gives_next, given_view}
use Rattle.script_run.proofs.runs.Run.give.Goals as goal

pub invariant_of-self : goal.invariant_of-self
invariant_of-self c =
    let i = c.self.inside in
    let is = sym c.replace.ensures.value ∙ c.in-Some-Read.is ∙ ap Some c.in-Some-Read.field-0-is in
    gives_next i.script.lines i.machine c.pass.new.self i.waiting i.stop c.replace.new.dest c.in-Some-Read.name c.in-Some-Read.object c.args.value c.push_reserved.new.self c.self.invariant is c.push_reserved.ensures.items c.pass.ensures c.replace.ensures.after

pub returns-in-Some-Read : goal.returns-in-Some-Read
returns-in-Some-Read c = λ o said.
    let i = c.self.inside in
    let is = sym c.replace.ensures.value ∙ c.in-Some-Read.is ∙ ap Some c.in-Some-Read.field-0-is in
    given_view i.script.lines i.machine c.pass.new.self i.stop c.replace.new.dest c.args.self.now c.in-Some-Read.name o c.in-Some-Read.object c.args.value c.push_reserved.new.self c.self.view_is is said c.push_reserved.ensures.items c.pass.ensures c.replace.ensures.after
