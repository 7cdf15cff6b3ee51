use Rattle.script_run.proofs.Names.{answers_of, ap, ◌∙◌}
use Rattle.script_run.proofs.RunLemmas.{nothing_said, went_on_as, stopped_as, stopped_tells}
use Rattle.script_run.proofs.runs.Run.run_on.Goals as goal

pub invariant_of-self-in_err-halt : goal.invariant_of-self-in_err-halt
invariant_of-self-in_err-halt c =
    let i = c.self.inside in
    let none = nothing_said i.script.lines i.machine i.stop c.args.self.now c.self.view_is c.requires in
    went_on_as i.script.lines c.as_slice.result.now i.machine c.settle.new.machine c.go.new.machine i.waiting c.settle.new.waiting i.stop c.self.invariant none c.in_ok-settle.ensures.ok c.as_slice.ensures c.in_err-halt.ensures

pub invariant_of-self-in_err-next : goal.invariant_of-self-in_err-next
invariant_of-self-in_err-next c =
    let i = c.self.inside in
    let none = nothing_said i.script.lines i.machine i.stop c.args.self.now c.self.view_is c.requires in
    went_on_as i.script.lines c.as_slice.result.now i.machine c.settle.new.machine c.go.new.machine i.waiting c.settle.new.waiting i.stop c.self.invariant none c.in_ok-settle.ensures.ok c.as_slice.ensures c.in_ok-halt.ensures.0

pub invariant_of-self-2 : goal.invariant_of-self-2
invariant_of-self-2 c =
    let i = c.self.inside in
    let none = nothing_said i.script.lines i.machine i.stop c.args.self.now c.self.view_is c.requires in
    stopped_as i.script.lines c.as_slice.result.now i.machine c.settle.new.machine c.go.new.machine i.waiting c.settle.new.waiting i.stop c.in_ok-halt.halt c.self.invariant none c.in_ok-settle.ensures.ok c.as_slice.ensures c.in_ok-halt.ensures

pub returns-clause-tells : goal.returns-clause-tells
returns-clause-tells c =
    let i = c.self.inside in
    let none = nothing_said i.script.lines i.machine i.stop c.args.self.now c.self.view_is c.requires in
    let run = stopped_as i.script.lines c.as_slice.result.now i.machine c.settle.new.machine c.go.new.machine i.waiting c.settle.new.waiting i.stop c.in_ok-halt.halt c.self.invariant none c.in_ok-settle.ensures.ok c.as_slice.ensures c.in_ok-halt.ensures in
    let same = c.in_ok-halt.ensures.0.answers ∙ ap (λ z. answers_of z.items) c.settle.ensures.lines in
    stopped_tells i.script.lines i.machine c.go.new.machine c.settle.new.waiting i.stop c.in_ok-halt.halt c.args.self.now c.in_ok-next.next run c.self.view_is same c.in_ok-next.ensures
