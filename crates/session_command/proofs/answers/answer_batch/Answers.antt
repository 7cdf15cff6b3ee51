use Rattle.std.proofs.Common.{Err, refl, inl, inr, subst, ap, ◌∙◌}
use Rattle.plan_form.specs.PlanFaults.{Parses}
use Rattle.plan_form.proofs.PlanTextLemmas.{plan_can_run}
use Rattle.run_command.specs.Written.{EndsIfAny, sinking}
use Rattle.session_form.specs.Sessions.{line_of}
use Rattle.session_command.specs.Lines.{fault_line}
use Rattle.session_command.proofs.KeptLemmas.{fault-whole}
use Rattle.session_command.proofs.answers.answer_batch.Goals as goal

pub returns-in-Err-Fault : goal.returns-in-Err-Fault
returns-in-Err-Fault g c whole kept =
    let k = g.O.Sink in
    let sunk = sinking (k.taken c.args.sink.now) (k.taken c.tell_fault.new.sink) (k.faults c.args.sink.now) (k.faults c.tell_fault.new.sink) in
    let told = subst (λ x. EndsIfAny c.tell_fault.result sunk 2 (fault_line c.session_line.result x)) c.in-Err-Fault.kind-is c.tell_fault.ensures in
    let at = c.session_line.ensures ∙ ap (line_of c.args.before) c.in-Err-Fault.line-is in
    inr (inl (
      c.in-Err-Fault.line,
      c.in-Err-Fault.kind,
      fault-whole c.args.text.now whole c.in-Err-Fault.line c.in-Err-Fault.kind kept (subst (λ x. Parses c.args.text.now (Err x)) c.in-Err-Fault.field-0-is c.in-Err-Fault.ensures),
      record { shelf = refl; asked = refl; answers = refl },
      subst (λ n. EndsIfAny c.tell_fault.result sunk 2 (fault_line n c.in-Err-Fault.kind)) at told,
    ))

pub run_held-requires-clause-plan : goal.run_held-requires-clause-plan
run_held-requires-clause-plan g c κs within = plan_can_run c.args.text.now c.in-Ok.plan c.in-Ok.ensures
