use Rattle.trace_report.proofs.Names.{IfOk, AreDecided, logs_by, run_over, ◌≡◌, refl, subst, sym}
use Rattle.trace_report.proofs.FinalLemmas.{finals-are}
use Rattle.trace_report.proofs.finals.finals_of.Goals as goal

pub returns : goal.returns
returns c =
    let run = run_over c.args.plan.now (logs_by c.args.logs.now) in
    let decided = subst (AreDecided run) (sym c.as_slice.ensures.value) (c.in_ok-firsts.ensures run refl (λ n. refl)) in
    subst (λ z. IfOk c.into_finals.result (λ finals. finals.items ≡ z))
    (finals-are run c.add_logs.new.self (c.in_ok-add_logs.ensures run (λ n. refl) decided (c.new-last.ensures run)) c.into_finals.ensures.rising)
    c.into_finals.ensures.items
