use Rattle.trace_report.proofs.Names.{◌≡◌, map, final_last}
use Rattle.trace_report.proofs.last_versions.LastVersions.into_finals.Given as goal

abbrev pub invariant-loop-object : goal.invariant-loop-object
invariant-loop-object l = l.finals.items ≡ map final_last l.yielded
