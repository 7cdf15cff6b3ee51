use Rattle.report_writer.proofs.Names.{◌≡◌, ◌++◌, take, flat_map, try_text}
use Rattle.report_writer.proofs.writing.push_tries.Given as goal

abbrev pub invariant-loop-attempt : goal.invariant-loop-attempt
invariant-loop-attempt l = l.out.items ≡ l.initial.out.items ++ flat_map try_text (take l.attempt-index l.tries)
