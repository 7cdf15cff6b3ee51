use Rattle.report_writer.proofs.Names.{◌≡◌, ◌++◌, take, flat_map, final_text}
use Rattle.report_writer.proofs.writing.push_finals.Given as goal

abbrev pub invariant-loop-last : goal.invariant-loop-last
invariant-loop-last l = l.out.items ≡ l.initial.out.items ++ flat_map final_text (take l.last-index l.finals)
