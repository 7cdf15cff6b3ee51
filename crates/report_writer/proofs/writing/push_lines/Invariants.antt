use Rattle.report_writer.proofs.Names.{◌≡◌, ◌++◌, take, flat_map}
use Rattle.report_writer.specs.Parts.{line_text}
use Rattle.report_writer.proofs.writing.push_lines.Given as goal

abbrev pub invariant-loop-line : goal.invariant-loop-line
invariant-loop-line l = l.out.items ≡ l.initial.out.items ++ flat_map line_text (take l.line-index l.lines)
