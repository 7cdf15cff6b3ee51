use Rattle.report_writer.proofs.Names.{◌≡◌, ◌++◌, take, flat_map, act_text}
use Rattle.report_writer.proofs.writing.push_acts.Given as goal

abbrev pub invariant-loop-act : goal.invariant-loop-act
invariant-loop-act l = l.out.items ≡ l.initial.out.items ++ flat_map act_text (take l.act-index l.acts)
