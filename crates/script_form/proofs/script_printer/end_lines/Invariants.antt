use Rattle.script_form.proofs.Names.{◌≡◌, ◌≤◌, ◌-◌, ◌++◌, replicate}
use Rattle.script_form.proofs.script_printer.end_lines.Given as goal

abbrev pub invariant-lines : goal.invariant-lines
invariant-lines l = record {
  text : l.out.items ≡ l.initial.out.items ++ replicate (l.at - l.next) 10;
  at : l.next ≤ l.at;
  end : l.at - l.next ≤ l.line - l.next;
}

abbrev pub decreases-lines : goal.decreases-lines
decreases-lines l = l.line - l.at
