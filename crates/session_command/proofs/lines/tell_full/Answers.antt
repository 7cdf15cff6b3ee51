use Rattle.run_command.specs.Written.{sinking}
use Rattle.run_command.proofs.TextLemmas.{tells-text}
use Rattle.session_command.specs.Lines.{full_line}
use Rattle.session_command.proofs.lines.tell_full.Goals as goal

pub returns : goal.returns
returns g c =
    let k = g.O.Sink in
    tells-text c.full_line.result full_line 2 c.tell_text.result (sinking (k.taken c.args.sink.now) (k.taken c.tell_text.new.sink) (k.faults c.args.sink.now) (k.faults c.tell_text.new.sink)) c.full_line.ensures c.tell_text.ensures
