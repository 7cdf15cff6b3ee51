use Rattle.swallow_top.proofs.Names.{IfOk, history_text, down_text, node_log, logs_of, home_of, sinking, ◌≡◌, subst}
use Rattle.swallow_top.proofs.HistoryLemmas.{open-told, shut-told}
use Rattle.run_command.proofs.TextLemmas.{tells-text}
use Rattle.swallow_top.proofs.histories.tell_volumes.Goals as goal

pub returns-in-Open : goal.returns-in-Open
returns-in-Open g c =
    let s = sinking (g.O.Sink.taken c.args.sink.now) (g.O.Sink.taken c.tell_text.new.sink) (g.O.Sink.faults c.args.sink.now) (g.O.Sink.faults c.tell_text.new.sink) in
    let text = subst (λ l. IfOk c.history.result (λ t. t ≡ history_text c.args.object l)) c.node_log.ensures c.history.ensures in
    open-told c.args.object c.args.openings.now c.tell_text.result s c.in-Open.ensures
    (tells-text c.history.result (history_text c.args.object (node_log (logs_of c.args.openings.now))) 0 c.tell_text.result s text c.tell_text.ensures)

pub returns-in-Shut : goal.returns-in-Shut
returns-in-Shut g c =
    let s = sinking (g.O.Sink.taken c.args.sink.now) (g.O.Sink.taken c.tell_text-in-Shut.new.sink) (g.O.Sink.faults c.args.sink.now) (g.O.Sink.faults c.tell_text-in-Shut.new.sink) in
    let line = subst (λ n. IfOk c.down_line.result (λ t. t ≡ down_text (record { node = n; cause = c.in-Shut.cause }))) c.repository-node.ensures c.down_line.ensures in
    shut-told c.args.object c.args.openings.now c.tell_text-in-Shut.result s c.in-Shut.cause c.in-Shut.ensures
    (tells-text c.down_line.result (down_text (record { node = home_of c.args.object; cause = c.in-Shut.cause })) 6 c.tell_text-in-Shut.result s line c.tell_text-in-Shut.ensures)
