use Rattle.trace_report.proofs.Names.{sym, ◌∙◌, value-given}
use Rattle.trace_report.proofs.TranscriptLemmas.{asks-read, asks-no-read}
use Rattle.trace_report.proofs.transcripts.give_value.Goals as goal

pub returns-then-not-asks_read-clause-gave : goal.returns-then-not-asks_read-clause-gave
returns-then-not-asks_read-clause-gave c = (
  c.next.ensures.answers,
  asks-no-read c.args.run.now.script c.args.run.now.answers c.next.new.self.lines c.in_ok-next.next c.in_ok-next.ensures.tells c.args.value.now (sym c.asks_read.ensures ∙ c.if-not-asks_read.true),
)

pub returns-clause-script : goal.returns-clause-script
returns-clause-script c =
    (value-given c.args.run.now c.next.new.self c.in_ok-next.next c.give.new.self c.args.value.now c.in_ok-value.value c.in_ok-next.ensures.tells c.in_ok-next.ensures.said c.next.ensures.script c.next.ensures.answers
    (asks-read c.args.run.now.script c.args.run.now.answers c.next.new.self.lines c.in_ok-next.next c.in_ok-next.ensures.tells c.args.value.now (sym c.asks_read.ensures ∙ c.if-not-asks_read.false))
    c.in_ok-value.ensures c.give.ensures).0

pub returns-clause-gave : goal.returns-clause-gave
returns-clause-gave c =
    (value-given c.args.run.now c.next.new.self c.in_ok-next.next c.give.new.self c.args.value.now c.in_ok-value.value c.in_ok-next.ensures.tells c.in_ok-next.ensures.said c.next.ensures.script c.next.ensures.answers
    (asks-read c.args.run.now.script c.args.run.now.answers c.next.new.self.lines c.in_ok-next.next c.in_ok-next.ensures.tells c.args.value.now (sym c.asks_read.ensures ∙ c.if-not-asks_read.false))
    c.in_ok-value.ensures c.give.ensures).1
