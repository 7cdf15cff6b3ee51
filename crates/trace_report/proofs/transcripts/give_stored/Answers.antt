use Rattle.trace_report.proofs.Names.{sym, ◌∙◌, stored-given}
use Rattle.trace_report.proofs.TranscriptLemmas.{asks-write, asks-no-write}
use Rattle.trace_report.proofs.transcripts.give_stored.Goals as goal

pub returns-then-not-asks_write-clause-gave : goal.returns-then-not-asks_write-clause-gave
returns-then-not-asks_write-clause-gave c = (
  c.next.ensures.answers,
  asks-no-write c.args.run.now.script c.args.run.now.answers c.next.new.self.lines c.in_ok-next.next c.in_ok-next.ensures.tells (sym c.asks_write.ensures ∙ c.if-not-asks_write.true),
)

pub returns-clause-script : goal.returns-clause-script
returns-clause-script c =
    (stored-given c.args.run.now c.next.new.self c.in_ok-next.next c.stored.new.self c.in_ok-next.ensures.tells c.in_ok-next.ensures.said c.next.ensures.script c.next.ensures.answers
    (asks-write c.args.run.now.script c.args.run.now.answers c.next.new.self.lines c.in_ok-next.next c.in_ok-next.ensures.tells (sym c.asks_write.ensures ∙ c.if-not-asks_write.false)) c.stored.ensures).0

pub returns-clause-gave : goal.returns-clause-gave
returns-clause-gave c =
    (stored-given c.args.run.now c.next.new.self c.in_ok-next.next c.stored.new.self c.in_ok-next.ensures.tells c.in_ok-next.ensures.said c.next.ensures.script c.next.ensures.answers
    (asks-write c.args.run.now.script c.args.run.now.answers c.next.new.self.lines c.in_ok-next.next c.in_ok-next.ensures.tells (sym c.asks_write.ensures ∙ c.if-not-asks_write.false)) c.stored.ensures).1
