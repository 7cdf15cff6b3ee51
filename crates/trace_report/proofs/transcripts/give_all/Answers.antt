use Rattle.trace_report.proofs.TranscriptLemmas.{stopped-early}
use Rattle.trace_report.proofs.transcripts.give_all.Goals as goal

pub returns-then-not-gave-clause-talked : goal.returns-then-not-gave-clause-talked
returns-then-not-gave-clause-talked c =
    stopped-early c.args.run.now.script c.args.run.now.answers c.loop-answer.run c.give.new.run c.args.answers.now c.loop-answer.answer-index c.answer-item.result c.in_ok-gave.gave
    c.loop-answer.invariant.0 c.loop-answer.invariant.1 c.loop-answer-test.true c.answer-item.is c.if-not-gave.true c.in_ok-gave.ensures.gave
