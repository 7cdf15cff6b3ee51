use Rattle.std.proofs.Common.{◌∙◌}
use Rattle.trace_report.proofs.TranscriptLemmas.{told-lines, transcript-is}
use Rattle.trace_report.proofs.transcripts.transcript.Goals as goal

pub returns : goal.returns
returns c =
    c.of.ensures ∙ c.in_ok-lines.ensures ∙ c.transcript.ensures
    ∙ told-lines c.give_all.new.run.script c.give_all.new.run.answers c.next.new.self.lines c.in_ok-_next._next c.in_ok-_next.ensures.tells
    ∙ transcript-is c.args.script.now.lines c.in_ok-run.run' c.give_all.new.run c.args.answers.now c.in_ok-run.ensures c.in_ok-give_all.ensures.script c.in_ok-give_all.ensures.talked
