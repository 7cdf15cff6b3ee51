use Rattle.std.proofs.Common.{reverse}
use Rattle.watch_command.proofs.RangeLemmas.{refusal-plain, totals-range}
use Rattle.watch_command.proofs.WatchLemmas.{ready-of, stops-for}
use Rattle.watch_command.proofs.preparing.prepare.Goals as goal

pub refusal-requires : goal.refusal-requires
refusal-requires c = refusal-plain c.args.rule (reverse c.args.marks.now) c.args.log.now c.in-Err.fault c.requires.unretired c.in-Err.ensures.refused

pub returns-in-Err-clause-stops : goal.returns-in-Err-clause-stops
returns-in-Err-clause-stops c = stops-for c.args.repository c.args.rule (reverse c.args.marks.now) c.args.log.now c.in-Err.fault c.refusal.result c.in-Err.ensures.refused c.refusal.ensures

pub returns-in-Ok-clause-ready : goal.returns-in-Ok-clause-ready
returns-in-Ok-clause-ready c =
    ready-of c.args.repository c.args.rule (reverse c.args.marks.now) c.args.log.now c.in-Ok.totals.list.items (λ p. p.puts.items) (λ p. p.text) c.written.result c.in-Ok.ensures.totals
    (c.written.ensures.puts c.args.log.now c.in-Ok.ensures.cursors)
    (c.written.ensures.in_range (totals-range c.args.rule (reverse c.args.marks.now) c.args.log.now c.in-Ok.totals.list.items c.requires.unretired c.requires.marks c.requires.log c.in-Ok.ensures.totals))
    c.written.ensures.text
