use Rattle.watch_command.proofs.Names.{reverse, subst, sym, AreEffects}
use Rattle.watch_command.proofs.WatchLemmas.{opened-stands, opened-written, shut-comes}
use Rattle.watch_command.proofs.watching.watch_opened.Goals as goal

pub prepare-requires-clause-log : goal.prepare-requires-clause-log
prepare-requires-clause-log g c =
    subst AreEffects (sym c.as_slice.ensures.value)
    (opened-stands g.M.Medium c.args.repository c.args.rule (reverse c.args.marks.now) c.args.opening c.in-Open.store c.in-Open.effects c.in-Open.is c.requires.stands).1

pub add_puts-outcome-requires-clause-open : goal.add_puts-outcome-requires-clause-open
add_puts-outcome-requires-clause-open g c = (opened-stands g.M.Medium c.args.repository c.args.rule (reverse c.args.marks.now) c.args.opening c.in-Open.store c.in-Open.effects c.in-Open.is c.requires.stands).0

pub returns-in-Ok : goal.returns-in-Ok
returns-in-Ok g c =
    opened-written g.M.Medium c.args.repository c.args.rule (reverse c.args.marks.now) c.args.opening c.in-Open.store c.in-Open.effects c.as_slice.result.now c.in-Ok.prepared.puts.items c.in-Ok.prepared.text
    c.add_puts-outcome.result.0 c.add_puts-outcome.result.1 c.in-Open.is c.as_slice.ensures.value c.requires.stands c.in-Ok.ensures.ready c.add_puts-outcome.ensures

pub returns-in-Shut : goal.returns-in-Shut
returns-in-Shut g c =
    shut-comes g.M.Medium c.args.repository c.args.rule (reverse c.args.marks.now) c.args.opening c.in-Shut.medium c.in-Shut.cause c.down_watch_line.result c.fallen.result c.in-Shut.is c.down_watch_line.ensures c.fallen.ensures
