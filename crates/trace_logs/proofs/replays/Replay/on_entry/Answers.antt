use Rattle.world_core.specs.declared.entries.Entry.TheVariants as entry
use Rattle.trace_logs.proofs.Names.{step, Shows, refl, sym, subst, Some}
use Rattle.trace_logs.proofs.WalkLemmas.{still}
use Rattle.trace_logs.proofs.replays.Replay.on_entry.Goals as goal

pub returns-in-Down-clause-shows : goal.returns-in-Down-clause-shows
returns-in-Down-clause-shows c b w h =
    subst (λ e. Shows b (step b w e) c.args.self.now) (sym c.in-Down.is) (still b w (entry.Down c.in-Down.node c.in-Down.cause) c.args.self.now c.args.self.now h (λ n. refl) refl refl refl h.sent h.last)

pub returns-in-Tick-clause-shows : goal.returns-in-Tick-clause-shows
returns-in-Tick-clause-shows c b w h =
    subst (λ e. Shows b (step b w e) (record c.args.self.now { last = Some c.in-Tick.moment })) (sym c.in-Tick.is)
    (still b w (entry.Tick c.in-Tick.moment) c.args.self.now (record c.args.self.now { last = Some c.in-Tick.moment }) h (λ n. refl) refl refl refl h.sent refl)
