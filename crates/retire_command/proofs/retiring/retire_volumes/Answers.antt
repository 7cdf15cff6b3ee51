use Rattle.std.proofs.Common.{subst, sym}
use Rattle.effect_form.specs.Effects.{AreEffects}
use Rattle.forward_copy.specs.Currents.{node_log}
use Rattle.run_volumes.specs.Volumes.{logs_of}
use Rattle.retire_command.specs.Retires.{Stops}
use Rattle.run_volumes.proofs.StandLemmas.{in-range}
use Rattle.retire_command.proofs.RetireLemmas.{stopped}
use Rattle.retire_command.proofs.retiring.retire_volumes.Goals as goal

pub prepare-requires-clause-ranges : goal.prepare-requires-clause-ranges
prepare-requires-clause-ranges g c = subst (λ l. AreEffects (node_log (logs_of l))) (sym c.as_slice.ensures.value) (in-range g.M.Medium c.args.openings.items c.requires.stands)

pub returns-in-Err-clause-came : goal.returns-in-Err-clause-came
returns-in-Err-clause-came g c =
    stopped g.M.Medium c.args.node c.args.mark c.args.openings.items c.give_back.result.items c.in-Err.retired c.requires.stands c.give_back.ensures.back
    (subst (λ l. Stops c.args.node c.args.mark l c.in-Err.retired) c.as_slice.ensures.value c.in-Err.ensures.stops)
