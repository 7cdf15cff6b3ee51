use Rattle.run_volumes.proofs.StandLemmas.{stand-all}
use Rattle.retire_command.proofs.retiring.retire.Goals as goal

pub retire_volumes-retired-requires-clause-stands : goal.retire_volumes-retired-requires-clause-stands
retire_volumes-retired-requires-clause-stands g c =
    stand-all g.S.Medium.Medium c.open_volumes-openings.ensures.volumes.0 c.open_volumes-openings.result.items c.open_volumes-openings.ensures.volumes.1.opened
