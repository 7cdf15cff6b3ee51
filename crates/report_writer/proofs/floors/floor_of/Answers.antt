use Rattle.report_writer.proofs.Names.{refl, floor_of}
use Rattle.report_writer.proofs.floors.floor_of.Goals as goal

-- of no effects there is none
pub loop-effect-init : goal.loop-effect-init
unfolding floor_of
loop-effect-init c = refl
