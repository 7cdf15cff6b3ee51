use Rattle.serial_law.proofs.Traces.{place-above}
use Rattle.serial_law.proofs.laws.law_clocks.Goals as goal

pub returns : goal.returns
returns c = place-above
