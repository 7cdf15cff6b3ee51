use Rattle.serial_law.proofs.Traces.{requests-right}
use Rattle.serial_law.proofs.fact_laws.requests_are_the_scripts.Goals as goal

pub returns : goal.returns
returns c = requests-right
