use Rattle.serial_law.proofs.Traces.{place-serial-facts}
use Rattle.serial_law.proofs.fact_laws.law_facts.Goals as goal

pub returns : goal.returns
returns c = place-serial-facts
