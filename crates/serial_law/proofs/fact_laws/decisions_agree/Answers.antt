use Rattle.serial_law.proofs.Traces.{decided-home, same-decision, never-both, learned-there}
use Rattle.serial_law.proofs.fact_laws.decisions_agree.Goals as goal

pub returns-clause-home : goal.returns-clause-home
returns-clause-home c = decided-home

pub returns-clause-once : goal.returns-clause-once
returns-clause-once c = same-decision

pub returns-clause-apart : goal.returns-clause-apart
returns-clause-apart c = never-both

pub returns-clause-learned : goal.returns-clause-learned
returns-clause-learned c = learned-there
