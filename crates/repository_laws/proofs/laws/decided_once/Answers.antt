use Rattle.repository_laws.proofs.Logs.{decide-home, decide-cause, decided-once, learned-elsewhere}
use Rattle.repository_laws.proofs.laws.decided_once.Goals as goal

pub returns-clause-home : goal.returns-clause-home
returns-clause-home c = decide-home

pub returns-clause-cause : goal.returns-clause-cause
returns-clause-cause c = decide-cause

pub returns-clause-once : goal.returns-clause-once
returns-clause-once c = decided-once

pub returns-clause-elsewhere : goal.returns-clause-elsewhere
returns-clause-elsewhere c = learned-elsewhere
