use Rattle.serial_law.proofs.Before.{before-holds}
use Rattle.serial_law.proofs.Traces.{place-serial-facts}
use Rattle.serial_law.specs.Runs.{sent_before, whole_at}
use Rattle.serial_law.proofs.laws.law_before.Goals as goal

pub returns-clause-places : goal.returns-clause-places
returns-clause-places c p = before-holds (whole_at p) (sent_before p) (place-serial-facts p)

pub returns-clause-facts : goal.returns-clause-facts
returns-clause-facts c = before-holds
