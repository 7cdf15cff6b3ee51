use Rattle.run_command.proofs.SightLemmas.{sees-over}
use Rattle.run_command.proofs.laws.law_of_finished_runs.Goals as goal

pub returns : goal.returns
returns c = sees-over c.law_before.ensures.places c.law_of_late_attempts.ensures
