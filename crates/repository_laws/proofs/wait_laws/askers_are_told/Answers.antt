use Rattle.repository_laws.proofs.TurnLemmas.{asker-told, askers-open}
use Rattle.repository_laws.proofs.AskServices.{ask-serves}
use Rattle.repository_laws.proofs.wait_laws.askers_are_told.Goals as goal

pub returns-clause-told : goal.returns-clause-told
returns-clause-told c = asker-told

pub returns-clause-kept : goal.returns-clause-kept
returns-clause-kept c = askers-open

pub returns-clause-asked : goal.returns-clause-asked
returns-clause-asked c = ask-serves
