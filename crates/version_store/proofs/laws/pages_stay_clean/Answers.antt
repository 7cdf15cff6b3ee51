use Rattle.version_store.proofs.CleanLemmas.{clean-joins, keeps-joins}
use Rattle.version_store.proofs.laws.pages_stay_clean.Goals as goal

pub returns-clause-clean : goal.returns-clause-clean
returns-clause-clean c = clean-joins

pub returns-clause-kept : goal.returns-clause-kept
returns-clause-kept c = keeps-joins
