use Rattle.world_facts.proofs.EarlierLemmas.{replaced-older, runs-alone, runs-are, runs-keep, runs-leave, runs-sent}
use Rattle.world_facts.proofs.laws.runs_replace_nothing.Goals as goal

pub returns-clause-older : goal.returns-clause-older
returns-clause-older c = replaced-older

pub returns-clause-are : goal.returns-clause-are
returns-clause-are c = runs-are

pub returns-clause-leave : goal.returns-clause-leave
returns-clause-leave c = runs-leave

pub returns-clause-replace : goal.returns-clause-replace
returns-clause-replace c = runs-keep

pub returns-clause-alone : goal.returns-clause-alone
returns-clause-alone c = runs-alone

pub returns-clause-sent : goal.returns-clause-sent
returns-clause-sent c = runs-sent
