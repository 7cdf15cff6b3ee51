use Rattle.message_core.proofs.Names.{list_any, same_node}
use Rattle.message_core.proofs.StayLemmas.{made, kept-if, kept-map, gone, kept-sent}
use Rattle.message_core.proofs.laws.queues_stay.Goals as goal

pub returns-clause-start : goal.returns-clause-start
returns-clause-start c = λ nodes n. made (list_any (λ m. same_node m n) nodes)

pub returns-clause-sent : goal.returns-clause-sent
returns-clause-sent c = kept-sent

pub returns-clause-taken : goal.returns-clause-taken
returns-clause-taken c = λ s node n. kept-if (same_node node n) _ (s.queues n)

pub returns-clause-passed : goal.returns-clause-passed
returns-clause-passed c = λ s n. kept-map _ (s.queues n)

pub returns-clause-shut : goal.returns-clause-shut
returns-clause-shut c = λ s node n. gone (same_node node n) (s.queues n)
