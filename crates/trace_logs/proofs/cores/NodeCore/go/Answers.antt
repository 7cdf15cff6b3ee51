use Rattle.broker_core.specs.Turns as desks
use Rattle.trace_logs.proofs.Names.{Going, StandsFor, rules, refl, subst}
use Rattle.trace_logs.proofs.CoreLemmas.{repository-still, broker-answers}
use Rattle.trace_logs.proofs.cores.NodeCore.go.Goals as goal

pub returns-in-Repository : goal.returns-in-Repository
returns-in-Repository c = record {
  gave = λ b n log mind s.
      repository-still b n log mind c.in-Repository.core c.quiet.result Going refl (subst (StandsFor b n log mind) c.in-Repository.is s) c.quiet.ensures;
  kind = search rules;
  able = search rules;
  in_range = search rules;
}

pub returns-in-Broker : goal.returns-in-Broker
returns-in-Broker c = record {
  gave = λ b n log mind s.
      broker-answers b n log mind c.in-Broker.core c.go.new.self c.go.result (desks.Go) (Going) refl (subst (StandsFor b n log mind) c.in-Broker.is s)
      c.go.ensures.gives;
  kind = search rules;
  able = search rules;
  in_range = search rules;
}
