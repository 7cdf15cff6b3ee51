use Rattle.repository_core.specs.Turns as turns
use Rattle.broker_core.specs.Turns as desks
use Rattle.trace_logs.proofs.Names.{Hearing, StandsFor, rules, refl, subst}
use Rattle.trace_logs.proofs.CoreLemmas.{repository-answers, broker-answers}
use Rattle.trace_logs.proofs.cores.NodeCore.hear.Goals as goal

pub returns-in-Repository : goal.returns-in-Repository
returns-in-Repository c = record {
  gave = λ b n log mind s.
      repository-answers b n log mind c.in-Repository.core c.hear.new.self c.hear.result c.wanted.result (turns.Hearing c.args.moment) (Hearing c.args.moment) refl (subst (StandsFor b n log mind) c.in-Repository.is s)
      (c.hear.ensures.gives refl) c.hear.ensures.called.log c.hear.ensures.called.number c.wanted.ensures.ok;
  kind = search rules;
  able = search rules;
  in_range = search rules;
}

pub returns-in-Broker : goal.returns-in-Broker
returns-in-Broker c = record {
  gave = λ b n log mind s.
      broker-answers b n log mind c.in-Broker.core c.hear-in-Broker.new.self c.hear-in-Broker.result (desks.Hear c.args.moment) (Hearing c.args.moment) refl (subst (StandsFor b n log mind) c.in-Broker.is s)
      c.hear-in-Broker.ensures.gives;
  kind = search rules;
  able = search rules;
  in_range = search rules;
}
