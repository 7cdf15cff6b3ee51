use Rattle.repository_core.specs.Turns as turns
use Rattle.broker_core.specs.Turns as desks
use Rattle.trace_logs.proofs.Names.{Taking, StandsFor, rules, refl, subst}
use Rattle.trace_logs.proofs.CoreLemmas.{repository-answers, broker-answers}
use Rattle.trace_logs.proofs.cores.NodeCore.take.Goals as goal

pub returns-in-Repository : goal.returns-in-Repository
returns-in-Repository c = record {
  gave = λ b n log mind s.
      repository-answers b n log mind c.in-Repository.core c.take.new.self c.take.result c.wanted.result (turns.Taking c.args.from c.args.message.now) (Taking c.args.from c.args.message.now) refl (subst (StandsFor b n log mind) c.in-Repository.is s)
      (c.take.ensures.gives refl) c.take.ensures.called.log c.take.ensures.called.number c.wanted.ensures.ok;
  kind = search rules;
  able = search rules;
  in_range = search rules;
}

pub returns-in-Broker : goal.returns-in-Broker
returns-in-Broker c = record {
  gave = λ b n log mind s.
      broker-answers b n log mind c.in-Broker.core c.take-in-Broker.new.self c.take-in-Broker.result (desks.Take c.args.from c.args.message.now) (Taking c.args.from c.args.message.now) refl (subst (StandsFor b n log mind) c.in-Broker.is s)
      c.take-in-Broker.ensures.gives;
  kind = search rules;
  able = search rules;
  in_range = search rules;
}
