use Rattle.trace_logs.proofs.Names.{rules, refl, subst, Learning, StandsFor}
use Rattle.repository_core.specs.Turns as turns
use Rattle.trace_logs.proofs.CoreLemmas.{repository-answers, broker-still}
use Rattle.trace_logs.proofs.cores.NodeCore.learn.Goals as goal

pub returns-in-Repository : goal.returns-in-Repository
returns-in-Repository c = record {
  gave = λ b n log mind s.
      repository-answers b n log mind c.in-Repository.core c.learn.new.self c.learn.result c.wanted.result (turns.Learning c.args.stamp c.args.committed) (Learning c.args.stamp c.args.committed) refl (subst (StandsFor b n log mind) c.in-Repository.is s)
      (c.learn.ensures.gives refl) c.learn.ensures.called.log c.learn.ensures.called.number c.wanted.ensures.ok;
  kind = search rules;
  able = search rules;
  in_range = search rules;
}

pub returns-in-Broker : goal.returns-in-Broker
returns-in-Broker c = record {
  gave = λ b n log mind s.
      broker-still b n log mind c.in-Broker.core c.quiet.result (Learning c.args.stamp c.args.committed) refl (subst (StandsFor b n log mind) c.in-Broker.is s) c.quiet.ensures;
  kind = search rules;
  able = search rules;
  in_range = search rules;
}
