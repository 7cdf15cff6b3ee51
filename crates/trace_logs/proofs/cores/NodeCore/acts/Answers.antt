use Rattle.trace_logs.proofs.Names.{AreBrokerActs, Scripted, StandsFor, acts_for, ap, arith, subst, sym, ◌∙◌}
use Rattle.trace_logs.proofs.cores.NodeCore.acts.Goals as goal

pub returns-in-Repository-clause-own : goal.returns-in-Repository-clause-own
returns-in-Repository-clause-own c b n log mind s =
    let h = subst (StandsFor b n log mind) c.in-Repository.is s in
    (c.new.ensures.items ∙ sym (ap (λ k. acts_for k n.number b.acts) h.kind), subst (Scripted b.script) (sym c.new.ensures.items) tt)

pub returns-in-Repository-clause-in_range : goal.returns-in-Repository-clause-in_range
returns-in-Repository-clause-in_range c = subst AreBrokerActs (sym c.new.ensures.items) (record { each = tt; few = omega arith })

pub returns-in_ok-acts-in-Broker-clause-own : goal.returns-in_ok-acts-in-Broker-clause-own
returns-in_ok-acts-in-Broker-clause-own c b n log mind s =
    let h = subst (StandsFor b n log mind) c.in-Broker.is s in
    let is = c.in_ok-acts-in-Broker.ensures ∙ c.acts.ensures.acts in
    (is ∙ h.acts ∙ sym (ap (λ k. acts_for k n.number b.acts) h.kind), subst (Scripted b.script) (sym is) h.scripted)

pub returns-in_ok-acts-in-Broker-clause-in_range : goal.returns-in_ok-acts-in-Broker-clause-in_range
returns-in_ok-acts-in-Broker-clause-in_range c = subst AreBrokerActs (sym c.in_ok-acts-in-Broker.ensures) c.acts.ensures.are_acts
