use Rattle.broker_node.proofs.Names.{refl, ap, arith, all_effects, sym, subst, ◌∙◌, Scripted, broker, Taking}
use Rattle.broker_core.specs.Parts.{BrokerParts}
use Rattle.broker_core.specs.Turns as desks
use Rattle.node_turn.specs.WorldCores.{IsBroker}
use Rattle.broker_node.proofs.CoreLemmas.{gave-broker}
use Rattle.broker_node.proofs.cores.BrokerCoreStoredCore.take.Goals as goal

pub returns : goal.returns
returns g c = record {
  given = record {
    same = record { node = refl; run = λ b f. let acts = c.take.ensures.acts ∙ ap (λ (x : BrokerParts). x.acts) c.as_mut-broker.ensures.value in (f.0, acts ∙ f.1, subst (Scripted b.script) (sym acts) f.2); later = omega arith };
    able = c.requires.able;
    gave = λ t b l f s.
        let y = gave-broker b (broker c.args.self.now.number) l c.as_mut-broker.result.now c.take.new.self (desks.Take c.args.from c.args.message.now) (Taking c.args.from c.args.message.now) c.in_ok-turn.turn refl (subst (IsBroker b (broker c.args.self.now.number) (all_effects l) l.mind) (sym c.as_mut-broker.ensures.value) s.0) c.in_ok-turn.ensures.gives in
        (y.0, (y.1, s.1));
    owed = λ es o. tt;
    in_range = c.in_ok-turn.ensures.in_range;
    still = λ t. refl;
    stages_still = λ t. refl;
    images = λ t i left. left;
    cause = λ e. absurd (cc e);
    sound = λ t. tt;
  };
}
