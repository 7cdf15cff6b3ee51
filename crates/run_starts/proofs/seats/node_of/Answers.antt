use Rattle.run_starts.proofs.Names.{ap, ◌∙◌, knows, acts_of}
use Rattle.run_starts.proofs.SeatLemmas.{own-acts}
use Rattle.run_starts.proofs.seats.node_of.Goals as goal

pub open_broker-requires-clause-acts : goal.open_broker-requires-clause-acts
open_broker-requires-clause-acts g c =
    let is = c.in-Ok-own_acts.ensures ∙ ap (acts_of c.args.node.number) c.as_slice-in-Broker.ensures in
    own-acts c.args.plan.now c.args.start c.args.node c.args.effects.items (knows c.args.pass) c.requires.can c.in-Ok-own_acts.acts.items c.requires.plan is
