use Rattle.wire_core.proofs.Names.{refl, Some}
use Rattle.wire_core.proofs.NodeMaps.{puts_of, one-opened}
use Rattle.wire_core.proofs.stories.nodes_with.Goals as goal

pub loop-name-preserved : goal.loop-name-preserved
loop-name-preserved c =
    let es = c.loop-name.nodes.entries in
    let fs = c.insert.new.self.entries in
    let w = c.as_opened.result in
    one-opened c.args.names.now c.loop-name.name-index _ _ w es fs c.loop-name-test.true refl c.as_opened.ensures (puts_of _ (Some w) es fs c.in_ok-insert.ensures.updates.0) c.loop-name.invariant
