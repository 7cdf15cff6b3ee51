use Rattle.wire_core.proofs.Names.{found_same, is_idle_at, ap, ◌∙◌}
use Rattle.wire_core.proofs.stories.Story.is_idle_at.Goals as goal

pub returns-in-Some : goal.returns-in-Some
returns-in-Some c =
    let s = c.args.self.now in
    c.is_idle.ensures ∙ ap (is_idle_at s.last s.ticks c.args.node) (c.in-Some.ensures.value ∙ found_same s.nodes.entries c.args.node)
