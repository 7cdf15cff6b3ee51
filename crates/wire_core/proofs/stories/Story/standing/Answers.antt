use Rattle.wire_core.proofs.Names.{found_same, standing_at, ap, ◌∙◌}
use Rattle.wire_core.proofs.stories.Story.standing.Goals as goal

pub returns-in-Some : goal.returns-in-Some
returns-in-Some c =
    let s = c.args.self.now in
    c.standing.ensures ∙ ap (standing_at s.last s.ticks) (c.in-Some.ensures.value ∙ found_same s.nodes.entries c.args.node)
