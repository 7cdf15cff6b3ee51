use Rattle.std.proofs.Common.{◌++◌, reverse, arith, ap, sym, ◌∙◌}
use Rattle.log_replay.specs.Folders.{items_of}
use Rattle.log_replay.proofs.UnfitLemmas.{none-left}
use Rattle.replay_command.proofs.LogLemmas.{effects_of, turned-items}
use Rattle.replay_command.proofs.logs.logs_of.Goals as goal

pub returns : goal.returns
returns c =
    let left = c.loop-node.left.ok in
    let none = none-left c.loop-node.left.items (λ low. c.in_default.ensures.variant.1 (omega (arith, low, left))) in
    ap items_of c.reverse.ensures.items ∙ turned-items c.loop-node.logs.items ∙ ap (λ l. effects_of l ++ reverse (items_of c.loop-node.logs.items)) (sym none) ∙ c.loop-node.invariant
