use Rattle.std.proofs.Common.{◌≡◌, ◌++◌, length, map, reverse}
use Rattle.log_replay.specs.Folders.{items_of}
use Rattle.replay_command.proofs.logs.logs_of.Given as goal

-- those that are left, and those that were taken from behind
abbrev pub invariant-loop-node : goal.invariant-loop-node
invariant-loop-node l = map (λ n. n.effects) l.left.items ++ reverse (items_of l.logs.items) ≡ map (λ n. n.effects) l.fn.nodes.items

abbrev pub decreases-loop-node : goal.decreases-loop-node
decreases-loop-node l = length l.left.items
