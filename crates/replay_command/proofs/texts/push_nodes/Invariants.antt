use Rattle.std.specs.Prelude.{◌≡◌, ◌++◌, drop}
use Rattle.replay_command.specs.Texts.{node_lines}
use Rattle.replay_command.proofs.texts.push_nodes.Given as goal

-- with the lines of those that are left it is all
abbrev pub invariant-loop-place : goal.invariant-loop-place
invariant-loop-place l = l.out.items ++ node_lines l.place (drop l.place l.nodes) ≡ l.initial.out.items ++ node_lines 0 l.nodes
