use Rattle.std.proofs.Common.{◌≡◌, drop}
use Rattle.std.specs.List.{list_any}
use Rattle.run_command.specs.Parts as spec
use Rattle.run_command.proofs.parts.some_falls.Given as goal

-- none of those so far is the node's
abbrev pub invariant-loop-entry : goal.invariant-loop-entry
invariant-loop-entry l = list_any (spec.falls l.node) l.entries ≡ list_any (spec.falls l.node) (drop l.entry-index l.entries)
