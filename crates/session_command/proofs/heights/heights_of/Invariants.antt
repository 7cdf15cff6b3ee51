use Rattle.std.proofs.Common.{◌≡◌, drop}
use Rattle.session_command.specs.Above.{reached, reached_from}
use Rattle.session_command.proofs.heights.heights_of.Given as goal

-- as far as the logs that are left take it
abbrev pub invariant-loop-opening : goal.invariant-loop-opening
invariant-loop-opening g l = reached_from l.reached (drop l.opening-index l.openings) ≡ reached l.openings
