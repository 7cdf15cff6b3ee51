use Rattle.std.proofs.Common.{◌≡◌, drop}
use Rattle.session_form.specs.Heights.{with_log}
use Rattle.session_form.proofs.heights.with_log.Given as goal

-- as far as what is left of the log takes it
abbrev pub invariant-loop-effect : goal.invariant-loop-effect
invariant-loop-effect l = with_log l.reached (drop l.effect-index l.log) ≡ with_log l.fn.heights l.log
