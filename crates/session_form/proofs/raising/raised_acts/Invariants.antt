use Rattle.std.proofs.Common.{◌≡◌, ◌++◌, drop, map, take}
use Rattle.session_form.specs.Heights.{raised_act}
use Rattle.session_form.proofs.raising.raised_acts.Given as goal

-- the acts so far are raised
abbrev pub invariant-loop-place : goal.invariant-loop-place
invariant-loop-place l = l.acts.items ≡ map (raised_act l.clock) (take l.place l.fn.acts.items) ++ drop l.place l.fn.acts.items
