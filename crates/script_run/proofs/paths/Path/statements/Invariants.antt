use Rattle.script_run.proofs.Names.{◌≡◌, take, reverse}
use Rattle.script_run.specs.Standings as spec
use Rattle.script_run.proofs.paths.Path.statements.Given as goal

-- the frames walked so far lead to this part
abbrev pub invariant-loop-frame : goal.invariant-loop-frame
invariant-loop-frame l = l.part ≡ (spec.inner l.script (reverse (take l.frame-index l.frame-items))).statements
