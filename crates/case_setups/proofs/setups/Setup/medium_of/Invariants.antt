use Rattle.std.proofs.Common.{◌≡◌, false}
use Rattle.medium_port.specs.MemoryMedia.{failed_in}
use Rattle.case_setups.proofs.setups.Setup.medium_of.Given as goal

abbrev pub invariant-loop-patch : goal.invariant-loop-patch
invariant-loop-patch l = failed_in l.medium ≡ false
