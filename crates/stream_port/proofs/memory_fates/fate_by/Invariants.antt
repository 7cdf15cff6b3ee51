use Rattle.std.proofs.Common.{◌≡◌, drop}
use Rattle.stream_port.specs.Fates.{ruled}
use Rattle.stream_port.proofs.memory_fates.fate_by.Given as goal

abbrev pub invariant-loop-rule : goal.invariant-loop-rule
invariant-loop-rule l = ruled (drop l.rule-index l.rules) l.tag l.nth ≡ ruled l.rules l.tag l.nth
