use Rattle.std.proofs.Common.{◌≡◌, drop}
use Rattle.script_meaning.specs.Keys.{key_on}
use Rattle.script_meaning.proofs.names.key_of.Given as goal

-- the key so far, with the bytes that are left, is the key of the whole
abbrev pub invariant-loop-byte : goal.invariant-loop-byte
invariant-loop-byte l = key_on l.key (drop l.byte-index l.name) ≡ key_on 0 l.name
