use Rattle.std.proofs.Common.{◌≡◌, drop}
use Rattle.script_meaning.specs.Keys.{key}
use Rattle.script_meaning.specs.Names.{name_value}
use Rattle.script_meaning.proofs.names.Names.get.Given as goal

-- the name's value among what is left is its value
abbrev pub invariant-loop-entry : goal.invariant-loop-entry
invariant-loop-entry l = record {
  value : name_value (drop l.entry-index l.entry-items) l.name ≡ name_value l.entry-items l.name;
  key : l.key ≡ key l.name;
}
