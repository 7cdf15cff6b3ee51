use Rattle.std.proofs.Common.{◌≡◌, ◌==◌, drop}
use Rattle.std.specs.Cmp.Lexicographic.{pointwise}
use Rattle.std.specs.List.{position_from}
use Rattle.script_meaning.specs.Keys.{key}
use Rattle.script_meaning.proofs.names.place_of.Given as goal

-- the place in what is left is the place in the whole
abbrev pub invariant-loop-entry : goal.invariant-loop-entry
invariant-loop-entry l = record {
  place : position_from (λ e. pointwise ◌==◌ e.0 l.name) l.index (drop l.entry-index l.entries) ≡ position_from (λ e. pointwise ◌==◌ e.0 l.name) 0 l.entries;
  index : l.index ≡ l.entry-index;
  key : l.key ≡ key l.name;
}
