use Rattle.object_header.proofs.Names.{AreMarks, odd_in, kept_of, marks, ◌≡◌, reverse, take}
use Rattle.object_header.proofs.keeping.keep_effects.Given as goal

-- the marks of those so far are kept
abbrev pub invariant-loop-effect : goal.invariant-loop-effect
invariant-loop-effect l = record {
  kept : reverse l.kept.items ≡ kept_of (odd_in l.heads) (marks (reverse (take l.effect-index l.effects)));
  range : AreMarks (reverse l.kept.items);
}
