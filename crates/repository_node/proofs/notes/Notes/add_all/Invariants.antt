use Rattle.std.proofs.Common.{◌≡◌, ◌++◌, ◌&&◌, take}
use Rattle.repository_node.specs.Doubts.{given, is_plain}
use Rattle.repository_node.proofs.notes.Notes.add_all.Given as goal

abbrev pub invariant-loop-effect : goal.invariant-loop-effect
invariant-loop-effect l = record {
  given : l.self.given.items ≡ l.initial.self.given.items ++ given l.repository (take l.effect-index l.effects);
  plain : l.self.is_plain ≡ (l.initial.self.is_plain && is_plain l.repository (take l.effect-index l.effects));
  whole : l.self.is_whole ≡ l.initial.self.is_whole;
}
