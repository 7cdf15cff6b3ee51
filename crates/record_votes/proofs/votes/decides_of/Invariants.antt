use Rattle.record_votes.proofs.Names.{◌≡◌, take, decides}
use Rattle.message_form.specs.Ranges.{AreEffects}
use Rattle.record_votes.proofs.votes.decides_of.Given as goal

abbrev pub invariant-loop-stamp : goal.invariant-loop-stamp
invariant-loop-stamp l = record {
  made : l.effects.items ≡ decides (take l.stamp-index l.due);
  in_range : AreEffects l.effects.items;
}
