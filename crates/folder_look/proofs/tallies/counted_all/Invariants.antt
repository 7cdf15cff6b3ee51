use Rattle.folder_look.proofs.Names.{◌≡◌, drop, counted_all}
use Rattle.folder_look.proofs.tallies.counted_all.Given as goal

-- those that are left are counted on
abbrev pub invariant-loop-effect : goal.invariant-loop-effect
invariant-loop-effect l = counted_all (drop l.effect-index l.effects) l.sum ≡ counted_all l.effects l.fn.tally
