use Rattle.folder_look.proofs.Names.{◌≡◌, drop}
use Rattle.folder_look.specs.Choices.{concerns}
use Rattle.folder_look.proofs.choices.Choice.concerns.Given as goal

-- none so far concerns it
abbrev pub invariant-loop-effect : goal.invariant-loop-effect
invariant-loop-effect l = concerns l.self l.touches l.stamp (drop l.effect-index l.rest) ≡ concerns l.self l.touches l.stamp l.rest
