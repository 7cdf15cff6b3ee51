-- What carrying forward leaves in a fresh volume.
use Rattle.std.specs.Prelude.{◌≡◌, true, List, [], Ok}
use Rattle.effect_form.specs.declared.effects.Effect.{Effect}
use Rattle.medium_port.specs.Image.{Image}
use Rattle.version_store.specs.Storage.{storage}
use Rattle.version_store.specs.Filling.{HasPrefix}
use Rattle.forward_copy.specs.Wholes.{has_whole}

-- a crash leaves a prefix of these effects: those that stand whole in the first of the call's pages. No Whole is among them, unless all are there.
pub record LeavesFront (effects : List Effect) (image : Image) : Type 0 where
  pub front : HasPrefix [] effects image
  pub all : (log : List Effect) → storage image ≡ Ok log → has_whole log ≡ true → log ≡ effects
