use Rattle.forward_copy.proofs.Names.{ap, ◌∙◌, get-empty, stamp_cmp, settle_of}
use Rattle.std.specs.FinMap as finite
use Rattle.forward_copy.proofs.settles.settles_of.Goals as goal

pub loop-effect-init : goal.loop-effect-init
unfolding settle_of
loop-effect-init c = λ s. ap (λ z. finite.get z s) c.new-settles.ensures ∙ get-empty stamp_cmp s
