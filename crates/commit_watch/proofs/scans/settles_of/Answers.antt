use Rattle.commit_watch.proofs.Names.{ap, ◌∙◌, get-empty, stamp_cmp, settle_of}
use Rattle.std.specs.FinMap as finite
use Rattle.commit_watch.proofs.scans.settles_of.Goals as goal

pub loop-mark-init : goal.loop-mark-init
unfolding settle_of
loop-mark-init c = λ p. ap (λ s. finite.get s p) c.new-settles.ensures ∙ get-empty stamp_cmp p
