use Rattle.medium_port.proofs.Names.{◌≡◌, ◌∙◌, List, sym, subst, rules, Image, IsImage, Snapshot, disk_of, happened, replay, MayLeave, Event}
use Rattle.medium_port.proofs.Blanks.{same_image}
use Rattle.medium_port.proofs.pasts.Past.new.Goals as goal

pub returns-clause-only : goal.returns-clause-only
returns-clause-only c i left =
    let first = c.of-first.result.value.items in
    let now = subst (λ (l : List (Snapshot Event)). MayLeave c.args.count (replay (disk_of first) (happened l)) i) c.new-2.ensures.items left in
    let same : first ≡ c.new-held.result.items = search rules in
    same_image c.args.count i first now.shape (subst (λ (image : Image). IsImage c.args.count image) (sym same) c.new-held.ensures.shape) (λ p k. now.kept p k tt) ∙ same
