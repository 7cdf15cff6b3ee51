use Rattle.folder_look.specs.Homes.{told_at_home}
use Rattle.folder_look.proofs.HomeLemmas.{told-at}
use Rattle.folder_look.proofs.homes.tell_homes.Goals as goal

pub loop-place-preserved : goal.loop-place-preserved
loop-place-preserved c =
    told-at (told_at_home c.args.homes.now) c.loop-place.place c.args.rows.items c.loop-place.rows.items c.index_mut.result.now c.tell_home.new.row c.loop-place.invariant c.index_mut.ensures.value c.tell_home.ensures
