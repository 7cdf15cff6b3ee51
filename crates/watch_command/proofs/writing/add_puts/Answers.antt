use Rattle.watch_command.proofs.Names.{HasPrefix, Adds, subst}
use Rattle.watch_command.proofs.WatchLemmas.{cut}
use Rattle.watch_command.proofs.writing.add_puts.Goals as goal

pub returns : goal.returns
returns g c = λ log has.
    subst (λ ps. Adds g.M.Medium c.args.repository log ps c.args.store c.args.prepared.text c.cut_off.result c.in-Err.medium) c.as_slice.ensures.value
    (cut g.M.Medium c.args.repository log c.as_slice.result.now c.args.store c.args.prepared.text c.in-Err.fault c.cut_off.result c.in-Err.medium
    (λ t i left. subst (λ l. HasPrefix l c.as_slice.result.now i) (has t) (c.in-Err.ensures.images t i left)) c.in-Err.ensures.failed c.in-Err.ensures.full c.cut_off.ensures)
