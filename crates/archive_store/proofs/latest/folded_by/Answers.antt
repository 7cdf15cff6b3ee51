use Rattle.archive_store.proofs.Names.{ap, reverse, ◌∙◌, moved_at}
use Rattle.archive_store.proofs.LatestLemmas.{latest-is, only-wanting}
use Rattle.archive_store.proofs.latest.folded_by.Goals as goal

pub memory_fault-requires : goal.memory_fault-requires
memory_fault-requires g c = only-wanting (reverse c.args.marks.now) c.args.at c.new-watches.result c.in-Err.fault c.new-watches.ensures c.requires.unretired c.requires.closed c.in-Err.ensures.refused

pub returns-in-Ok-clause-ok : goal.returns-in-Ok-clause-ok
returns-in-Ok-clause-ok g c = λ o.
    ap (moved_at o) c.into_list.ensures.list
    ∙ latest-is (reverse c.args.marks.now) o c.args.at c.new-watches.result c.advance.new.self c.new-watches.ensures c.requires.unretired (c.requires.closed o) (c.in-Ok.ensures.ok o)
