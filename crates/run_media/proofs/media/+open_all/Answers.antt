use Rattle.run_media.proofs.OpeningLemmas.{zip-joined}
use Rattle.run_media.proofs.media.+open_all.Goals as goal

pub returns-clause-opened : goal.returns-clause-opened
returns-clause-opened g t c = zip-joined _ _ _ _ _ _ _ c.in-Some.ensures.items c.push_reserved.ensures.items c.open_all-media.ensures.opened c.open_one.ensures
