use Rattle.swallow_top.proofs.Names.{AreWords, subst}
use Rattle.swallow_top.proofs.OutcomeLemmas.{clock-within}
use Rattle.swallow_top.proofs.top.tell_asked.Goals as goal

pub tell_snapshot-requires : goal.tell_snapshot-requires
tell_snapshot-requires g c = clock-within c.in-Snapshot.clock c.requires.0 (subst (λ x. AreWords x c.requires.0) c.in-Snapshot.is c.requires.1)
