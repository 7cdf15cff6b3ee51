use Rattle.std.proofs.Common.{arith}
use Rattle.version_store.proofs.PlaceLemmas.{log_sound}
use Rattle.version_store.proofs.laws.back_places_come_before.Goals as goal

pub returns-clause-back : goal.returns-clause-back
returns-clause-back c n image e i shape there = ((log_sound image n shape).each e i there).back

pub returns-clause-before : goal.returns-clause-before
returns-clause-before c n image e i shape there = ((log_sound image n shape).each e i there).before

pub returns-clause-within : goal.returns-clause-within
returns-clause-within c n image e i shape there = omega (arith, ((log_sound image n shape).each e i there).within, shape.count)
