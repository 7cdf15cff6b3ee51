use Rattle.version_store.specs.Storage.{log_of}
use Rattle.version_store.proofs.PlaceLemmas.{log_sound}
use Rattle.version_store.proofs.StandLemmas.{last_put-stands, back-stands}
use Rattle.version_store.proofs.laws.places_have_effects.Goals as goal

pub returns-clause-last : goal.returns-clause-last
returns-clause-last c = last_put-stands

pub returns-clause-back : goal.returns-clause-back
returns-clause-back c n image e i shape there = back-stands (log_of image) i e.effect e.back ((log_sound image n shape).each e i there).back
