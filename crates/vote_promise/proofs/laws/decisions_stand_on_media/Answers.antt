use Rattle.vote_promise.proofs.ClauseLemmas.{stand}
use Rattle.vote_promise.proofs.laws.decisions_stand_on_media.Goals as goal

pub returns : goal.returns
returns g c = λ lines asked t media left tells legal r. stand _ lines asked t media left tells legal r
