use Rattle.vote_promise.proofs.ClauseLemmas.{caused}
use Rattle.vote_promise.proofs.laws.decisions_on_media_have_causes.Goals as goal

pub returns : goal.returns
returns g c = λ lines asked t media left tells legal r. caused _ lines asked t media left tells legal r
