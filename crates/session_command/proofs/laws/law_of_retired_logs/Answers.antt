use Rattle.session_command.proofs.RetiredLemmas.{retired-covers}
use Rattle.session_command.proofs.laws.law_of_retired_logs.Goals as goal

pub returns : goal.returns
returns c = retired-covers
