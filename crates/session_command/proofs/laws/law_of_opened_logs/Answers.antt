use Rattle.session_command.proofs.LawLemmas.{covers-opened}
use Rattle.session_command.proofs.laws.law_of_opened_logs.Goals as goal

pub returns : goal.returns
returns g c = covers-opened g.M.Medium
