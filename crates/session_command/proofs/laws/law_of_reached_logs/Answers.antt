use Rattle.session_command.proofs.HeightLemmas.{all-covered}
use Rattle.session_command.proofs.laws.law_of_reached_logs.Goals as goal

pub returns : goal.returns
returns g c openings = all-covered openings
