use Rattle.run_command.proofs.StandingLemmas.{all-finished}
use Rattle.run_command.proofs.laws.law_done_is_finished.Goals as goal

pub returns : goal.returns
returns c = λ plan logs lang done. all-finished plan lang logs done
