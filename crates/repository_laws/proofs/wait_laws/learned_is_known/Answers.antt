use Rattle.repository_laws.proofs.KnownSteps.{on-learn-known}
use Rattle.repository_laws.proofs.wait_laws.learned_is_known.Goals as goal

pub returns : goal.returns
returns c = λ h s learned. on-learn-known s h learned
