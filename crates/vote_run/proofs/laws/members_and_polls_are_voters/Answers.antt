use Rattle.vote_run.proofs.VoterLemmas.{just-voters}
use Rattle.vote_run.proofs.laws.members_and_polls_are_voters.Goals as goal

pub returns : goal.returns
returns c = just-voters
