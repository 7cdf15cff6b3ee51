use Rattle.node_inputs.proofs.TrailLemmas.{trail-joins}
use Rattle.node_inputs.proofs.inputs.begin.Goals as goal

pub returns-in-Err-heard-clause-trail : goal.returns-in-Err-heard-clause-trail
returns-in-Err-heard-clause-trail g c = trail-joins c.take-pass.ensures.trail c.hear-pass.ensures.trail

pub returns-in-Ok-heard-clause-trail : goal.returns-in-Ok-heard-clause-trail
returns-in-Ok-heard-clause-trail g c = trail-joins c.take-pass.ensures.trail c.hear-pass.ensures.trail
