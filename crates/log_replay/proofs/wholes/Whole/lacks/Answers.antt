use Rattle.std.proofs.Common.{◌∙◌}
use Rattle.log_replay.proofs.JoinLemmas.{lacks-put}
use Rattle.log_replay.proofs.wholes.Whole.lacks.Goals as goal

pub returns-in-Put : goal.returns-in-Put
returns-in-Put c = λ log at.
    let o = c.in-Put.object in
    let x = c.in-Put.start in
    lacks-put c.args.effect.now log o x c.in-Put.value c.contains_key.result c.in-Put.is (c.contains_key.ensures ∙ at.met o x)
