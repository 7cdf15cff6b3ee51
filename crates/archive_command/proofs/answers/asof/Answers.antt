use Rattle.std.proofs.Common.{reverse}
use Rattle.archive_store.specs.Joined.{joined}
use Rattle.archive_command.proofs.AnswerLemmas.{map-refused}
use Rattle.archive_command.proofs.answers.asof.Goals as goal

pub returns-in-Err : goal.returns-in-Err
returns-in-Err c = map-refused c.args.repository c.args.mark (reverse (joined c.args.archive.now)) c.in-Err.fault c.refusal.result c.in-Err.ensures.undecided c.refusal.ensures
