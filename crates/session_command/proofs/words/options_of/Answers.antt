use Rattle.std.proofs.lemmas.Result.{IfOk-weaker}
use Rattle.session_command.specs.Words.{GivesMore, GivesOptions}
use Rattle.command_words.specs.Words.{said}
use Rattle.command_words.proofs.WordLemmas.{behind-one}
use Rattle.session_command.proofs.WordLemmas.{session-words}
use Rattle.session_command.proofs.words.options_of.Goals as goal

pub returns-in-session : goal.returns-in-session
returns-in-session c = IfOk-weaker c.more_options.result (GivesMore (said (behind-one c.args.words.now))) (GivesOptions (said c.args.words.now)) (λ out given. session-words c.args.words.now out c.in-len1-up.len_at_least c.in-session.is given) c.more_options.ensures
