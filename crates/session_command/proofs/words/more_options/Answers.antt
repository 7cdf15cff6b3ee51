use Rattle.std.proofs.Common.{rules, ◌≡◌, ◌∷◌, codes}
use Rattle.command_words.specs.Words.{said}
use Rattle.session_command.proofs.WordLemmas.{more-given}
use Rattle.session_command.proofs.words.more_options.Goals as goal

pub returns : goal.returns
returns c =
    let all = said c.as_slice.result.now in
    let more = said c.args.more.now in
    let is : all ≡ codes "run" ∷ more = search rules in
    more-given c.read_words.result c.as_run.result all more is c.read_words.ensures.words c.read_words.ensures.none c.as_run.ensures
