use Rattle.command_words.specs.Words.{said}
use Rattle.laboratory.proofs.GivenLemmas.{given}
use Rattle.laboratory.proofs.WordLemmas.{refused, taken_as}
use Rattle.laboratory.proofs.options.lab_words.Goals as goal

pub returns-in-Err : goal.returns-in-Err
returns-in-Err c = refused c.in_ok-command.command c.in-Err.error (said c.args.words.now) c.fault_of.result c.in_ok-command.ensures c.in-Err.ensures.kinds c.in-Err.ensures.passes c.fault_of.ensures.words

pub lab_of-requires : goal.lab_of-requires
lab_of-requires c = record { given = given c.in_ok-command.command c.in-Ok.matches c.in_ok-command.ensures c.in-Ok.ensures.parsed }

pub returns : goal.returns
returns c =
    taken_as c.in_ok-command.command c.in-Ok.matches (said c.args.words.now) c.in_ok-lab_of.field-0 c.in_ok-command.ensures c.in-Ok.ensures.matches c.in-Ok.ensures.kinds c.in_ok-lab_of.ensures
