use Rattle.std.proofs.Common.{◌≤◌, length, arith}
use Rattle.std.proofs.lemmas.Bool.Decides.{nat_tests}
use Rattle.vote_form.proofs.PollsLemmas.{title-fault}
use Rattle.vote_form.proofs.parsing.parse.Goals as goal

pub returns-in_default : goal.returns-in_default
returns-in_default c =
    let h = c.if-bytes-gt-MOST_BYTES.false in
    let small : length c.args.bytes.now ≤ 4194304 = grind (arith, nat_tests) in
    title-fault c.args.bytes.now small c.in_default.ensures
