use Rattle.token_form.proofs.Names.{subst, sym, is_ascii_digit, AllPass}
use Rattle.token_form.proofs.Runs.{front_of-passes}
use Rattle.token_form.proofs.fronts.read_number.Goals as goal

pub number_token-requires : goal.number_token-requires
number_token-requires c = subst (AllPass is_ascii_digit) (sym c.split_run.ensures.front) (front_of-passes is_ascii_digit c.args.bytes.now)
