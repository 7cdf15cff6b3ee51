use Rattle.plan_form.proofs.NumberLemmas.{digits_pass}
use Rattle.plan_form.proofs.digits.number_first.Goals as goal

pub number_of-requires : goal.number_of-requires
number_of-requires c = digits_pass c.args.bytes.now c.split_digits.result.0.now c.split_digits.ensures.front
