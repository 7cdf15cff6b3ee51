use Rattle.plan_form.proofs.NumberLemmas.{number_read}
use Rattle.plan_form.proofs.numbered.number_line.Goals as goal

pub returns : goal.returns
returns c = number_read c.args.word.now c.args.line.now c.args.greatest c.number_alone.result c.requires c.number_alone.ensures.value
