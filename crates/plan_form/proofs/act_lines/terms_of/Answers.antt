use Rattle.std.proofs.Common.{arith}
use Rattle.plan_form.proofs.TermLemmas.{terms_read}
use Rattle.plan_form.proofs.act_lines.terms_of.Goals as goal

pub returns : goal.returns
returns c = terms_read c.args.repositories c.args.brokers c.args.line.now c.read_terms.result (omega (arith, c.ranges.repositories)) (omega (arith, c.ranges.brokers)) c.read_terms.ensures
