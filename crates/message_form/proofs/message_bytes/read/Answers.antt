use Rattle.std.proofs.Common.{arith}
use Rattle.message_form.proofs.ReadLaws.{whole_found, whole_only}
use Rattle.message_form.proofs.message_bytes.read.Goals as goal

pub returns-clause-found : goal.returns-clause-found
returns-clause-found c = whole_found c.whole_of.result c.args.bytes.now (λ i. omega (arith, c.type_inv.bytes i)) c.whole_of.ensures

pub returns-clause-only : goal.returns-clause-only
returns-clause-only c = whole_only c.whole_of.result c.args.bytes.now c.whole_of.ensures
