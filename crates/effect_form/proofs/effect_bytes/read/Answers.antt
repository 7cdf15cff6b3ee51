use Rattle.std.proofs.Common.{arith}
use Rattle.effect_form.proofs.ReadLaws.{read_found, read_only}
use Rattle.effect_form.proofs.effect_bytes.read.Goals as goal

pub returns-clause-found : goal.returns-clause-found
returns-clause-found c = read_found c.counted.result c.args.bytes.now (λ i. omega (arith, c.type_inv.bytes i)) c.counted.ensures

pub returns-clause-only : goal.returns-clause-only
returns-clause-only c = read_only c.counted.result c.args.bytes.now c.counted.ensures
