use Rattle.archive_store.proofs.HolderLemmas.{is-put-there, is-put-other}
use Rattle.archive_store.proofs.holders.is_put.Goals as goal

pub returns-then-eq : goal.returns-then-eq
returns-then-eq c = is-put-there c.args.object c.in-Put.own c.args.start c.in-Put.at c.in-Put.field-2 c.args.mark.now c.eq.result c.eq-then-eq.result c.in-Put.is c.eq.ensures c.if-eq.true c.eq-then-eq.ensures

pub returns-else-eq : goal.returns-else-eq
returns-else-eq c = is-put-other c.args.object c.in-Put.own c.args.start c.in-Put.at c.in-Put.field-2 c.args.mark.now c.eq.result c.in-Put.is c.eq.ensures c.if-eq.false
