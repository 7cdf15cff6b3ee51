use Rattle.value_form.specs.Mirror.{block}
use Rattle.script_form.proofs.RangeLemmas.{printable-range}
use Rattle.broker_ledger.proofs.ledgers.Ledger.resumed.Goals as goal

-- a script of the language is in range
pub resumed-requires-clause-script : goal.resumed-requires-clause-script
resumed-requires-clause-script c = printable-range 16 (block c.in-Some.act.now.script.lines) c.in-Some.ensures.is_act.script
