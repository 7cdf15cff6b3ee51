use Rattle.std.proofs.Common.{inr, refl, subst}
use Rattle.log_replay.specs.Unfit.{IsNoScript}
use Rattle.log_replay.proofs.UnfitLemmas.{no-script}
use Rattle.value_form.specs.Mirror.{block}
use Rattle.script_form.specs.Lines.{lines}
use Rattle.script_form.proofs.RangeLemmas.{printable-range}
use Rattle.script_form.proofs.ReadLimitLemmas.{script_is_printable}
use Rattle.log_replay.proofs.tells.script_of.Goals as goal

pub returns-in-Ok-clause-in_range : goal.returns-in-Ok-clause-in_range
returns-in-Ok-clause-in_range c = printable-range 16 (block c.in-Ok.script.lines) (script_is_printable 16 (lines c.as_slice.result.now) (block c.in-Ok.script.lines) c.in-Ok.ensures)

pub returns-in-Err-Fault-clause-none : goal.returns-in-Err-Fault-clause-none
returns-in-Err-Fault-clause-none c = inr (refl, subst IsNoScript c.as_slice.ensures (no-script c.as_slice.result.now c.in-Err-Fault.field-0 c.in-Err-Fault.field-0-0 c.in-Err-Fault.field-0-1 c.in-Err-Fault.field-0-is c.in-Err-Fault.ensures))
