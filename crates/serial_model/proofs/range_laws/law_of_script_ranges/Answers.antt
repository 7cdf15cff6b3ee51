use Rattle.serial_model.proofs.ScriptRangeLemmas.{printable-InRange}
use Rattle.serial_model.proofs.TextByteLemmas.{script-IsBytes}
use Rattle.serial_model.proofs.range_laws.law_of_script_ranges.Goals as goal

pub returns-clause-range : goal.returns-clause-range
returns-clause-range c = printable-InRange

pub returns-clause-bytes : goal.returns-clause-bytes
returns-clause-bytes c = script-IsBytes
