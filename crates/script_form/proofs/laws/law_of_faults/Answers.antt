use Rattle.script_form.proofs.FaultLemmas.{scripts_begin, fault_is_there, fault_is_first, fault_of_no_script, open_is_no_script}
use Rattle.script_form.proofs.laws.law_of_faults.Goals as goal

pub returns-clause-begin : goal.returns-clause-begin
returns-clause-begin c = scripts_begin

pub returns-clause-there : goal.returns-clause-there
returns-clause-there c = fault_is_there

pub returns-clause-first : goal.returns-clause-first
returns-clause-first c = fault_is_first

pub returns-clause-none : goal.returns-clause-none
returns-clause-none c = fault_of_no_script

pub returns-clause-open_block : goal.returns-clause-open_block
returns-clause-open_block c = open_is_no_script
