-- What parsing gives.
use Rattle.std.specs.Prelude.{◌≡◌, ℕ, ◌⊎◌, List, Result, Ok, Err}
use Rattle.value_form.specs.declared.scripts.Script.{Script}
use Rattle.value_form.specs.Mirror.{block}
use Rattle.script_form.specs.declared.parse_faults.ParseFault.{ParseFault}
use Rattle.script_form.specs.declared.parse_faults.ParseFault.TheVariants.{Fault, NoMemory}
use Rattle.script_form.specs.Scripts.{IsScriptLines, FaultAt, FaultBehind}

-- Ok with the script that the lines are; else the fault of a line of them, or of the line behind them.
abbrev pub Parses : ℕ → List (List ℕ) → Result Script ParseFault → Type 0
Parses greatest lines (Ok script) = IsScriptLines greatest lines (block script.lines)
Parses greatest lines (Err (Fault line what)) = FaultAt greatest lines line what ⊎ FaultBehind greatest lines line what
Parses greatest lines (Err NoMemory) = Unit {0}

-- the script that was known before, unless memory ran out
abbrev pub GivesAgain : Script → Result Script ParseFault → Type 0
GivesAgain script (Ok again) = again ≡ script
GivesAgain script (Err (Fault line what)) = ⊥
GivesAgain script (Err NoMemory) = Unit {0}
