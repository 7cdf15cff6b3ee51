-- What feeding a line to a reader gives.
use Rattle.std.specs.Prelude.{◌≡◌, ℕ, ◌+◌, ◌<◌, ◌≤◌, ◌⊎◌, Option, Some, None, List, [], ◌∷◌, ◌++◌, length, Result, Ok, Err}
use Rattle.value_form.specs.declared.scripts.Script.{Script}
use Rattle.value_form.specs.Mirror.{block}
use Rattle.script_form.specs.declared.buildings.Building.{Building}
use Rattle.script_form.specs.Building.{rows_so_far}
use Rattle.script_form.specs.declared.parse_faults.ParseFault.{ParseFault}
use Rattle.script_form.specs.declared.parse_faults.ParseFault.TheVariants.{Fault, NoMemory}
use Rattle.script_form.specs.declared.parse_faults.ParseKind.TheVariants as kind
use Rattle.script_form.specs.declared.readers.ScriptReader.{ScriptReader}
use Rattle.script_form.specs.Scripts.{LineFault, IsScriptLines, LeftOpen}
use Rattle.script_form.specs.Progress.{Holds}

-- the reader has read these lines, which begin a script
abbrev pub HoldsLines : List (List ℕ) → ScriptReader → Type 0
HoldsLines lines reader = Holds reader.greatest lines (rows_so_far reader.builder) reader.lines reader.next reader.size

-- The reader has the line too, and the same greatest repository; or the fault is the line's.
abbrev pub FeedsLine : ℕ → List (List ℕ) → List ℕ → Result ScriptReader ParseFault → Type 0
FeedsLine greatest before line (Ok reader) = HoldsLines (before ++ line ∷ []) reader × (reader.greatest ≡ greatest)
FeedsLine greatest before line (Err (Fault at what)) = (at ≡ length before + 1) × LineFault greatest before line what
FeedsLine greatest before line (Err NoMemory) = Unit {0}

-- The lines are this script; or a block is left open, which is a fault of the line behind them.
abbrev pub EndsLines : ℕ → List (List ℕ) → Result Script ParseFault → Type 0
EndsLines greatest lines (Ok script) = IsScriptLines greatest lines (block script.lines)
EndsLines greatest lines (Err (Fault at what)) = (at ≡ length lines + 1) × (what ≡ kind.Block) × LeftOpen greatest lines
EndsLines greatest lines (Err NoMemory) = ⊥

-- a line more that is no row
abbrev pub Passes : ScriptReader → Result ScriptReader ParseFault → Type 0
Passes old (Ok new) = (old.lines + 1 ≤ 200) × (new ≡ record old { lines = old.lines + 1 })
Passes old (Err fault) = (200 < old.lines + 1) × (fault ≡ Fault (old.lines + 1) kind.Size)

-- a line more whose row was taken, with this size of the canonical text
abbrev pub Places : Building → ℕ → ℕ → Option ℕ → Result ScriptReader ParseFault → Type 0
Places builder greatest at size (Ok new) =
    (at ≤ 200) × (size ≡ Some new.size) × (new.builder ≡ builder) × (new.greatest ≡ greatest) × (new.lines ≡ at) × (new.next ≡ at + 1)
Places builder greatest at size (Err fault) = ((200 < at) ⊎ (size ≡ None)) × (fault ≡ Fault at kind.Size)
