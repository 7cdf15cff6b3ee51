-- What reading one line gives.
use Rattle.std.specs.Prelude.{◌≡◌, ℕ, ◌<◌, ◌≤◌, true, false, List, Result, Ok, Err}
use Rattle.std.specs.declared.vec.Vec.{Vec}
use Rattle.std.specs.declared.alloc.Global.{Global}
use Rattle.token_form.specs.declared.tokens.Token.{Token}
use Rattle.token_form.specs.Tokens.{IsTokens, in_range}
use Rattle.script_form.specs.declared.flats.Flat.{Flat}
use Rattle.script_form.specs.Flats.{row_of}
use Rattle.script_form.specs.Row.{Row}
use Rattle.script_form.specs.Rows.{row_depth}
use Rattle.script_form.specs.RowTokens.{SpellsRow}
use Rattle.script_form.specs.Scripts.{LineTokens, LineRow}
use Rattle.script_form.specs.declared.parse_faults.ParseKind.TheVariants as kind
use Rattle.script_form.specs.declared.parse_faults.ParseFault.{ParseFault}
use Rattle.script_form.specs.declared.parse_faults.ParseFault.TheVariants as fault
use Rattle.script_form.specs.declared.row_faults.RowFault.{RowFault}
use Rattle.script_form.specs.declared.row_faults.RowFault.TheVariants.{Kind, NoMemory}

abbrev pub ReadsTokens : ℕ → List ℕ → Result (Vec Token Global) RowFault → Type 0
ReadsTokens greatest line (Ok tokens) = IsTokens line tokens.items × (in_range greatest tokens.items ≡ true)
ReadsTokens greatest line (Err (Kind kind.Token)) = (tokens : List Token) → IsTokens line tokens → ⊥
ReadsTokens greatest line (Err (Kind kind.Range)) = (tokens : List Token) × IsTokens line tokens × (in_range greatest tokens ≡ false)
ReadsTokens greatest line (Err (Kind other)) = ⊥
ReadsTokens greatest line (Err NoMemory) = Unit {0}

abbrev pub ReadsRow : List Token → Result Flat RowFault → Type 0
ReadsRow tokens (Ok flat) = SpellsRow (row_of flat) tokens × (row_depth (row_of flat) ≤ 16)
ReadsRow tokens (Err (Kind kind.Syntax)) = (row : Row) → SpellsRow row tokens → ⊥
ReadsRow tokens (Err (Kind kind.Depth)) = (row : Row) × SpellsRow row tokens × (16 < row_depth row)
ReadsRow tokens (Err (Kind other)) = ⊥
ReadsRow tokens (Err NoMemory) = Unit {0}

-- the row of a line that is no blank or comment
abbrev pub ReadsLine : ℕ → List ℕ → Result Flat RowFault → Type 0
ReadsLine greatest line (Ok flat) = LineRow greatest line (row_of flat) × (row_depth (row_of flat) ≤ 16)
ReadsLine greatest line (Err (Kind kind.Token)) = (tokens : List Token) → IsTokens line tokens → ⊥
ReadsLine greatest line (Err (Kind kind.Range)) = (tokens : List Token) × LineTokens line tokens × (in_range greatest tokens ≡ false)
ReadsLine greatest line (Err (Kind kind.Syntax)) = (tokens : List Token) × LineTokens line tokens × (in_range greatest tokens ≡ true) × ((row : Row) → SpellsRow row tokens → ⊥)
ReadsLine greatest line (Err (Kind kind.Depth)) = (row : Row) × LineRow greatest line row × (16 < row_depth row)
ReadsLine greatest line (Err (Kind other)) = ⊥
ReadsLine greatest line (Err NoMemory) = Unit {0}

-- what is wrong with a line, as a fault of that line
abbrev pub fault_of : ℕ → RowFault → ParseFault
fault_of line (Kind what) = fault.Fault line what
fault_of line NoMemory = fault.NoMemory
