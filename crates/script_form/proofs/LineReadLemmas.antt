-- A line's tokens and their row are the line's row.
use Rattle.script_form.proofs.Names.{◌≡◌, ℕ, true, false, List, Result, Ok, Err, Token, IsTokens, in_range, Flat, is_blank, ReadsRow, ReadsLine, RowFault, Kind, NoMemory}
use Rattle.script_form.specs.declared.parse_faults.ParseKind.TheVariants as kind

pub line_is_read : (greatest : ℕ) (line : List ℕ) (tokens : List Token) (result : Result Flat RowFault) → is_blank line ≡ false → IsTokens line tokens × (in_range greatest tokens ≡ true) → ReadsRow tokens result → ReadsLine greatest line result
line_is_read greatest line tokens (Ok flat) some (are, range) h = ((tokens, (some, are), range, h.0), h.1)
line_is_read greatest line tokens (Err (Kind kind.Token)) some are h = absurd h
line_is_read greatest line tokens (Err (Kind kind.Range)) some are h = absurd h
line_is_read greatest line tokens (Err (Kind kind.Syntax)) some (are, range) h = (tokens, (some, are), range, h)
line_is_read greatest line tokens (Err (Kind kind.Block)) some are h = h
line_is_read greatest line tokens (Err (Kind kind.Depth)) some (are, range) h = (h.0, (tokens, (some, are), range, h.1), h.2)
line_is_read greatest line tokens (Err (Kind kind.Size)) some are h = h
line_is_read greatest line tokens (Err NoMemory) some are h = tt
