-- What is kept of lines and batches that are longer than a plan may be.
use Rattle.std.specs.Prelude.{◌≡◌, ◌⊎◌, ℕ, ◌≤◌, ◌<◌, true, List, ◌++◌, length}
use Rattle.std.specs.Str.Lines.{strip_carriage_return}
use Rattle.pseudo_time.specs.Lists.{Every}
use Rattle.script_form.specs.Lines.{is_blank}

-- all of the bytes is kept, or a front of them that is longer than a plan may be
abbrev pub IsKept : (kept whole : List ℕ) → Type 0
IsKept kept whole = (kept ≡ whole) ⊎ ((rest : List ℕ) × (whole ≡ kept ++ rest) × (4194304 < length kept))

-- a blank line or a comment, no longer than a plan may be
abbrev pub IsIdle : List ℕ → Type 0
IsIdle line = (length line ≤ 4194304) × (is_blank (strip_carriage_return line) ≡ true)

abbrev pub AreIdle : List (List ℕ) → Type 0
AreIdle ls = Every IsIdle ls
