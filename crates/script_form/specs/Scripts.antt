-- Which lines are a script, and what is wrong with a line that isn't.
use Rattle.std.specs.Prelude.{◌≡◌, ℕ, ◌+◌, ◌≤◌, ◌⊎◌, true, false, List, [], ◌∷◌, ◌++◌, length}
use Rattle.token_form.specs.declared.tokens.Token.{Token}
use Rattle.token_form.specs.Tokens.{IsTokens, in_range}
use Rattle.value_form.specs.Mirror.{Block}
use Rattle.script_form.specs.Row.{Row}
use Rattle.script_form.specs.Rows.{Numbered, on, rows, row_depth, block_depth}
use Rattle.script_form.specs.RowTokens.{SpellsRow}
use Rattle.script_form.specs.Begins.{Begins, BeginsShallow}
use Rattle.script_form.specs.RowTexts.{rows_text}
use Rattle.script_form.specs.Lines.{is_blank}
use Rattle.script_form.specs.declared.parse_faults.ParseKind.{ParseKind}
use Rattle.script_form.specs.declared.parse_faults.ParseKind.TheVariants as kind

-- ---- lines and their rows

-- the line is these tokens, and no blank or comment
abbrev pub LineTokens : List ℕ → List Token → Type 0
LineTokens line tokens = (is_blank line ≡ false) × IsTokens line tokens

-- the line spells this row, with repositories up to the greatest
abbrev pub LineRow : ℕ → List ℕ → Row → Type 0
LineRow greatest line row = (tokens : List Token) × LineTokens line tokens × (in_range greatest tokens ≡ true) × SpellsRow row tokens

-- the rows of these lines, of which the first is line n
abbrev pub LinesRows : ℕ → ℕ → List (List ℕ) → List Numbered → Type 0
LinesRows greatest n [] xs = xs ≡ []
LinesRows greatest n (line ∷ more) xs =
    ((is_blank line ≡ true) × LinesRows greatest (n + 1) more xs)
    ⊎ ((row : Row) × (ys : List Numbered) × LineRow greatest line row × (xs ≡ on n row ∷ ys) × LinesRows greatest (n + 1) more ys)

-- no expression in the rows is deeper than 16
abbrev pub ShallowRows : List Numbered → Type 0
ShallowRows [] = Unit {0}
ShallowRows (x ∷ xs) = (row_depth x.row ≤ 16) × ShallowRows xs

-- at most 200 lines, and at most 3,900 bytes of canonical text
abbrev pub IsSmall : List (List ℕ) → List Numbered → Type 0
IsSmall lines xs = (length lines ≤ 200) × (length (rows_text 1 xs) ≤ 3900)

-- ---- scripts

-- the lines are this script
abbrev pub IsScriptLines : ℕ → List (List ℕ) → Block → Type 0
IsScriptLines greatest lines script =
    (xs : List Numbered) × LinesRows greatest 1 lines xs × (xs ≡ rows script) × ShallowRows xs × (block_depth script ≤ 16) × IsSmall lines xs

-- the lines begin a script: with more rows behind theirs they would be one, the limits of size being asked of these lines alone
abbrev pub BeginScript : ℕ → List (List ℕ) → Type 0
BeginScript greatest lines = (xs : List Numbered) × LinesRows greatest 1 lines xs × ShallowRows xs × BeginsShallow xs × IsSmall lines xs

-- ---- faults

-- the row goes on those of the lines before
abbrev pub RowBehind : ℕ → List (List ℕ) → List ℕ → List Numbered → Row → Type 0
RowBehind greatest before line xs row = LinesRows greatest 1 before xs × LineRow greatest line row

-- the rows of the lines before and this one
abbrev pub with_row : List (List ℕ) → List Numbered → Row → List Numbered
with_row before xs row = xs ++ on (length before + 1) row ∷ []

-- What is wrong with a line where the lines before begin a script and these with it don't: the first of the kinds that holds.
abbrev pub LineFault : ℕ → List (List ℕ) → List ℕ → ParseKind → Type 0
LineFault greatest before line kind.Token = (is_blank line ≡ false) × ((tokens : List Token) → IsTokens line tokens → ⊥)
LineFault greatest before line kind.Range = (tokens : List Token) × LineTokens line tokens × (in_range greatest tokens ≡ false)
LineFault greatest before line kind.Syntax = (tokens : List Token) × LineTokens line tokens × (in_range greatest tokens ≡ true) × ((row : Row) → SpellsRow row tokens → ⊥)
LineFault greatest before line kind.Block =
    (xs : List Numbered) × (row : Row) × RowBehind greatest before line xs row × (Begins (with_row before xs row) → ⊥)
LineFault greatest before line kind.Depth =
    (xs : List Numbered) × (row : Row) × RowBehind greatest before line xs row × Begins (with_row before xs row)
    × ((row_depth row ≤ 16) × BeginsShallow (with_row before xs row) → ⊥)
LineFault greatest before line kind.Size =
    (xs : List Numbered) × LinesRows greatest 1 (before ++ line ∷ []) xs × ShallowRows xs × BeginsShallow xs × (IsSmall (before ++ line ∷ []) xs → ⊥)

-- a block is left open: the rows of the lines are those of no script
abbrev pub LeftOpen : ℕ → List (List ℕ) → Type 0
LeftOpen greatest lines = (xs : List Numbered) × LinesRows greatest 1 lines xs × ((script : Block) → xs ≡ rows script → ⊥)

-- The fault of these lines: the first line with which they begin no script, and what is wrong with it.
abbrev pub FaultAt : ℕ → List (List ℕ) → ℕ → ParseKind → Type 0
FaultAt greatest lines line what =
    (before more : List (List ℕ)) × (wrong : List ℕ)
    × (lines ≡ before ++ wrong ∷ more) × (line ≡ length before + 1) × BeginScript greatest before × LineFault greatest before wrong what

-- the fault of lines that begin a script and end in a block
abbrev pub FaultBehind : ℕ → List (List ℕ) → ℕ → ParseKind → Type 0
FaultBehind greatest lines line what = (line ≡ length lines + 1) × (what ≡ kind.Block) × BeginScript greatest lines × LeftOpen greatest lines
