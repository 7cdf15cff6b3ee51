-- The canonical tokens and text of a row, and the text of a script.
use Rattle.std.specs.Prelude.{◌≡◌, ℕ, ◌+◌, ◌-◌, ◌<◌, ◌≤◌, ◌^◌, List, [], ◌∷◌, ◌++◌, replicate, codes}
use Rattle.std.specs.Fmt.{decimal}
use Rattle.token_form.specs.declared.tokens.Token.{Token}
use Rattle.token_form.specs.declared.tokens.Token.TheVariants as t
use Rattle.token_form.specs.declared.tokens.Word.TheVariants as w
use Rattle.token_form.specs.declared.tokens.Sign.TheVariants as g
use Rattle.token_form.specs.Tokens.{IsToken}
use Rattle.value_form.specs.Mirror.{Spot, Fixed, At, Block}
use Rattle.expression_form.specs.Canonical.{canonical}
use Rattle.expression_form.specs.Texts.{text, InLimits}
use Rattle.script_form.specs.RowTokens.{IsRepository}
use Rattle.script_form.specs.Row.{Row}
use Rattle.script_form.specs.Row as r
use Rattle.script_form.specs.Rows.{Numbered, rows}

-- ---- tokens

abbrev pub spot_tokens : Spot → List Token
spot_tokens (Fixed object) = t.Number object.repository ∷ t.Sign g.Dot ∷ t.Number object.number ∷ []
spot_tokens (At n x) = t.Number n ∷ t.Sign g.OpenBracket ∷ (canonical x ++ t.Sign g.CloseBracket ∷ [])

abbrev pub row_tokens : Row → List Token
row_tokens (r.Let name x) = t.Word w.Let ∷ t.Name name ∷ t.Sign g.Equal ∷ canonical x
row_tokens (r.Read name place) = t.Word w.Read ∷ t.Name name ∷ spot_tokens place
row_tokens (r.Write place x) = t.Word w.Write ∷ (spot_tokens place ++ canonical x)
row_tokens (r.Print x) = t.Word w.Print ∷ canonical x
row_tokens (r.If x) = t.Word w.If ∷ canonical x
row_tokens r.Else = t.Word w.Else ∷ []
row_tokens r.End = t.Word w.End ∷ []
row_tokens (r.Repeat x) = t.Word w.Repeat ∷ canonical x
row_tokens r.Withdraw = t.Word w.Withdraw ∷ []

-- ---- text

-- no space round `.`, after `[` or before `]`
abbrev pub spot_text : Spot → List ℕ
spot_text (Fixed object) = decimal object.repository ++ (46 ∷ decimal object.number)
spot_text (At n x) = decimal n ++ (91 ∷ (text x ++ 93 ∷ []))

abbrev pub row_text : Row → List ℕ
row_text (r.Let name x) = codes "let " ++ (name ++ (codes " = " ++ text x))
row_text (r.Read name place) = codes "read " ++ (name ++ (32 ∷ spot_text place))
row_text (r.Write place x) = codes "write " ++ (spot_text place ++ (32 ∷ text x))
row_text (r.Print x) = codes "print " ++ text x
row_text (r.If x) = codes "if " ++ text x
row_text r.Else = codes "else"
row_text r.End = codes "end"
row_text (r.Repeat x) = codes "repeat " ++ text x
row_text r.Withdraw = codes "withdraw"

-- bytes on this line, behind the ends of those before it that hold nothing; next is the line that comes next
abbrev pub line_text : (next line : ℕ) → List ℕ → List ℕ
line_text next line bytes = replicate (line - next) 10 ++ (bytes ++ 10 ∷ [])

-- each row on its line, and empty lines between
abbrev pub rows_text : (next : ℕ) → List Numbered → List ℕ
rows_text next [] = []
rows_text next (x ∷ xs) = line_text next x.line (row_text x.row) ++ rows_text (x.line + 1) xs

-- the line after the last row
abbrev pub next_line : (next : ℕ) → List Numbered → ℕ
next_line next [] = next
next_line next (x ∷ xs) = next_line (x.line + 1) xs

-- the canonical text of a script
abbrev pub script_text : Block → List ℕ
script_text script = rows_text 1 (rows script)

-- what printing rows does: from old and the next line to new and the line after them
abbrev pub Prints : List Numbered → (next : ℕ) (old : List ℕ) (after : ℕ) (new : List ℕ) → Type 0
Prints xs next old after new = (new ≡ old ++ rows_text next xs) × (after ≡ next_line next xs)

-- ---- limits

abbrev pub SpotInLimits : Spot → Type 0
SpotInLimits (Fixed object) = IsRepository object.repository × (object.number < 2 ^ 32)
SpotInLimits (At n x) = IsRepository n × InLimits x

-- its numbers, texts, names and objects are in their limits
abbrev pub RowInLimits : Row → Type 0
RowInLimits (r.Let name x) = IsToken (t.Name name) × InLimits x
RowInLimits (r.Read name place) = IsToken (t.Name name) × SpotInLimits place
RowInLimits (r.Write place x) = SpotInLimits place × InLimits x
RowInLimits (r.Print x) = InLimits x
RowInLimits (r.If x) = InLimits x
RowInLimits (r.Repeat x) = InLimits x
RowInLimits _ = Unit {0}

-- the repository of a statement's object is at most the greatest
abbrev pub SpotUpTo : ℕ → Spot → Type 0
SpotUpTo greatest (Fixed object) = object.repository ≤ greatest
SpotUpTo greatest (At n x) = n ≤ greatest

abbrev pub RowUpTo : ℕ → Row → Type 0
RowUpTo greatest (r.Read name place) = SpotUpTo greatest place
RowUpTo greatest (r.Write place x) = SpotUpTo greatest place
RowUpTo greatest _ = Unit {0}
