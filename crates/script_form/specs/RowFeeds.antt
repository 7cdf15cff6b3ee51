-- Rows fed one after another.
use Rattle.std.specs.Prelude.{ℕ, suc, zero, max, List, [], ◌∷◌, Option, Some, option_and_then}
use Rattle.value_form.specs.MirrorLaws.{made, made_place}
use Rattle.script_form.specs.declared.flats.Flat.{Flat}
use Rattle.script_form.specs.declared.flats.Flat.TheVariants as f
use Rattle.script_form.specs.declared.buildings.Building.{Building}
use Rattle.script_form.specs.Row.{Row}
use Rattle.script_form.specs.Row as r
use Rattle.script_form.specs.Rows.{Numbered}
use Rattle.script_form.specs.Building.{feed}

-- the parsed line of a row
abbrev pub made_flat : Row → Flat
made_flat (r.Let name x) = f.Let name (made x)
made_flat (r.Read name place) = f.Read name (made_place place)
made_flat (r.Write place x) = f.Write (made_place place) (made x)
made_flat (r.Print x) = f.Print (made x)
made_flat (r.If x) = f.If (made x)
made_flat r.Else = f.Else
made_flat r.End = f.End
made_flat (r.Repeat x) = f.Repeat (made x)
made_flat r.Withdraw = f.Withdraw

abbrev pub row_feed : Building → Numbered → Option Building
row_feed b x = feed b x.line (made_flat x.row)

abbrev pub feeds : Building → List Numbered → Option Building
feeds b [] = Some b
feeds b (x ∷ xs) = option_and_then (λ b'. feeds b' xs) (row_feed b x)

-- ---- how many blocks are open

abbrev pub below : ℕ → ℕ
below zero = zero
below (suc n) = n

-- after a row, where n were open before
abbrev pub open_by : ℕ → Row → ℕ
open_by n (r.If x) = suc n
open_by n (r.Repeat x) = suc n
open_by n r.End = below n
open_by n _ = n

abbrev pub open_after : ℕ → List Numbered → ℕ
open_after n [] = n
open_after n (x ∷ xs) = open_after (open_by n x.row) xs

-- the most that are open at a time
abbrev pub peak : ℕ → List Numbered → ℕ
peak n [] = n
peak n (x ∷ xs) = max n (peak (open_by n x.row) xs)
