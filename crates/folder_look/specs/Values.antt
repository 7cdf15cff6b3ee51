-- The current value of each object.
use Rattle.std.specs.Prelude.{ℕ, List, [], ◌∷◌, ◌++◌, codes, take, drop, length, ◌==◌, nat_lt, Option, Some, None, if◌then◌else◌}
use Rattle.std.specs.List.{flat_map}
use Rattle.pseudo_time.specs.TimeParts.{TimeParts}
use Rattle.value_form.specs.declared.values.Value.{Value}
use Rattle.value_form.specs.ValueText.{value_text}
use Rattle.page_text.specs.Escapes.{page_text}
use Rattle.folder_look.specs.declared.looks.VersionRow.{VersionRow}
use Rattle.folder_look.specs.declared.looks.ObjectRow.{ObjectRow}
use Rattle.folder_look.specs.Pieces.{text_of, Words, Number, Object, Time}
use Rattle.folder_look.specs.Shown.{ShownParts, time_ref}

-- a text, or the front of a longer one and a mark that it is longer
abbrev pub cut_text : ℕ → List ℕ → List ℕ
cut_text n text = if nat_lt n (length text) then page_text (take n text) ++ codes "&#8230;" else page_text text

abbrev pub value_cut : ℕ → Value → List ℕ
value_cut n v = cut_text n (value_text v)

abbrev pub time_or_none : Option TimeParts → List ℕ
time_or_none None = codes "none"
time_or_none (Some t) = text_of (Time t ∷ [])

-- a version: the value, the start, and how far it was read
abbrev pub version_cells : ShownParts → VersionRow → List ℕ
version_cells p v = codes "<td>" ++ (value_cut 80 v.value ++ (codes "</td><td>" ++ (time_ref p v.start ++ (codes "</td><td>" ++ (time_or_none v.end ++ codes "</td>")))))

-- the last committed version
abbrev pub last_cells : ShownParts → Option VersionRow → List ℕ
last_cells p None = codes "<td>none is committed</td><td></td><td></td>"
last_cells p (Some v) = version_cells p v

abbrev pub open_text : ℕ → List ℕ
open_text n = if n == 0 then [] else text_of (Words (codes ", undecided ") ∷ Number n ∷ [])

-- an object, which leads to its versions
abbrev pub value_text_of : ShownParts → ObjectRow → List ℕ
value_text_of p r =
    text_of (Words (codes "<tr><th scope=\"row\"><a href=\"#o") ∷ Object r.object ∷ Words (codes "\">") ∷ Object r.object ∷ Words (codes "</a></th>") ∷ [])
    ++ (last_cells p r.last ++ (text_of (Words (codes "<td>") ∷ Number r.count ∷ []) ++ (open_text r.undecided ++ codes "</td></tr>\n")))

abbrev pub value_table : ShownParts → List ObjectRow → List ℕ
value_table p rows =
    codes "<table><thead><tr><th scope=\"col\">object</th><th scope=\"col\">value</th><th scope=\"col\">version</th><th scope=\"col\">read up to</th><th scope=\"col\">versions</th></tr></thead><tbody>\n"
    ++ (flat_map (value_text_of p) rows ++ codes "</tbody></table>\n")

-- what the first 20 objects leave is folded away
abbrev pub fold_head : ℕ → List ℕ
fold_head n = text_of (Words (codes "<details class=\"more\"><summary>objects, ") ∷ Number n ∷ Words (codes " more</summary>\n") ∷ [])

abbrev pub folded_values : ShownParts → List ObjectRow → List ℕ
folded_values p rows = fold_head (length rows) ++ (value_table p rows ++ codes "</details>\n")

abbrev pub more_values : ShownParts → List ObjectRow → List ℕ
more_values p rows = if length rows == 0 then [] else folded_values p rows

abbrev pub values_text : ShownParts → List ObjectRow → List ℕ
values_text p rows = codes "<h2>Current values</h2>\n" ++ (value_table p (take 20 rows) ++ more_values p (drop 20 rows))
