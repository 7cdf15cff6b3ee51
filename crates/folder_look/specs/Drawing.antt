-- The picture of histories, and the versions of each object.
use Rattle.std.specs.Prelude.{ℕ, ◌+◌, ◌-◌, ◌/◌, ◌%◌, Bool, true, false, List, [], ◌∷◌, ◌++◌, codes, take, drop, length, Option, Some, None, nat_lt, ◌==◌, if◌then◌else◌}
use Rattle.std.specs.List.{flat_map}
use Rattle.pseudo_time.specs.StampParts.{StampParts}
use Rattle.pseudo_time.specs.TimeParts.{TimeParts}
use Rattle.folder_look.specs.declared.looks.VersionRow.{VersionRow}
use Rattle.folder_look.specs.declared.looks.ObjectRow.{ObjectRow}
use Rattle.folder_look.specs.Axes.{column}
use Rattle.folder_look.specs.Pieces.{text_of, Words, Number, Object, Time, Printed}
use Rattle.folder_look.specs.Shown.{ShownParts, stamp_ref, time_ref}
use Rattle.folder_look.specs.Values.{value_cut, time_or_none, fold_head}

-- ---- bars

abbrev pub state_word : Option Bool → List ℕ
state_word None = codes "undecided"
state_word (Some true) = codes "committed"
state_word (Some false) = codes "aborted"

-- whether its repository knows its state, and whether an older volume alone has it
abbrev pub mark_class : Bool → Option ℕ → List ℕ
mark_class false older = codes " unsettled"
mark_class true None = []
mark_class true (Some n) = codes " older"

-- how many columns a bar has that begins in one and ends in another
abbrev pub bar_columns : ℕ → ℕ → ℕ
bar_columns c e = if nat_lt c e then e - c else 1

abbrev pub bar_to : List StampParts → ℕ → Option TimeParts → ℕ
bar_to axis c None = 1
bar_to axis c (Some t) = bar_columns c (column axis t.stamp)

-- where a bar begins, and how many columns it has
abbrev pub place_text : ℕ → ℕ → List ℕ
place_text c w = text_of (Words (codes "\" style=\"--a:") ∷ Number c ∷ Words (codes ";--w:") ∷ Number w ∷ Words (codes "\">") ∷ [])

abbrev pub version_place : List StampParts → VersionRow → List ℕ
version_place axis v = place_text (column axis v.start.stamp) (bar_to axis (column axis v.start.stamp) v.end)

-- a version once: its bar from its start to how far it was read, its state and the front of its value
abbrev pub bar_text : List StampParts → VersionRow → List ℕ
bar_text axis v =
    codes "<i class=\"" ++ (state_word v.state ++ (mark_class v.settled v.older
    ++ (version_place axis v
    ++ (value_cut 20 v.value ++ codes "</i>\n"))))

abbrev pub origin_bar : List StampParts → Option TimeParts → List ℕ
origin_bar axis None = []
origin_bar axis (Some t) = text_of (Words (codes "<i class=\"origin\" style=\"--w:") ∷ Number (column axis t.stamp) ∷ Words (codes "\"></i>\n") ∷ [])

abbrev pub floor_line : List StampParts → Option TimeParts → List ℕ
floor_line axis None = []
floor_line axis (Some t) = text_of (Words (codes "<i class=\"floor\" style=\"--a:") ∷ Number (column axis t.stamp) ∷ Words (codes "\"></i>\n") ∷ [])

abbrev pub bars_text : List StampParts → ObjectRow → List ℕ
bars_text axis r = origin_bar axis r.origin ++ (floor_line axis r.floor ++ flat_map (bar_text axis) r.versions)

-- ---- versions

-- which older volume alone has it
abbrev pub older_word : Option ℕ → List ℕ
older_word None = []
older_word (Some n) = text_of (Words (codes ", only in volume ") ∷ Number n ∷ [])

-- its repository hasn't learned its state
abbrev pub settled_word : Bool → List ℕ
settled_word true = []
settled_word false = codes ", not settled here yet"

-- its state and its value
abbrev pub version_end : VersionRow → List ℕ
version_end v = state_word v.state ++ (older_word v.older ++ (settled_word v.settled ++ text_of (Words (codes "</td><td>") ∷ Printed v.value ∷ Words (codes "</td></tr>\n") ∷ [])))

-- the whole of a version, whose start leads to its attempt
abbrev pub version_text : ShownParts → VersionRow → List ℕ
version_text p v =
    codes "<tr><td>" ++ (time_ref p v.start ++ (codes "</td><td>" ++ (time_or_none v.end ++ (codes "</td><td>" ++ version_end v))))

abbrev pub origin_text : Option TimeParts → List ℕ
origin_text None = []
origin_text (Some t) = text_of (Words (codes "<tr><td>origin</td><td>") ∷ Time t ∷ Words (codes "</td><td></td><td>what was there at first</td></tr>\n") ∷ [])

abbrev pub floor_text : Option TimeParts → List ℕ
floor_text None = []
floor_text (Some t) = text_of (Words (codes "<p>floor ") ∷ Time t ∷ Words (codes "</p>\n") ∷ [])

abbrev pub hidden_text : ℕ → List ℕ
hidden_text n = if n == 0 then [] else text_of (Words (codes "<p>versions, ") ∷ Number n ∷ Words (codes " more: choose with --object, --from and --to</p>\n") ∷ [])

abbrev pub versions_text : ShownParts → ObjectRow → List ℕ
versions_text p r =
    codes "<table><thead><tr><th scope=\"col\">version</th><th scope=\"col\">read up to</th><th scope=\"col\">state</th><th scope=\"col\">value</th></tr></thead><tbody>\n"
    ++ (origin_text r.origin ++ (flat_map (version_text p) r.versions ++ (codes "</tbody></table>\n" ++ (floor_text r.floor ++ hidden_text r.hidden))))

-- ---- rows

abbrev pub row_head : ObjectRow → List ℕ
row_head r = text_of (Words (codes "<details class=\"row\" id=\"o") ∷ Object r.object ∷ Words (codes "\"><summary><b>") ∷ Object r.object ∷ Words (codes "</b><span class=\"bars\">\n") ∷ [])

-- an object: its bars, and its versions folded away
abbrev pub row_text : ShownParts → List StampParts → ObjectRow → List ℕ
row_text p axis r =
    row_head r
    ++ (bars_text axis r ++ (codes "</span></summary>\n" ++ (versions_text p r ++ codes "</details>\n")))

-- of many, each so manieth has its name
abbrev pub is_named : ℕ → ℕ → Bool
is_named every n = n % every == 0

abbrev pub named_mark : ShownParts → ℕ → StampParts → List ℕ
named_mark p n s = text_of (Words (codes "<i style=\"--a:") ∷ Number n ∷ Words (codes "\">") ∷ []) ++ (stamp_ref p s ++ codes "</i>\n")

-- a stamp of the axis
abbrev pub mark_text : ShownParts → List StampParts → ℕ → StampParts → List ℕ
mark_text p axis every s = if is_named every (column axis s) then named_mark p (column axis s) s else []

-- so that there are eight names at most
abbrev pub every_of : List StampParts → ℕ
every_of axis = length axis / 8 + 1

abbrev pub axis_text : ShownParts → List StampParts → List ℕ
axis_text p axis = codes "<div class=\"axis\"><b></b><span class=\"bars\">\n" ++ (flat_map (mark_text p axis (every_of axis)) axis ++ codes "</span></div>\n")

abbrev pub rows_head : List StampParts → List ℕ
rows_head axis = text_of (Words (codes "<div class=\"histories\" style=\"--n:") ∷ Number (length axis) ∷ Words (codes "\">\n") ∷ [])

-- the axis and a row for each object
abbrev pub rows_text : ShownParts → List StampParts → List ObjectRow → List ℕ
rows_text p axis rows =
    rows_head axis
    ++ (axis_text p axis ++ (flat_map (row_text p axis) rows ++ codes "</div>\n"))

abbrev pub folded_rows : ShownParts → List StampParts → List ObjectRow → List ℕ
folded_rows p axis rows = fold_head (length rows) ++ (rows_text p axis rows ++ codes "</details>\n")

-- those that the first 20 leave are folded away, under the axis again
abbrev pub more_rows : ShownParts → List StampParts → List ObjectRow → List ℕ
more_rows p axis rows = if length rows == 0 then [] else folded_rows p axis rows

abbrev pub all_rows : ShownParts → List StampParts → List ObjectRow → List ℕ
all_rows p axis rows = rows_text p axis (take 20 rows) ++ more_rows p axis (drop 20 rows)
