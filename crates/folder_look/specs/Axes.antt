-- The axis of a picture: the stamps that are shown, in order, and where a stamp stands on it.
use Rattle.std.specs.Prelude.{ℕ, ◌+◌, List, [], ◌∷◌, Option, Some, None, nat_lt, ◌&&◌, if◌then◌else◌}
use Rattle.std.specs.BTreeSet.{insert_key}
use Rattle.std.specs.Ordering.{is_lt}
use Rattle.pseudo_time.specs.StampParts.{StampParts, stamp_cmp}
use Rattle.pseudo_time.specs.TimeParts.{TimeParts}
use Rattle.folder_look.specs.declared.looks.VersionRow.{VersionRow}
use Rattle.folder_look.specs.declared.looks.ObjectRow.{ObjectRow}

-- the stamps with that of an end, if there is one
abbrev pub with_end : List StampParts → Option TimeParts → List StampParts
with_end axis None = axis
with_end axis (Some t) = insert_key stamp_cmp axis t.stamp

-- with the stamps of a version's start and end
abbrev pub with_version : List StampParts → VersionRow → List StampParts
with_version axis v = with_end (insert_key stamp_cmp axis v.start.stamp) v.end

abbrev pub with_versions : List StampParts → List VersionRow → List StampParts
with_versions axis [] = axis
with_versions axis (v ∷ vs) = with_versions (with_version axis v) vs

-- with those of an object's origin and versions
abbrev pub with_row : List StampParts → ObjectRow → List StampParts
with_row axis r = with_versions (with_end axis r.origin) r.versions

abbrev pub with_rows : List StampParts → List ObjectRow → List StampParts
with_rows axis [] = axis
with_rows axis (r ∷ rs) = with_rows (with_row axis r) rs

-- the stamps of all rows, in order
abbrev pub axis_of : List ObjectRow → List StampParts
axis_of rows = with_rows [] rows

-- n and how many of these stamps come before this one; a picture has at most a million columns
abbrev pub columns_below : ℕ → StampParts → List StampParts → ℕ
columns_below n s [] = n
columns_below n s (p ∷ ps) = columns_below (if is_lt (stamp_cmp p s) && nat_lt n 1000000 then n + 1 else n) s ps

-- the column of a stamp
abbrev pub column : List StampParts → StampParts → ℕ
column axis s = columns_below 0 s axis
