-- What is shown of an object, by the marks of its repository's volumes, newest first.
use Rattle.std.specs.Prelude.{ℕ, zero, suc, ◌+◌, ◌-◌, ◌^◌, min, Bool, true, false, List, [], ◌∷◌, ◌++◌, map, take, length, reverse, ◌&&◌, not, Option, Some, None, if◌then◌else◌}
use Rattle.std.specs.List.{filter, list_any}
use Rattle.pseudo_time.specs.Order.{same_time}
use Rattle.pseudo_time.specs.TimeParts.{TimeParts}
use Rattle.value_form.specs.declared.objects.ObjectId.{ObjectId}
use Rattle.effect_form.specs.declared.effects.Effect.{Effect}
use Rattle.object_history.specs.declared.marks.Mark.{Mark}
use Rattle.object_history.specs.History.{Seen, settle_of, floor_of, reach}
use Rattle.object_history.specs.Kept.{Settled}
use Rattle.repository_log.specs.Logs.{marks}
use Rattle.report_writer.specs.Histories.{falling, versions}
use Rattle.forward_copy.specs.Currents.{current, node_log}
use Rattle.folder_look.specs.declared.choices.Choice.{Choice}
use Rattle.folder_look.specs.declared.looks.VersionRow.{VersionRow}
use Rattle.folder_look.specs.declared.looks.ObjectRow.{ObjectRow}
use Rattle.folder_look.specs.Choices.{has_start}
use Rattle.folder_look.specs.Homes.{is_open, told_at_home}

-- ---- a volume

-- a version from its start to how far it was read, how its stamp was decided, and which older volume alone has it
abbrev pub row_of : Option ℕ → ObjectId → List Mark → Seen → VersionRow
row_of older o m q = record { start = q.start; end = reach m o (Some q); state = settle_of m q.start.stamp; settled = true; value = q.value; older = older }

-- one of these versions starts there
abbrev pub starts_at : List Seen → TimeParts → Bool
starts_at qs x = list_any (λ (q : Seen). same_time x q.start) qs

-- it is chosen, and none of the next volume's versions starts where it does
abbrev pub is_shown : Choice → List Seen → Seen → Bool
is_shown c next q = has_start c q.start && not (starts_at next q.start)

-- each version of the object that is to be shown once, in rising order of start
abbrev pub rows_with : Choice → Option ℕ → List Seen → ObjectId → List Mark → List VersionRow
rows_with c older next o m = map (row_of older o m) (filter (is_shown c next) (versions o m))

-- ---- a repository's volumes, by their logs from volume 0 on

-- what the volume before the one with this number has of the object, and this one hasn't
abbrev pub given_up_at : Choice → ObjectId → ℕ → (before next : List Effect) → List VersionRow
given_up_at c o zero before next = []
given_up_at c o (suc v) before next = rows_with c (Some v) (falling o (marks (reverse next))) o (marks (reverse before))

-- what a volume with this log has of the object and the next one hasn't, and so on over the volumes behind it
abbrev pub given_up : Choice → ObjectId → ℕ → List Effect → List (List Effect) → List VersionRow
given_up c o v log [] = []
given_up c o v log (next ∷ logs) = given_up_at c o (suc v) log next ++ given_up c o (suc v) next logs

-- what is given up from volume 0 on, over so many volumes behind it
abbrev pub given_up_by : Choice → ObjectId → ℕ → List (List Effect) → List VersionRow
given_up_by c o last [] = []
given_up_by c o last (log ∷ logs) = given_up c o 0 log (take last logs)

-- the marks of the current volume
abbrev pub current_marks : List (List Effect) → List Mark
current_marks logs = marks (reverse (node_log logs))

-- each chosen version once: those that older volumes alone have, then the current volume's
abbrev pub rows_of : Choice → ObjectId → List (List Effect) → List VersionRow
rows_of c o logs = given_up_by c o (current logs) logs ++ rows_with c None [] o (current_marks logs)

-- ---- what stands out

-- committed, and in the current volume
abbrev pub is_current : Option Bool → Option ℕ → Bool
is_current (Some true) None = true
is_current (Some true) (Some n) = false
is_current (Some false) older = false
is_current None older = false

-- the last of them that is current, or the one before
abbrev pub last_from : Option VersionRow → List VersionRow → Option VersionRow
last_from found [] = found
last_from found (v ∷ vs) = last_from (if is_current v.state v.older then Some v else found) vs

-- how many of them are undecided, and n
abbrev pub open_from : ℕ → List VersionRow → ℕ
open_from n [] = n
open_from n (v ∷ vs) = open_from (if is_open v.state then min (n + 1) (2 ^ 64 - 1) else n) vs

-- a row of these versions: all of them, how many are undecided, and the current one
abbrev pub whole_row : ObjectId → Option TimeParts → Option TimeParts → List VersionRow → ObjectRow
whole_row o origin floor rows = record {
  object = o;
  origin = origin;
  floor = floor;
  versions = rows;
  hidden = 0;
  count = length rows;
  undecided = open_from 0 rows;
  last = last_from None rows;
}

-- the first of its versions, and how many more there are
abbrev pub cut_row : ℕ → ObjectRow → ObjectRow
cut_row most r = record {
  object = r.object;
  origin = r.origin;
  floor = r.floor;
  versions = take most r.versions;
  hidden = length r.versions - most;
  count = r.count;
  undecided = r.undecided;
  last = r.last;
}

-- an object by the logs of its repository, and by what homes decided
abbrev pub object_row : Choice → Settled → ObjectId → List (List Effect) → ObjectRow
object_row c homes o logs = whole_row o (reach (current_marks logs) o None) (floor_of (current_marks logs)) (map (told_at_home homes) (rows_of c o logs))
