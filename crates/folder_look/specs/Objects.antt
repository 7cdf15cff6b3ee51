-- The objects of a folder, and the logs that each is read from. Logs stand oldest first, media in the order of their volumes.
use Rattle.std.specs.Prelude.{ℕ, ◌-◌, Bool, List, [], ◌∷◌, length, take, ◌==◌, ◌&&◌, if◌then◌else◌}
use Rattle.std.specs.List.{filter}
use Rattle.std.specs.BTreeSet.{insert_key}
use Rattle.value_form.specs.declared.objects.ObjectId.{ObjectId}
use Rattle.value_form.specs.Objects.{object_cmp}
use Rattle.effect_form.specs.declared.effects.Effect.{Effect}
use Rattle.effect_form.specs.declared.effects.Effect.TheVariants as effect
use Rattle.folder_look.specs.declared.choices.Choice.{Choice}
use Rattle.folder_look.specs.declared.looks.MediumLook.{MediumLook}
use Rattle.folder_look.specs.declared.looks.ObjectRow.{ObjectRow}
use Rattle.folder_look.specs.Choices.{has_object}
use Rattle.object_history.specs.Kept.{Settled}
use Rattle.folder_look.specs.Homes.{homes_of}
use Rattle.folder_look.specs.Rows.{cut_row, object_row}
use Rattle.folder_look.specs.Volumes.{is_log}

-- ---- objects

-- with the object that an effect puts or reads, in order
abbrev pub with_object : Effect → List ObjectId → List ObjectId
with_object (effect.Put o x v) all = insert_key object_cmp all o
with_object (effect.Stretch o x) all = insert_key object_cmp all o
with_object (effect.Run n) all = all
with_object (effect.Act i h t k c x) all = all
with_object (effect.Try i s) all = all
with_object (effect.Got k v) all = all
with_object (effect.Acked k) all = all
with_object (effect.End i o) all = all
with_object (effect.Mark at) all = all
with_object effect.Whole all = all
with_object (effect.Begin s d) all = all
with_object (effect.Decide s d) all = all
with_object (effect.Learn s c) all = all

abbrev pub with_objects : List Effect → List ObjectId → List ObjectId
with_objects [] all = all
with_objects (e ∷ es) all = with_objects es (with_object e all)

abbrev pub with_media : List MediumLook → List ObjectId → List ObjectId
with_media [] all = all
with_media (m ∷ ms) all = with_media ms (if is_log m then with_objects m.log all else all)

-- each object of the folder once, by repository, then number
abbrev pub objects_of : List MediumLook → List ObjectId
objects_of media = with_media media []

-- those that are chosen
abbrev pub chosen : Choice → List MediumLook → List ObjectId
chosen c media = filter (has_object c) (objects_of media)

-- ---- rows

-- it is a volume of the repository, and neither totals nor votes
abbrev pub is_volume : ℕ → MediumLook → Bool
is_volume r m = is_log m && m.number == r

-- the logs of the repository's volumes, in their order
abbrev pub logs_of : ℕ → List MediumLook → List (List Effect)
logs_of r [] = []
logs_of r (m ∷ ms) = if is_volume r m then m.log ∷ logs_of r ms else logs_of r ms

-- an object by its repository's logs and what homes decided, with so many versions at most
abbrev pub row_in : Choice → List MediumLook → Settled → ℕ → ObjectId → ObjectRow
row_in c media homes most o = cut_row most (object_row c homes o (logs_of o.repository media))

-- a row for each object, with so many versions together at most
abbrev pub rows_in : Choice → List MediumLook → Settled → ℕ → List ObjectId → List ObjectRow
rows_in c media homes most [] = []
rows_in c media homes most (o ∷ os) = row_in c media homes most o ∷ rows_in c media homes (most - length (row_in c media homes most o).versions) os

-- the first 200 objects, with 2,000 versions at most
abbrev pub rows_of : Choice → List MediumLook → List ObjectRow
rows_of c media = rows_in c media (homes_of media) 2000 (take 200 (chosen c media))

-- how many objects aren't shown
abbrev pub objects_left : Choice → List MediumLook → ℕ
objects_left c media = length (chosen c media) - 200
