-- What a page shows of a folder.
use Rattle.std.specs.Prelude.{List, [], ◌∷◌, if◌then◌else◌}
use Rattle.std.specs.BTreeSet.{insert_key}
use Rattle.std.specs.FinMap as finite
use Rattle.pseudo_time.specs.StampParts.{StampParts}
use Rattle.value_form.specs.declared.objects.ObjectId.{ObjectId}
use Rattle.value_form.specs.Objects.{object_cmp}
use Rattle.folder_look.specs.declared.choices.Choice.{Choice}
use Rattle.folder_look.specs.declared.looks.MediumLook.{MediumLook}
use Rattle.folder_look.specs.declared.looks.ObjectRow.{ObjectRow}
use Rattle.folder_look.specs.Volumes.{is_log, is_repository}
use Rattle.folder_look.specs.Runs.{with_tries}
use Rattle.folder_look.specs.Shown.{ShownParts}
use Rattle.folder_look.specs.Touches.{Touched, with_log}

-- with what the logs of these media say of steps
abbrev pub with_touches : List MediumLook → Touched → Touched
with_touches [] all = all
with_touches (m ∷ ms) all = with_touches ms (if is_log m then with_log m.log all else all)

abbrev pub touches_of : List MediumLook → Touched
touches_of media = with_touches media finite.empty

-- with the attempts of these media's brokers, 300 of each at most
abbrev pub with_brokers : Choice → Touched → List MediumLook → List StampParts → List StampParts
with_brokers c touched [] all = all
with_brokers c touched (m ∷ ms) all = with_brokers c touched ms (if is_repository m.kind then all else with_tries c touched 300 m.log all)

-- the stamps of the attempts that are shown, in order
abbrev pub tries_of : Choice → Touched → List MediumLook → List StampParts
tries_of c touched media = with_brokers c touched media []

abbrev pub with_names : List ObjectRow → List ObjectId → List ObjectId
with_names [] all = all
with_names (r ∷ rs) all = with_names rs (insert_key object_cmp all r.object)

-- the objects of these rows, and the attempts that are shown
abbrev pub shown_of : Choice → List MediumLook → List ObjectRow → ShownParts
shown_of c media rows = record { choice = c; touched = touches_of media; objects = with_names rows []; tries = tries_of c (touches_of media) media }
