-- A version as it is shown, by what the code keeps of it.
use Rattle.std.specs.Prelude.{ℕ, Bool, true, Option, ◌&&◌, not}
use Rattle.std.specs.BTreeSet.{BTreeSet, contains}
use Rattle.std.specs.FinMap as finite
use Rattle.pseudo_time.specs.TimeParts.{TimeParts, time_cmp}
use Rattle.object_history.specs.History.{top, latest}
use Rattle.object_history.specs.Kept.{Settled}
use Rattle.report_writer.specs.declared.versions.Version.{Version}
use Rattle.folder_look.specs.declared.choices.Choice.{Choice}
use Rattle.folder_look.specs.declared.looks.VersionRow.{VersionRow}
use Rattle.folder_look.specs.Choices.{has_start}

abbrev pub told_row : Option ℕ → Settled → Option TimeParts → Version → VersionRow
told_row older settled floor v = record { start = v.start; end = latest floor (top v.start v.end); state = finite.get settled v.start.stamp; settled = true; value = v.value; older = older }

-- it is chosen, and doesn't start where one of the next volume does
abbrev pub is_told_in : Choice → BTreeSet TimeParts → Version → Bool
is_told_in c next v = has_start c v.start && not (contains time_cmp next v.start)
