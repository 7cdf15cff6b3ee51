-- What every builder keeps to.
use Rattle.std.specs.Prelude.{◌≤◌}
use Rattle.script_form.specs.declared.buildings.Building.{Building}
use Rattle.script_form.specs.Building.{rows_so_far}
use Rattle.script_form.specs.RowFeeds.{peak}

-- never were more than 16 blocks open
abbrev pub IsSound : Building → Type 0
IsSound b = peak 0 (rows_so_far b) ≤ 16
