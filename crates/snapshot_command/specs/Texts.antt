-- The text that `snapshot` writes, and the line that refuses one.
use Rattle.std.specs.Prelude.{ℕ, List, [], ◌∷◌, ◌++◌, codes}
use Rattle.std.specs.List.{flat_map}
use Rattle.pseudo_time.specs.TimeParts.{TimeParts}
use Rattle.value_form.specs.declared.values.Value.{Value}
use Rattle.commit_watch.specs.declared.moved.Moved.{Moved}
use Rattle.watch_command.specs.ArchiveLines.{mark_text, moved_line}

abbrev pub snapshot_head : TimeParts → List ℕ
snapshot_head at = codes "snapshot" ++ mark_text at

-- a line for each object whose value isn't Nothing
abbrev pub value_lines : List (Moved Value) → List ℕ
value_lines list = flat_map moved_line list

-- the mark, and then the objects of repository after repository
abbrev pub snapshot_text : TimeParts → List (List (Moved Value)) → List ℕ
snapshot_text at lists = snapshot_head at ++ flat_map value_lines lists

-- no clock is above those of the archives
abbrev pub last_clock_line : List ℕ
last_clock_line = codes "swallow: last clock" ++ 10 ∷ []
