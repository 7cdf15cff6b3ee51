-- The last committed versions of objects, as the code keeps them. Marks stand newest first.
use Rattle.std.specs.Prelude.{◌≡◌, Bool, false, List, Option, Some, None}
use Rattle.std.specs.Map.{lookup}
use Rattle.std.specs.Option.{option_map}
use Rattle.std.specs.BTreeMap.{is_at}
use Rattle.pseudo_time.specs.TimeParts.{TimeParts}
use Rattle.pseudo_time.specs.Order.{lt}
use Rattle.value_form.specs.declared.objects.ObjectId.{ObjectId}
use Rattle.value_form.specs.declared.values.Value.{Value}
use Rattle.value_form.specs.Objects.{object_cmp}
use Rattle.object_history.specs.declared.marks.Mark.{Mark}
use Rattle.object_history.specs.History.{Seen, scan}
use Rattle.world_core.specs.Deeds.{RunLogs, committed}
use Rattle.report_writer.specs.declared.records.Final.{Final}
use Rattle.trace_report.specs.declared.last_versions.Last.{Last}
use Rattle.trace_report.specs.declared.last_versions.LastVersions.{LastVersions}

-- what a map from objects to versions has
abbrev pub last_at : List (ObjectId × Last) → ObjectId → Option Last
last_at entries o = lookup (is_at (object_cmp o)) entries

-- a version by its start and its value
abbrev pub last_parts : Last → TimeParts × Value
last_parts l = (l.start, l.value)

abbrev pub seen_parts : Seen → TimeParts × Value
seen_parts q = (q.start, q.value)

-- it starts above x
abbrev pub is_above : Option Last → TimeParts → Bool
is_above None x = false
is_above (Some l) x = lt x l.start

-- of each object they have the committed put with the greatest start among these marks
pub record AreLast (k : RunLogs) (m : List Mark) (d : LastVersions) : Type 0 where
  pub each : (o : ObjectId) → option_map last_parts (last_at d.versions.entries o) ≡ option_map seen_parts (scan (λ x. committed k x.stamp) o m)

-- the line of a final
abbrev pub final_last : ObjectId × Last → Final
final_last entry = record { object = entry.0; value = entry.1.value }
