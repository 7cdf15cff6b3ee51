use Rattle.std.specs.Prelude.{◌≡◌, ◌++◌, List, length}
use Rattle.std.specs.List.{flat_map}
use Rattle.value_form.specs.declared.values.Value.{Value}
use Rattle.commit_watch.specs.declared.moved.Moved.{Moved}
use Rattle.snapshot_command.specs.Snapshots.{AreParts}
use Rattle.snapshot_command.specs.Texts.{value_lines}
use Rattle.snapshot_command.proofs.texts.push_parts.Given as goal

-- the lists so far
abbrev pub invariant-loop-place : goal.invariant-loop-place
invariant-loop-place l = (lists : List (List (Moved Value))) × (length lists ≡ l.place) × AreParts l.known l.mark lists × (l.out.items ≡ l.fn.out.items ++ flat_map value_lines lists)
