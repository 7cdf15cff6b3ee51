-- The versions of an object in an archive, and the text that tells them. Marks stand newest first.
use Rattle.std.specs.Prelude.{ℕ, suc, Bool, true, List, [], ◌∷◌, ◌++◌, map, reverse, Option, if◌then◌else◌}
use Rattle.std.specs.List.{flat_map}
use Rattle.pseudo_time.specs.StampParts.{StampParts}
use Rattle.pseudo_time.specs.TimeParts.{TimeParts}
use Rattle.pseudo_time.specs.Order.{lt}
use Rattle.value_form.specs.declared.objects.ObjectId.{ObjectId}
use Rattle.effect_form.specs.declared.effects.Effect.{Effect}
use Rattle.object_history.specs.declared.marks.Mark.{Mark}
use Rattle.object_history.specs.History.{settle_of}
use Rattle.object_history.specs.Settled.{listed}
use Rattle.commit_watch.specs.declared.versions.Version.{Version}
use Rattle.commit_watch.specs.Folds.{version_of}
use Rattle.archive_store.specs.Joined.{joined}
use Rattle.archive_command.specs.Archives.{archive_of, holding_volume, volumes_of}
use Rattle.archive_command.specs.Lines.{audit_head, version_line}

-- the versions of the object, in rising order of start; of equal starts the log's order counts
abbrev pub versions_of : ObjectId → List Mark → List Version
versions_of o m = map (version_of o) (listed (λ x. true) o m)

-- how many versions at the front start no later than x
abbrev pub count_until : TimeParts → List Version → ℕ
count_until x [] = 0
count_until x (v ∷ vs) = if lt x v.start then 0 else suc (count_until x vs)

-- one more, behind those
abbrev pub with_version : Version → List Version → List Version
with_version v [] = v ∷ []
with_version v (w ∷ ws) = if lt v.start w.start then v ∷ w ∷ ws else w ∷ with_version v ws

-- by how stamps were decided, and which volumes have these marks
abbrev pub told_line : (StampParts → Option Bool) → List (List Mark) → List ℕ → Version → List ℕ
told_line settled archive volumes v = version_line v.start (settled v.start.stamp) v.value (holding_volume archive volumes v.object v.start)

-- all versions of the object in the archive, which has these volumes
abbrev pub archive_text : ObjectId → List (List Mark) → List ℕ → List ℕ
archive_text o archive volumes =
    audit_head o ++ flat_map (told_line (λ p. settle_of (reverse (joined archive)) p) archive volumes) (versions_of o (reverse (joined archive)))

-- all versions of the object that stand in the logs of complete volumes
abbrev pub audit_text : ObjectId → List (List Effect) → List ℕ
audit_text o logs = archive_text o (archive_of logs) (volumes_of logs)
