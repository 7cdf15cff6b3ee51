-- The map as of a stamp: what an archive says of it, and the plain map that committed attempts leave.
use Rattle.std.specs.Prelude.{◌≡◌, ◌==◌, ◌≤◌, ℕ, Bool, true, List, [], ◌++◌, map, reverse, if◌then◌else◌, Some, None}
use Rattle.pseudo_time.specs.Nodes.{repository}
use Rattle.pseudo_time.specs.StampParts.{StampParts}
use Rattle.pseudo_time.specs.TimeParts.{TimeParts}
use Rattle.pseudo_time.specs.declared.nodes.NodeId.{NodeId}
use Rattle.value_form.specs.declared.objects.ObjectId.{ObjectId}
use Rattle.value_form.specs.declared.values.Value.{Value}
use Rattle.value_form.specs.declared.values.Value.TheVariants.{Nothing}
use Rattle.value_form.specs.Objects.{Objects, value_at}
use Rattle.effect_form.specs.declared.effects.Effect.{Effect}
use Rattle.object_history.specs.declared.marks.Mark.{Mark}
use Rattle.object_history.specs.declared.marks.Mark.TheVariants as mark
use Rattle.object_history.specs.Views.{value_of}
use Rattle.archive_store.specs.Latest.{last_below}
use Rattle.archive_store.specs.Opens.{first_open}
use Rattle.plan_form.specs.declared.plans.Plan.{Plan}
use Rattle.repository_log.specs.Logs.{known}
use Rattle.world_core.specs.declared.traces.Trace.{Trace}
use Rattle.world_core.specs.Deeds.{RunLogs, before}
use Rattle.world_core.specs.Legal.{in_plan}
use Rattle.world_core.specs.Pasts.{OpenedWith}
use Rattle.world_core.specs.Readings.{gated_log}
use Rattle.serial_law.specs.Earlier.{Earlier, WereLeftOrRetired}
use Rattle.serial_law.specs.Serials.{olds_in, whole_in}
use Rattle.serial_law.specs.Wholes.{whole_run}
use Rattle.archive_law.specs.Archives.{archive, log_after, volumes_with}

-- the first pseudotime of a stamp: below it lie those of lesser stamps alone
abbrev pub first_of : StampParts → TimeParts
first_of s = record { stamp = s; step = 1 }

-- what the map has of the object, where that is one of the repository
abbrev pub value_in : ℕ → Objects → ObjectId → Value
value_in r map o = if o.repository == r then value_at map o else Nothing

-- Where no version of the archive below the stamp is undecided, it has of each object what the map has, cut to the repository's objects.
abbrev pub TellsMap : ℕ → List Mark → StampParts → Objects → Type 0
TellsMap r m s map = first_open m (first_of s) ≡ None → (o : ObjectId) → value_of (last_below m o (first_of s)) ≡ value_in r map o

-- A run of a plan with so many repositories and no acts, over what the calls left, with all versions that ever stood: each committed attempt of the
-- past is the writes that it put.
abbrev pub idle_run : List Earlier → ℕ → RunLogs
idle_run cs n = whole_run (olds_in cs) (record { repositories = n; logs = λ (m : NodeId). reverse (log_after cs m); tries = [] })

-- And at the end of a run, over logs that earlier calls left, the volumes of each of its repositories tell the map that the scripts of its committed
-- attempts leave, each carried out alone.
abbrev pub TellsRun : Plan → Trace → Type 0
TellsRun plan t = (logs : NodeId → List Effect) (left : WereLeftOrRetired logs) → OpenedWith t.opened logs → (r : ℕ) → in_plan plan (repository r) ≡ true → (s : StampParts) →
    TellsMap r (archive (volumes_with left.0 r (gated_log plan t (repository r)))) s (before (whole_in left.0 plan t) s)

-- ---- one map of several repositories

-- how attempts were decided, each by its home
abbrev pub Decided : Type 0
Decided = StampParts × Bool

-- the log of the attempt's home, one of repositories 1 to n, knows this decision
abbrev pub HomeKnows : List Earlier → ℕ → Decided → Type 0
HomeKnows cs n d = (1 ≤ d.0.home) × (d.0.home ≤ n) × (known (reverse (log_after cs (repository d.0.home))) d.0 ≡ Some d.1)

-- what an archive says with decisions that homes know and it doesn't, newest mark first
abbrev pub beside_homes : List Decided → List Mark → List Mark
beside_homes ds m = map (λ (d : Decided). mark.Settle d.0 d.1) ds ++ m
