-- The text that `replay` writes, and the lines that say what differs.
use Rattle.std.specs.Prelude.{ℕ, suc, Bool, List, [], ◌∷◌, ◌++◌, codes, Option, Some, None, if◌then◌else◌}
use Rattle.std.specs.FinMap as finite
use Rattle.std.specs.List.{flat_map}
use Rattle.pseudo_time.specs.declared.nodes.NodeId.{NodeId}
use Rattle.pseudo_time.specs.declared.nodes.NodeKind.{NodeKind}
use Rattle.pseudo_time.specs.declared.nodes.NodeKind.TheVariants.{Broker, Repository}
use Rattle.value_form.specs.Objects.{Objects}
use Rattle.value_form.specs.declared.objects.ObjectId.{ObjectId}
use Rattle.value_form.specs.declared.values.Value.{Value}
use Rattle.effect_form.specs.declared.effects.Effect.{Effect}
use Rattle.report_writer.specs.Parts.{stamp_text}
use Rattle.report_writer.specs.Reports.{named}
use Rattle.snapshot_command.specs.ArchiveLines.{value_line}
use Rattle.replay_command.specs.Nodes.{node_at}
use Rattle.replay_command.specs.declared.counts.Counts.{Counts}
use Rattle.replay_command.specs.declared.judging.Found.{Found}
use Rattle.replay_command.specs.declared.judging.Kind.{Kind}
use Rattle.replay_command.specs.declared.judging.Kind.TheVariants as kind
use Rattle.replay_command.specs.declared.logs.NodeLog.{NodeLog}

-- ---- nodes

abbrev pub front_of : NodeKind → ℕ → ℕ → List ℕ
front_of Repository number volumes = named (codes "node repository ") number ++ named (codes " volumes ") volumes
front_of Broker number volumes = named (codes "node broker ") number

abbrev pub line_of : NodeId → ℕ → List ℕ
line_of n volumes = front_of n.kind n.number volumes ++ 10 ∷ []

abbrev pub if_some : List Effect → List ℕ → List ℕ
if_some [] line = []
if_some (f ∷ log) line = line

-- a node whose log is empty has no line
abbrev pub node_line : NodeId → NodeLog → List ℕ
node_line n l = if_some l.effects (line_of n l.volumes)

-- of the nodes from this place on
abbrev pub node_lines : ℕ → List NodeLog → List ℕ
node_lines place [] = []
node_lines place (l ∷ ls) = node_line (node_at place) l ++ node_lines (suc place) ls

abbrev pub head_text : List NodeLog → List ℕ
head_text nodes = codes "replay\n" ++ node_lines 0 nodes

-- ---- counts

abbrev pub attempts_line : Counts → List ℕ
attempts_line c = named (codes "attempts ") c.attempts ++ (named (codes " committed ") c.committed ++ (named (codes " open ") c.unended ++ 10 ∷ []))

abbrev pub versions_line : ℕ → ℕ → List ℕ
versions_line versions given = named (codes "versions ") versions ++ (named (codes " given ") given ++ 10 ∷ [])

-- ---- values

abbrev pub entry_line : (ObjectId × Value) → List ℕ
entry_line e = value_line e.0 e.1

-- the objects of the map with their values, in rising order; one whose value is Nothing has no line
abbrev pub values_text : Option Objects → List ℕ
values_text None = []
values_text (Some m) = flat_map entry_line (finite.entries m)

-- the map, if its values are asked for
abbrev pub asked : Bool → Objects → Option Objects
asked values m = if values then Some m else None

abbrev pub rest_text : ℕ → Counts → Option Objects → List ℕ
rest_text versions counts values = attempts_line counts ++ (versions_line versions counts.given ++ values_text values)

-- ---- what differs

abbrev pub kind_word : Kind → List ℕ
kind_word kind.Answers = codes "answers"
kind_word kind.Ending = codes "ending"
kind_word kind.Versions = codes "versions"
kind_word kind.Decision = codes "decision"
kind_word kind.Attempt = codes "attempt"

abbrev pub differs_line : Found → List ℕ
differs_line f = codes "differs " ++ (stamp_text f.stamp ++ (32 ∷ (kind_word f.kind ++ 10 ∷ [])))

abbrev pub log_line : ℕ → List ℕ
log_line number = named (codes "differs broker ") number ++ codes " log\n"
