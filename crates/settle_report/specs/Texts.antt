-- The text that `settle` writes, by the logs of the repositories before and after it and by its trace.
use Rattle.std.specs.Prelude.{◌≡◌, ℕ, List, [], ◌∷◌, ◌++◌, codes, reverse, Option, Some, None, if◌then◌else◌, length, ◌==◌}
use Rattle.std.specs.List.{flat_map}
use Rattle.std.specs.List.Sorted.{IsPermutation, IsSorted}
use Rattle.std.specs.Fmt.{decimal}
use Rattle.std.specs.Option.{unwrap_or}
use Rattle.pseudo_time.specs.StampParts.{StampParts}
use Rattle.pseudo_time.specs.declared.nodes.NodeId.{NodeId}
use Rattle.pseudo_time.specs.Nodes.{repository}
use Rattle.effect_form.specs.declared.effects.Effect.{Effect}
use Rattle.commit_record.specs.declared.states.RecordState.{RecordState}
use Rattle.commit_record.specs.declared.states.RecordState.TheVariants as state
use Rattle.plan_form.specs.declared.plans.Plan.{Plan}
use Rattle.repository_log.specs.Logs.{record_of}
use Rattle.report_writer.specs.Parts.{object_text, time_text}
use Rattle.report_writer.specs.Reports.{down_text, named}
use Rattle.trace_report.specs.Reports.{downs_shown, nodes_to}
use Rattle.world_core.specs.Legal.{is_within}
use Rattle.world_core.specs.Readings.{gated_log}
use Rattle.world_core.specs.Walks.{is_down, opened_log}
use Rattle.world_core.specs.declared.traces.Trace.{Trace}
use Rattle.std.specs.List.{list_any}
use Rattle.commit_record.specs.States.{States}
use Rattle.settle_report.specs.Ledgers.{record_in}
use Rattle.settle_report.specs.Versions.{open_in, tally_of, version_cmp}
use Rattle.settle_report.specs.declared.tallies.Tally.{Tally}
use Rattle.settle_report.specs.declared.versions.HeldVersion.{HeldVersion}

-- ---- logs

-- the log with which a node was opened
abbrev pub log_before : Trace → NodeId → List Effect
log_before t n = unwrap_or (opened_log t.opened n) []

-- ---- why a version is open

-- its home's record is unknown until a deadline; else its home can't tell
abbrev pub why_text : ℕ → Option RecordState → List ℕ
why_text home (Some (state.Unknown deadline)) = codes " deadline " ++ decimal deadline
why_text home (Some (state.Decided d)) = codes " home " ++ decimal home
why_text home None = codes " home " ++ decimal home

-- the record of an attempt in its home's log, if that is one of so many repositories
abbrev pub home_record : ℕ → (NodeId → List Effect) → StampParts → Option RecordState
home_record repositories logs s = if is_within s.home repositories then record_of (reverse (logs (repository s.home))) s else None

-- ---- lines

abbrev pub head_line : ℕ → List ℕ
head_line repositories = named (codes "settle repositories ") repositories ++ 10 ∷ []

abbrev pub tally_line : ℕ → Tally → List ℕ
tally_line number t =
    named (codes "repository ") number ++ (named (codes " committed ") t.committed ++ (named (codes " aborted ") t.aborted ++ (named (codes " open ") t.undecided ++ 10 ∷ [])))

abbrev pub repository_line : (before after : NodeId → List Effect) → NodeId → List ℕ
repository_line before after n = tally_line n.number (tally_of (before n) (after n))

-- an open version, with the record of its attempt at its home
abbrev pub version_line : HeldVersion → Option RecordState → List ℕ
version_line v record_there = codes "open " ++ (object_text v.object ++ (32 ∷ (time_text v.start ++ (why_text v.start.stamp.home record_there ++ 10 ∷ []))))

abbrev pub open_line : ℕ → (NodeId → List Effect) → HeldVersion → List ℕ
open_line repositories logs v = version_line v (home_record repositories logs v.start.stamp)

-- by the records of the repositories, in their order
abbrev pub line_by : List States → HeldVersion → List ℕ
line_by ledgers v = version_line v (record_in ledgers v.start.stamp)

-- ---- the text

abbrev pub repositories_of : Plan → List NodeId
repositories_of plan = nodes_to repository plan.repositories

-- all versions that the logs of the repositories leave open
abbrev pub all_open : Plan → (NodeId → List Effect) → List HeldVersion
all_open plan logs = flat_map (λ n. open_in (logs n)) (repositories_of plan)

-- The text of a settle by these logs: the open versions are listed by object, then start.
pub record IsSettleText (plan : Plan) (before after : NodeId → List Effect) (t : Trace) (text : List ℕ) : Type 0 where
  pub listed : List HeldVersion
  pub same : IsPermutation (all_open plan after) listed
  pub sorted : IsSorted version_cmp listed
  pub is : text ≡ head_line plan.repositories ++ (flat_map (repository_line before after) (repositories_of plan)
      ++ (flat_map (open_line plan.repositories after) listed ++ flat_map down_text (downs_shown plan t)))

-- by the logs before and at the end of the trace
abbrev pub IsTextOf : Plan → Trace → List ℕ → Type 0
IsTextOf plan t text = IsSettleText plan (log_before t) (gated_log plan t) t text

-- how many versions are open at the end of the trace
abbrev pub open_count : Plan → Trace → ℕ
open_count plan t = length (all_open plan (gated_log plan t))

-- a node is down; else a version is open; else neither
abbrev pub settle_status : Plan → Trace → ℕ
settle_status plan t = if list_any is_down t.entries then 6 else (if open_count plan t == 0 then 0 else 5)
