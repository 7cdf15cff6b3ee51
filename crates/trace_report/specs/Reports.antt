-- The report of a run, and the summary of a load, by the plan, the durable logs of the nodes and the trace. Logs stand oldest first.
use Rattle.std.specs.Prelude.{ℕ, zero, suc, ◌-◌, List, [], ◌∷◌, ◌++◌, length, map, reverse, codes, slice_get, Option, Some, None}
use Rattle.std.specs.FinMap as finite
use Rattle.std.specs.Fmt.{decimal}
use Rattle.std.specs.List.{flat_map}
use Rattle.std.specs.Option.{unwrap_or}
use Rattle.pseudo_time.specs.declared.nodes.NodeId.{NodeId}
use Rattle.pseudo_time.specs.declared.down_causes.DownCause.{DownCause}
use Rattle.pseudo_time.specs.Nodes.{repository, broker}
use Rattle.value_form.specs.declared.objects.ObjectId.{ObjectId}
use Rattle.value_form.specs.declared.transcripts.Line.{Line}
use Rattle.value_form.specs.declared.transcripts.Line.TheVariants as line
use Rattle.value_form.specs.declared.values.Value.{Value}
use Rattle.value_form.specs.ValueText.{value_text}
use Rattle.effect_form.specs.declared.effects.Effect.{Effect}
use Rattle.plan_form.specs.declared.plans.Plan.{Plan}
use Rattle.broker_core.specs.Readings.{reading}
use Rattle.world_core.specs.declared.traces.Opened.{Opened}
use Rattle.world_core.specs.declared.traces.Trace.{Trace}
use Rattle.world_core.specs.Deeds.{RunLogs, run_of}
use Rattle.world_core.specs.Readings.{gated_log}
use Rattle.world_core.specs.Walks.{opened_log}
use Rattle.report_writer.specs.declared.records.TryOutcome.{TryOutcome}
use Rattle.report_writer.specs.declared.records.TryOutcome.TheVariants as outcome
use Rattle.report_writer.specs.declared.records.TryReport.{TryReport}
use Rattle.report_writer.specs.declared.records.ActReport.{ActReport}
use Rattle.report_writer.specs.declared.records.ActOutcome.TheVariants.{Open}
use Rattle.report_writer.specs.declared.records.Final.{Final}
use Rattle.report_writer.specs.declared.records.Down.{Down}
use Rattle.report_writer.specs.declared.records.Report.{Report}
use Rattle.report_writer.specs.declared.records.Wire.{Wire}
use Rattle.report_writer.specs.Standings.{count_of}
use Rattle.report_writer.specs.Reports.{report_text, down_text, named}
use Rattle.world_core.specs.Counts.{down_cause, tick_count, crash_count, ask_count}
use Rattle.trace_report.specs.Acts.{acts_shown}
use Rattle.trace_report.specs.Finals.{last_values}

-- ---- nodes that are down

abbrev pub down_shown : NodeId → Option DownCause → List Down
down_shown n None = []
down_shown n (Some cause) = record { node = n; cause = cause } ∷ []

-- nodes with the numbers 1 to this one
abbrev pub nodes_to : (ℕ → NodeId) → ℕ → List NodeId
nodes_to node zero = []
nodes_to node (suc n) = nodes_to node n ++ node (suc n) ∷ []

-- the nodes of a plan, repositories first, rising
abbrev pub nodes_of : Plan → List NodeId
nodes_of plan = nodes_to repository plan.repositories ++ nodes_to broker plan.brokers

abbrev pub downs_shown : Plan → Trace → List Down
downs_shown plan t = flat_map (λ n. down_shown n (down_cause n t.entries)) (nodes_of plan)

-- ---- the report

-- the run of the plan over these logs
abbrev pub run_over : Plan → (NodeId → List Effect) → RunLogs
run_over plan logs = run_of (reading plan.acts) plan (λ n. reverse (logs n))

abbrev pub final_of : ObjectId × Value → Final
final_of entry = record { object = entry.0; value = entry.1 }

abbrev pub finals_shown : Plan → (NodeId → List Effect) → List Final
finals_shown plan logs = map final_of (finite.entries (last_values (run_over plan logs)))

abbrev pub wire_shown : Trace → Wire
wire_shown t = record { messages = length t.sent; asks = ask_count t.sent; ticks = tick_count t.entries; crashes = crash_count t.entries }

abbrev pub report_by : Plan → (NodeId → List Effect) → Trace → Report
report_by plan logs t = record {
  run = plan.run;
  acts = acts_shown plan logs;
  finals = finals_shown plan logs;
  downs = downs_shown plan t;
  wire = Some (wire_shown t);
}

abbrev pub run_text_by : Plan → (NodeId → List Effect) → Trace → List ℕ
run_text_by plan logs t = report_text (report_by plan logs t)

-- by the durable logs at the end of the trace
abbrev pub run_text : Plan → Trace → List ℕ
run_text plan t = run_text_by plan (gated_log plan t) t

-- how many acts have no outcome
abbrev pub open_by : Plan → (NodeId → List Effect) → ℕ
open_by plan logs = count_of Open (acts_shown plan logs)

abbrev pub open_acts : Plan → Trace → ℕ
open_acts plan t = open_by plan (gated_log plan t)

-- ---- the summary of a load

-- the value that a transcript prints last
abbrev pub printed : Option Value → List Line → Option Value
printed last [] = last
printed last (line.Print v ∷ ls) = printed (Some v) ls
printed last (line.Read o v ∷ ls) = printed last ls
printed last (line.Wrote o v ∷ ls) = printed last ls

abbrev pub sum_by : TryOutcome → List Line → Option Value
sum_by outcome.Committed ls = printed None ls
sum_by _ ls = None

-- what the committed attempt of these printed; it is the last one
abbrev pub sum_in : Option TryReport → Option Value
sum_in None = None
sum_in (Some t) = sum_by t.outcome t.lines

abbrev pub tries_in : Option ActReport → List TryReport
tries_in None = []
tries_in (Some a) = a.tries

abbrev pub last_of : {X : Type 0} → List X → Option X
last_of xs = slice_get xs (length xs - 1)

abbrev pub sum_text : Option Value → List ℕ
sum_text None = codes "sum none" ++ 10 ∷ []
sum_text (Some v) = codes "sum " ++ (value_text v ++ 10 ∷ [])

abbrev pub load_line : (seed count : ℕ) → List ℕ
load_line seed count = named (codes "swallow load ") seed ++ (32 ∷ (decimal count ++ 10 ∷ []))

abbrev pub acts_line : (acts unfinished : ℕ) → List ℕ
acts_line acts unfinished = named (codes "acts ") acts ++ (named (codes " open ") unfinished ++ 10 ∷ [])

-- the plan of a load has one act more than its count
abbrev pub load_text_by : ℕ → Plan → (NodeId → List Effect) → Trace → List ℕ
load_text_by seed plan logs t =
    load_line seed (length plan.acts - 1)
    ++ (acts_line (length plan.acts) (open_by plan logs)
    ++ (sum_text (sum_in (last_of (tries_in (last_of (acts_shown plan logs))))) ++ flat_map down_text (downs_shown plan t)))

abbrev pub load_text : ℕ → Plan → Trace → List ℕ
load_text seed plan t = load_text_by seed plan (gated_log plan t) t

-- ---- logs as a list

-- a node's log in a list of nodes; empty where it isn't there
abbrev pub logs_by : List Opened → NodeId → List Effect
logs_by logs n = unwrap_or (opened_log logs n) []
