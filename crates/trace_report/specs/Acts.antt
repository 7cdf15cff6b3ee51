-- The acts of a plan as the durable logs of its brokers tell them. Logs stand oldest first.
use Rattle.std.specs.Prelude.{ℕ, ◌==◌, List, [], ◌∷◌, map, reverse, Option, Some, None, if◌then◌else◌}
use Rattle.pseudo_time.specs.declared.nodes.NodeId.{NodeId}
use Rattle.pseudo_time.specs.Nodes.{broker}
use Rattle.value_form.specs.declared.acts.ActSpec.{ActSpec}
use Rattle.effect_form.specs.declared.effects.Effect.{Effect}
use Rattle.effect_form.specs.declared.outcomes.Outcome.{Outcome}
use Rattle.effect_form.specs.declared.outcomes.Outcome.TheVariants as ended
use Rattle.serial_model.specs.Questions.{Tree, talked}
use Rattle.plan_form.specs.declared.plans.Plan.{Plan}
use Rattle.broker_core.specs.Book.{Act, Try, Book}
use Rattle.broker_core.specs.Counted.{counted}
use Rattle.broker_core.specs.Readings.{reading}
use Rattle.broker_core.specs.Tasks.{Task, tasks}
use Rattle.world_core.specs.Nodes.{acts_of}
use Rattle.report_writer.specs.declared.records.TryOutcome.{TryOutcome}
use Rattle.report_writer.specs.declared.records.TryOutcome.TheVariants as outcome
use Rattle.report_writer.specs.declared.records.TryReport.{TryReport}
use Rattle.report_writer.specs.declared.records.ActReport.{ActReport}

-- ---- what counts of a broker's log

-- a broker's own acts of the plan
abbrev pub tasks_of : Plan → ℕ → List Task
tasks_of plan b = tasks (acts_of b plan.acts)

-- the book of what counts of a log of broker b
abbrev pub counted_by : Plan → ℕ → List Effect → Book
counted_by plan b log = counted (reading plan.acts) b plan.run (tasks_of plan b) (reverse log)

-- the acts of this run in a book, newest first
abbrev pub acts_in : Plan → Book → List Act
acts_in plan book = if book.run == plan.run then book.acts else []

-- the acts that broker b has begun in this run, as far as its log counts, newest first
abbrev pub begun_acts : Plan → (NodeId → List Effect) → ℕ → List Act
begun_acts plan logs b = acts_in plan (counted_by plan b (logs (broker b)))

-- ---- how they are shown

-- how an attempt ended, as far as its broker's log says; an act is spent, and no attempt is
abbrev pub shown_end : Option Outcome → TryOutcome
shown_end None = outcome.Open
shown_end (Some ended.Committed) = outcome.Committed
shown_end (Some (ended.Withdrawn l)) = outcome.Withdrawn l
shown_end (Some (ended.Failed l k)) = outcome.Failed l k
shown_end (Some (ended.LaterRead o e)) = outcome.LaterRead o e
shown_end (Some (ended.LaterVersion o x)) = outcome.LaterVersion o x
shown_end (Some (ended.Expired d m)) = outcome.Expired d m
shown_end (Some (ended.Spent c)) = outcome.Open

-- an attempt with the transcript that its answers give
abbrev pub try_shown : (List ℕ → Tree) → Try → TryReport
try_shown script t = record { stamp = t.stamp; outcome = shown_end t.end; lines = (talked (script t.task.script) t.answers).lines }

-- the act with this index, where it was begun
abbrev pub act_begun : ℕ → List Act → Option Act
act_begun i [] = None
act_begun i (a ∷ acts) = if a.task.index == i then Some a else act_begun i acts

-- the attempts of an act, the first one first
abbrev pub tries_shown : (List ℕ → Tree) → Option Act → List TryReport
tries_shown script None = []
tries_shown script (Some a) = map (try_shown script) (reverse a.tries)

abbrev pub spent_at : Option Act → Option ℕ
spent_at None = None
spent_at (Some a) = a.spent

abbrev pub act_with : (List ℕ → Tree) → ActSpec → Option Act → ActReport
act_with script a begun = record {
  index = a.index;
  broker = a.broker;
  home = a.home;
  allowed = a.tries;
  tries = tries_shown script begun;
  spent = spent_at begun;
}

-- an act of the plan, by its broker's log
abbrev pub act_shown : Plan → (NodeId → List Effect) → ActSpec → ActReport
act_shown plan logs a = act_with (reading plan.acts) a (act_begun a.index (begun_acts plan logs a.broker))

abbrev pub acts_shown : Plan → (NodeId → List Effect) → List ActReport
acts_shown plan logs = map (act_shown plan logs) plan.acts
