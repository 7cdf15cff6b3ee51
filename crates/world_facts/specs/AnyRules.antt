-- What the rules of repositories and of brokers keep over any logs, also over logs that no calls could have left. Logs stand newest first.
use Rattle.std.specs.Prelude.{◌≡◌, ℕ, ◌≤◌, length, reverse, List, []}
use Rattle.std.specs.Option.{unwrap_or}
use Rattle.pseudo_time.specs.Lists.{Every}
use Rattle.pseudo_time.specs.declared.nodes.NodeId.{NodeId}
use Rattle.pseudo_time.specs.declared.nodes.NodeKind.{NodeKind}
use Rattle.pseudo_time.specs.declared.nodes.NodeKind.TheVariants.{Repository, Broker}
use Rattle.value_form.specs.declared.acts.ActSpec.{ActSpec}
use Rattle.effect_form.specs.declared.effects.Effect.{Effect}
use Rattle.message_form.specs.declared.turns.Out.{Out}
use Rattle.message_form.specs.Posts.{Post}
use Rattle.serial_model.specs.Questions.{Tree}
use Rattle.repository_laws.specs.Facts.{HeldHolds}
use Rattle.repository_laws.specs.AnyLogs.{Refuses}
use Rattle.broker_core.specs.Tasks.{Task, tasks}
use Rattle.broker_laws.specs.AnyLogs.{Joins, Rests, Says}
use Rattle.world_core.specs.declared.traces.Trace.{Trace}
use Rattle.world_core.specs.Nodes.{Mind, acts_of}
use Rattle.world_core.specs.Walks.{opened_log}
pub use Rattle.world_facts.specs.Rules.{GrownFrom}
use Rattle.world_facts.specs.Rules.{NodeFacts}

module _ (script : List ℕ → Tree) (run : ℕ) (acts : List ActSpec) where
  -- broker b's acts of the plan
  abbrev pub tasks_of : ℕ → List Task
  tasks_of b = tasks (acts_of b acts)

  -- a broker adds what counts
  abbrev pub any_fits : NodeKind → ℕ → List Effect → Effect → Type 0
  any_fits Repository i log f = Unit {0}
  any_fits Broker i log f = Joins script i run (tasks_of i) log f

  -- a repository refuses rightly, and a broker says what holds of its tries of this run
  abbrev pub any_post : List Post → NodeKind → ℕ → List Effect → Out → Type 0
  any_post ever Repository i log out = Refuses ever i log out.to out.message
  any_post ever Broker i log out = Says script i run (tasks_of i) log out.to out.message

  -- what a broker adds has its cause
  abbrev pub any_cause : List Post → NodeKind → ℕ → List Effect → Effect → Type 0
  any_cause ever Repository i log f = Unit {0}
  any_cause ever Broker i log f = Rests script i run (tasks_of i) ever log f

  -- what a repository holds was sent by those who are to be answered
  abbrev pub any_mind : List Post → NodeKind → ℕ → Mind → Type 0
  any_mind ever Repository i mind = Every (HeldHolds ever i) mind.hands.held
  any_mind ever Broker i mind = Unit {0}

  -- the logs were these when the run began
  abbrev pub any_facts : (NodeId → List Effect) → NodeFacts
  any_facts own = record {
    Fits = λ n. any_fits n.kind n.number;
    Tidy = λ n. GrownFrom (any_fits n.kind n.number) (own n);
    PostOk = λ ever n log out. any_post ever n.kind n.number log out;
    Proof = λ w n log f. length (own n) ≤ length log → any_cause w.ever n.kind n.number log f;
    MindOk = λ ever n mind. any_mind ever n.kind n.number mind;
    Ready = λ r a n log. (r ≡ run) × (a ≡ acts);
    Begins = λ n log. Unit {0};
    Retires = λ n old new. ⊥;
  }

-- the log that a node of a trace was opened with, oldest effect first
abbrev pub log_opened : Trace → NodeId → List Effect
log_opened t n = unwrap_or (opened_log t.opened n) []

-- and newest effect first
abbrev pub log_before : Trace → NodeId → List Effect
log_before t n = reverse (log_opened t n)
