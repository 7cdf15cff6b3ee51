-- What the rules of repositories and of brokers keep, as one. Logs stand newest first.
use Rattle.std.specs.Prelude.{◌≡◌, ℕ, List, []}
use Rattle.pseudo_time.specs.Lists.{Every}
use Rattle.pseudo_time.specs.TimeParts.{TimeParts}
use Rattle.pseudo_time.specs.declared.nodes.NodeKind.{NodeKind}
use Rattle.pseudo_time.specs.declared.nodes.NodeKind.TheVariants.{Repository, Broker}
use Rattle.value_form.specs.declared.acts.ActSpec.{ActSpec}
use Rattle.effect_form.specs.declared.effects.Effect.{Effect}
use Rattle.message_form.specs.declared.turns.Out.{Out}
use Rattle.message_form.specs.Posts.{Post}
use Rattle.serial_model.specs.Questions.{Tree}
use Rattle.repository_core.specs.Hands.{Hand}
use Rattle.repository_core.specs.Turns as hands
use Rattle.object_retirement.specs.Forward.{MayRetire, forwarded}
use Rattle.repository_laws.specs.Facts as repositories
use Rattle.broker_core.specs.Book.{book, tries}
use Rattle.broker_core.specs.Tasks.{tasks}
use Rattle.broker_core.specs.Turns as desks
use Rattle.broker_laws.specs.Fits as brokers
use Rattle.broker_laws.specs.Posts as broker_posts
use Rattle.world_core.specs.Nodes.{Mind, Input, Given, nothing_given, acts_of, repository}
use Rattle.world_core.specs.Nodes.Input.{Going, Taking, Learning, Hearing}
use Rattle.world_facts.specs.Rules.{Around, NodeFacts, Turns}

-- ---- turns

abbrev pub of_hand : Mind → Hand → Given
of_hand mind h = record { effects = h.added; outs = h.outs; mind = record { hands = hands.mind_of h; heard = mind.heard } }

abbrev pub repository_turn : ℕ → List Effect → Mind → Input → Given
repository_turn r log mind Going = nothing_given mind
repository_turn r log mind (Taking from m) = of_hand mind (hands.hand_turn (hands.hand_at r log mind.hands) (hands.Taking from m))
repository_turn r log mind (Learning s committed) = of_hand mind (hands.hand_turn (hands.hand_at r log mind.hands) (hands.Learning s committed))
repository_turn r log mind (Hearing t) = of_hand mind (hands.hand_turn (hands.hand_at r log mind.hands) (hands.Hearing t))

abbrev pub of_desk : Mind → desks.Desk → Given
of_desk mind d = record { effects = d.added; outs = d.outs; mind = record { hands = mind.hands; heard = d.heard } }

module _ (script : List ℕ → Tree) where
  abbrev pub broker_turn : ℕ → List ActSpec → ℕ → List Effect → Mind → Input → Given
  broker_turn run acts b log mind Going = of_desk mind (desks.desk_turn script b run (tasks (acts_of b acts)) (desks.desk_at log mind.heard) desks.Go)
  broker_turn run acts b log mind (Taking from m) = of_desk mind (desks.desk_turn script b run (tasks (acts_of b acts)) (desks.desk_at log mind.heard) (desks.Take from m))
  broker_turn run acts b log mind (Learning s committed) = nothing_given mind
  broker_turn run acts b log mind (Hearing t) = of_desk mind (desks.desk_turn script b run (tasks (acts_of b acts)) (desks.desk_at log mind.heard) (desks.Hear t))

  abbrev pub kind_turn : ℕ → List ActSpec → NodeKind → ℕ → List Effect → Mind → Input → Given
  kind_turn run acts Repository i log mind input = repository_turn i log mind input
  kind_turn run acts Broker i log mind input = broker_turn run acts i log mind input

  abbrev pub node_turns : Turns
  node_turns = λ run acts n log mind input. kind_turn run acts n.kind n.number log mind input

  -- ---- facts, by the kind of node

  abbrev pub kind_fits : NodeKind → ℕ → List Effect → Effect → Type 0
  kind_fits Repository i = repositories.FitsLog i
  kind_fits Broker i = brokers.FitsLog script i

  abbrev pub kind_tidy : NodeKind → ℕ → List Effect → Type 0
  kind_tidy Repository i = repositories.IsTidy i
  kind_tidy Broker i = brokers.IsTidy script i

  abbrev pub kind_post : List Post → NodeKind → ℕ → List Effect → Out → Type 0
  kind_post ever Repository i log out = repositories.PostHolds ever i log out.to out.message
  kind_post ever Broker i log out = broker_posts.PostHolds script i (tries (book log)) out.to out.message

  abbrev pub kind_cause : Around → NodeKind → ℕ → List Effect → Effect → Type 0
  kind_cause w Repository i log f = repositories.RestsOn w.ever (λ k. w.logs (repository k)) w.ticks i f
  kind_cause w Broker i log f = broker_posts.RestsOn i w.ever (book log) f

  abbrev pub kind_mind : List Post → NodeKind → ℕ → Mind → Type 0
  kind_mind ever Repository i mind = Every (repositories.HeldHolds ever i) mind.hands.held
  kind_mind ever Broker i mind = Unit {0}

  abbrev pub kind_is_ready : ℕ → List ActSpec → NodeKind → ℕ → List Effect → Type 0
  kind_is_ready run acts Repository i log = Unit {0}
  kind_is_ready run acts Broker i log = brokers.IsReady script i run (tasks (acts_of i acts)) log

  -- what a retirement of a repository at a mark leaves of a log; a broker's log is never retired
  abbrev pub kind_retires : NodeKind → List Effect → List Effect → Type 0
  kind_retires Repository old new = (at : TimeParts) × MayRetire old at × (new ≡ forwarded old at)
  kind_retires Broker old new = ⊥

  abbrev pub node_facts : NodeFacts
  node_facts = record {
    Fits = λ n. kind_fits n.kind n.number;
    Tidy = λ n. kind_tidy n.kind n.number;
    PostOk = λ ever n log out. kind_post ever n.kind n.number log out;
    Proof = λ w n log f. kind_cause w n.kind n.number log f;
    MindOk = λ ever n mind. kind_mind ever n.kind n.number mind;
    Ready = λ run acts n log. kind_is_ready run acts n.kind n.number log;
    Begins = λ n log. log ≡ [];
    Retires = λ n old new. kind_retires n.kind old new;
  }
