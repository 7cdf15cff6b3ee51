-- Which vote traces are legal: a rule for each entry, asked of the hall before it. The rules are those of a run's nodes, where a member is a
-- repository and a poll a broker.
use Rattle.std.specs.Prelude.{◌≡◌, ℕ, ◌≤◌, Bool, true, false, List, [], ◌∷◌, ◌++◌, map, length, Some, is_some}
use Rattle.std.specs.List.{count_by}
use Rattle.pseudo_time.specs.Nodes.{same_node, is_broker}
use Rattle.pseudo_time.specs.declared.down_causes.DownCause.{DownCause}
use Rattle.pseudo_time.specs.declared.nodes.NodeId.{NodeId}
use Rattle.pseudo_time.specs.declared.nodes.NodeKind.{NodeKind}
use Rattle.pseudo_time.specs.declared.nodes.NodeKind.TheVariants.{Repository, Broker}
use Rattle.effect_form.specs.declared.effects.Effect.{Effect}
use Rattle.stream_port.specs.declared.fates.Asked.{Asked}
use Rattle.stream_port.specs.declared.fates.Fate.{Fate}
use Rattle.record_votes.specs.Voting.{Line}
use Rattle.world_core.specs.declared.entries.Entry.{Entry}
use Rattle.world_core.specs.declared.entries.Entry.TheVariants.{Take, Go, Learn, Hear, Gate, Crash, Down, Tick}
use Rattle.world_core.specs.declared.traces.Opened.{Opened}
use Rattle.world_core.specs.declared.traces.Trace.{Trace}
use Rattle.world_core.specs.Walks.{opened_log, is_down, sent_by}
use Rattle.world_core.specs.Legal.{MayTake, MayGo, MayHear, MayGate, MayCrash, MayDown, MayTick, Numbered, is_within, post_of, fates_of, asked_of}
use Rattle.vote_traces.specs.Walks.{Base, Hall, world_of, start_hall, step, walk}

-- ---- the rules

abbrev pub IsMember : NodeId → Type 0
IsMember n = is_broker n.kind ≡ false

-- Members alone stop, and nobody learns.
abbrev pub Rule : Base → List Fate → Hall → Entry → Type 0
Rule b fates h (Take n number) = MayTake fates (world_of h) n number
Rule b fates h (Go n) = MayGo (world_of h) n
Rule b fates h (Learn n stamp committed) = ⊥
Rule b fates h (Hear n) = MayHear (world_of h) n
Rule b fates h (Gate n) = MayGate (world_of h) n
Rule b fates h (Crash n kept) = IsMember n × MayCrash (world_of h) n kept
Rule b fates h (Down n cause) = IsMember n × MayDown b.opened (world_of h) n
Rule b fates h (Tick moment) = MayTick b.start fates (world_of h) moment

-- each entry meets its rule
unfoldable pub Meets : Base → List Fate → Hall → List Entry → Type 0
Meets b fates h [] = Unit {0}
Meets b fates h (e ∷ es) = Rule b fates h e × Meets b fates (step b h e) es

-- ---- legal traces

-- three members, and a poll for each line
abbrev pub most_of : ℕ → NodeKind → ℕ
most_of polls Repository = 3
most_of polls Broker = polls

abbrev pub is_node : ℕ → NodeId → Bool
is_node polls n = is_within n.number (most_of polls n.kind)

-- just the members and the polls, each once; no poll has effects
pub record JustVoters (polls : ℕ) (opened : List Opened) : Type 0 where
  pub just : (n : NodeId) → is_some (opened_log opened n) ≡ is_node polls n
  pub once : (n : NodeId) → count_by (λ (o : Opened). same_node o.node n) opened ≤ 1
  pub bare : (n : NodeId) (log : List Effect) → opened_log opened n ≡ Some log → is_broker n.kind ≡ true → log ≡ []

abbrev pub base_of : List Line → Trace → Base
base_of lines t = record { start = t.start; opened = t.opened; lines = lines }

-- A vote trace of these polls is legal, where these are all fates that were ever asked for.
pub record Legal (lines : List Line) (asked : List Asked) (t : Trace) : Type 0 where
  pub nodes : JustVoters (length lines) t.opened
  pub meets : Meets (base_of lines t) (fates_of t.sent) (start_hall (base_of lines t)) t.entries
  pub sent : map post_of t.sent ≡ sent_by (world_of (walk (base_of lines t) t.entries))
  pub numbers : Numbered 1 t.sent
  -- the fates that were asked for before
  pub before : List Asked
  pub fated : asked ≡ before ++ map asked_of t.sent

-- where the trace has come to
abbrev pub hall_after : List Line → Trace → Hall
hall_after lines t = walk (base_of lines t) t.entries

abbrev pub IsOfDowns : List Entry → Type 0
IsOfDowns [] = Unit {0}
IsOfDowns (e ∷ es) = (is_down e ≡ true) × IsOfDowns es

-- its Down stands before each entry of another kind
abbrev pub WasNotOpened : List Entry → NodeId → Type 0
WasNotOpened es n = (front rest : List Entry) × (cause : DownCause) × (es ≡ front ++ Down n cause ∷ rest) × IsOfDowns front
