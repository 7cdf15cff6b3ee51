-- A run at a place of its trace, as the code keeps it.
use Rattle.std.specs.Prelude.{◌≡◌, ℕ, ◌≤◌, ◌^◌, Bool, true, false, List, [], ◌∷◌, map, IfSome, if◌then◌else◌}
use Rattle.std.specs.List.{count_by}
use Rattle.pseudo_time.specs.Lists.{Every}
use Rattle.pseudo_time.specs.declared.nodes.NodeId.{NodeId}
use Rattle.value_form.specs.declared.acts.ActSpec.{ActSpec}
use Rattle.pseudo_time.specs.Nodes.{same_node}
use Rattle.message_form.specs.Ranges.{AreEffects}
use Rattle.serial_model.specs.Questions.{Tree}
use Rattle.world_core.specs.declared.entries.Entry.{Entry}
use Rattle.world_core.specs.declared.entries.Entry.TheVariants as entry
use Rattle.world_core.specs.declared.traces.Opened.{Opened}
use Rattle.world_core.specs.declared.traces.Trace.{Trace}
use Rattle.world_core.specs.Walks.{Base, World, sent_by, opened_life}
use Rattle.trace_logs.specs.declared.replayed_nodes.ReplayedNode.{ReplayedNode}
use Rattle.trace_logs.specs.declared.replays.Replay.{Replay}
use Rattle.trace_logs.specs.Letters.{AreLetters, all_posted}
use Rattle.trace_logs.specs.ReplayedNodes.{Lives, IsSound}

-- ---- what is asked of a trace

-- a node's number and the effects of its log are in range
pub record IsOpened (o : Opened) : Type 0 where
  pub low : 1 ≤ o.node.number
  pub high : o.node.number ≤ 16
  pub log : AreEffects o.effects

-- each node stands there once at most
abbrev pub IsOnce : List Opened → Type 0
IsOnce opened = (n : NodeId) → count_by (λ (o : Opened). same_node o.node n) opened ≤ 1

-- the moment of a Tick is at most 2^63
abbrev pub IsMoment : Entry → Type 0
IsMoment (entry.Tick moment) = moment ≤ 2 ^ 63
IsMoment _ = Unit {0}

-- ---- what is given

abbrev pub base_for : (List ℕ → Tree) → ℕ → List ActSpec → Trace → Base
base_for script run acts t = record { script = script; run = run; acts = acts; start = t.start; opened = t.opened }

-- each of these nodes with its durable log in this world
abbrev pub logs_in : World → List Opened → List Opened
logs_in w opened = map (λ (o : Opened). record { node = o.node; effects = (w.life o.node).gated }) opened

-- ---- on the way

abbrev pub nodes_of : List ReplayedNode → List NodeId
nodes_of replayed = map (λ (s : ReplayedNode). s.node) replayed

-- whether the node stands there
abbrev pub is_among : List NodeId → NodeId → Bool
is_among [] n = false
is_among (m ∷ ms) n = if same_node m n then true else is_among ms n

-- no node stands there twice
abbrev pub Apart : List NodeId → Type 0
Apart [] = Unit {0}
Apart (m ∷ ms) = Every (λ n. same_node m n ≡ false) ms × Apart ms

-- none of the replayed nodes is this one
abbrev pub IsAbsent : NodeId → List ReplayedNode → Type 0
IsAbsent n replayed = Every (λ (s : ReplayedNode). same_node s.node n ≡ false) replayed

-- these are the nodes as they were opened
abbrev pub AreAt : Base → ℕ → List Opened → List ReplayedNode → Type 0
AreAt b start [] [] = Unit {0}
AreAt b start [] (s ∷ replayed) = ⊥
AreAt b start (o ∷ opened) [] = ⊥
AreAt b start (o ∷ opened) (s ∷ replayed) = ((s.node ≡ o.node) × Lives b s (opened_life start o.effects)) × AreAt b start opened replayed

-- the nodes with their durable logs
abbrev pub gated_logs : List ReplayedNode → List Opened
gated_logs replayed = map (λ (s : ReplayedNode). record { node = s.node; effects = s.gated.items }) replayed

-- where the walk from this base has come to
pub record Shows (b : Base) (w : World) (r : Replay) : Type 0 where
  pub run : b.run ≡ r.run
  pub start : b.start ≡ r.start
  pub nodes : nodes_of r.replayed.items ≡ map (λ (o : Opened). o.node) b.opened
  pub apart : Apart (nodes_of r.replayed.items)
  pub replayed : Every (λ (s : ReplayedNode). Lives b s (w.life s.node)) r.replayed.items
  pub known : (n : NodeId) → (w.flags n).known ≡ is_among (nodes_of r.replayed.items) n
  pub sent : all_posted r.letters.items ≡ sent_by w
  pub last : r.last ≡ w.last

-- all that the cores are given is in range
pub record IsFit (r : Replay) : Type 0 where
  pub replayed : Every IsSound r.replayed.items
  pub letters : AreLetters r.letters.items
  pub run : 1 ≤ r.run
  pub start : r.start ≤ 2 ^ 63
  pub last : IfSome r.last (λ moment. moment ≤ 2 ^ 63)
