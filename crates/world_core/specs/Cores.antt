-- A node's core at a place of a walk: where the log and the mind of its life have led it. It may keep any histories.
use Rattle.std.specs.Prelude.{◌≡◌, ℕ, List, [], ◌++◌}
use Rattle.pseudo_time.specs.declared.nodes.NodeId.{NodeId}
use Rattle.pseudo_time.specs.declared.nodes.NodeKind.{NodeKind}
use Rattle.pseudo_time.specs.declared.nodes.NodeKind.TheVariants.{Repository, Broker}
use Rattle.value_form.specs.declared.acts.ActSpec.{ActSpec}
use Rattle.effect_form.specs.declared.effects.Effect.{Effect}
use Rattle.message_form.specs.declared.turns.Turn.{Turn}
use Rattle.repository_core.specs.Cores.{Core}
use Rattle.broker_core.specs.Parts.{BrokerParts}
use Rattle.broker_core.specs.Tasks.{Scripted}
use Rattle.world_core.specs.Nodes.{Mind, Given, acts_of}
use Rattle.world_core.specs.Walks.{Base}

-- a broker's own acts of the plan; a repository has none
abbrev pub acts_for : NodeKind → ℕ → List ActSpec → List ActSpec
acts_for Repository i acts = []
acts_for Broker i acts = acts_of i acts

abbrev pub own_acts : NodeId → List ActSpec → List ActSpec
own_acts n acts = acts_for n.kind n.number acts

-- the core of a repository is where this log, oldest effect first, and this mind have led it
pub record IsRepository {H : Type 0} (n : NodeId) (l : List Effect) (m : Mind) (r : Core H) : Type 0 where
  pub kind : n.kind ≡ Repository
  pub number : r.number ≡ n.number
  pub log : r.log ≡ l
  pub mind : r.mind ≡ m.hands

-- and that of a broker
pub record IsBroker (b : Base) (n : NodeId) (l : List Effect) (m : Mind) (p : BrokerParts) : Type 0 where
  pub kind : n.kind ≡ Broker
  pub number : p.number ≡ n.number
  pub run : p.run ≡ b.run
  pub acts : p.acts ≡ acts_of n.number b.acts
  pub log : p.log ≡ l
  pub heard : p.heard ≡ m.heard
  pub scripted : Scripted b.script p.acts

-- a repository's turn is what the rules give, and its core continues from there
pub record RepositoryGave {H : Type 0} (n : NodeId) (log : List Effect) (g : Given) (t : Turn) (new : Core H) : Type 0 where
  pub effects : t.effects ≡ g.effects
  pub outs : t.outs ≡ g.outs
  pub stands : IsRepository n (log ++ g.effects) g.mind new

-- and a broker's
pub record BrokerGave (b : Base) (n : NodeId) (log : List Effect) (g : Given) (t : Turn) (new : BrokerParts) : Type 0 where
  pub effects : t.effects ≡ g.effects
  pub outs : t.outs ≡ g.outs
  pub stands : IsBroker b n (log ++ g.effects) g.mind new
