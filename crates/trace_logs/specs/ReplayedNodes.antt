-- A node at a place of a trace, as the code keeps it.
use Rattle.std.specs.Prelude.{◌≡◌, ◌≤◌, ◌++◌, Result, OnOk}
use Rattle.message_form.specs.Ranges.{AreEffects, AreOuts}
use Rattle.world_core.specs.Nodes.{Input}
use Rattle.world_core.specs.Walks.{Base, Life, after_input, all_effects}
use Rattle.trace_logs.specs.declared.replayed_nodes.ReplayedNode.{ReplayedNode}
use Rattle.trace_logs.specs.Cores.{StandsFor, IsAble, kind_of}

-- the node has this life
pub record Lives (b : Base) (s : ReplayedNode) (l : Life) : Type 0 where
  pub gated : s.gated.items ≡ l.gated
  pub fresh : s.fresh.items ≡ l.fresh
  pub outs : s.outs.items ≡ l.outs
  pub core : StandsFor b s.node (all_effects l) l.mind s.core

-- its number, its effects and the messages that it owes are in range, its core is one of its kind, and no call of that has failed
pub record IsSound (s : ReplayedNode) : Type 0 where
  pub low : 1 ≤ s.node.number
  pub high : s.node.number ≤ 16
  pub kind : kind_of s.core ≡ s.node.kind
  pub able : IsAble s.core
  pub log : AreEffects (s.gated.items ++ s.fresh.items)
  pub outs : AreOuts s.outs.items

-- the node was given this input: where it has a life it has the one after it
pub record LivesOn {T E : Type 0} (old new : ReplayedNode) (input : Input) (result : Result T E) : Type 0 where
  pub lives : (b : Base) (l : Life) → Lives b old l → OnOk result (Lives b new (after_input b old.node l input))
  pub node : OnOk result (new.node ≡ old.node)
  pub sound : OnOk result (IsSound new)
