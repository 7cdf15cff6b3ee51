-- A world without fates, holds and rules of turns: nodes that take any input that may come, and all messages ever sent.
-- Logs stand newest first here.
use Rattle.std.specs.Prelude.{ℕ, ◌-◌, Bool, List, [], ◌∷◌, ◌++◌, length, drop, if◌then◌else◌}
use Rattle.std.specs.List.{filter}
use Rattle.pseudo_time.specs.Lists.{Every}
use Rattle.pseudo_time.specs.declared.nodes.NodeId.{NodeId}
use Rattle.value_form.specs.declared.acts.ActSpec.{ActSpec}
use Rattle.effect_form.specs.declared.effects.Effect.{Effect}
use Rattle.message_form.specs.declared.turns.Out.{Out}
use Rattle.message_form.specs.Growth.{Grew, Each}
use Rattle.message_form.specs.Posts.{Post, posts}
use Rattle.pseudo_time.specs.Nodes.{same_node}
use Rattle.world_core.specs.Nodes.{Mind, opened_mind, Input, Given}
use Rattle.world_facts.specs.Rules.{Around, GrownFrom, NodeFacts, SomeOf, Turns, MayInput}

-- a node with its log turned round: its durable effects and those that wait for the next gate, both newest first
pub record SoftNode : Type 0 where
  pub past : List Effect
  pub added : List Effect
  pub outs : List Out
  pub mind : Mind

abbrev pub all_effects : SoftNode → List Effect
all_effects x = x.added ++ x.past

abbrev pub opened_soft : List Effect → ℕ → SoftNode
opened_soft log start = record { past = log; added = []; outs = []; mind = opened_mind start }

abbrev pub with_turn : SoftNode → Given → SoftNode
with_turn x g = record { past = x.past; added = g.effects ++ x.added; outs = x.outs ++ g.outs; mind = g.mind }

abbrev pub gate : SoftNode → SoftNode
gate x = record { past = all_effects x; added = []; outs = []; mind = x.mind }

-- the first `kept` new effects, which stand last
abbrev pub keep : ℕ → List Effect → List Effect
keep kept added = drop (length added - kept) added

abbrev pub kept_log : ℕ → SoftNode → List Effect
kept_log kept x = keep kept x.added ++ x.past

abbrev pub crash : ℕ → ℕ → SoftNode → SoftNode
crash kept start x = opened_soft (kept_log kept x) start

-- `olds` are the logs of each node that retirements replaced, the last one first
pub record Soft : Type 0 where
  pub node : NodeId → SoftNode
  pub olds : NodeId → List (List Effect)
  pub ever : List Post
  pub ticks : List ℕ

-- a function changed at one node
abbrev pub put : {X : Type 0} → NodeId → X → (NodeId → X) → NodeId → X
put n x s k = if same_node n k then x else s k

abbrev pub around : Soft → Around
around w = record { ever = w.ever; logs = λ n. (w.node n).past; ticks = w.ticks }

-- `Start` puts logs in place, before all else; `Retire` puts this log in the place of a node's durable one
pub data SoftEvent : Type 0 where
  Start : (NodeId → List Effect) → SoftEvent
  React : NodeId → ℕ → List ActSpec → Input → SoftEvent
  Gate : NodeId → (Out → Bool) → SoftEvent
  Crash : NodeId → ℕ → ℕ → SoftEvent
  Tick : ℕ → SoftEvent
  Retire : NodeId → List Effect → SoftEvent

module _ (turns : Turns) where
  abbrev pub react : ℕ → List ActSpec → NodeId → SoftNode → Input → SoftNode
  react run acts n x input = with_turn x (turns run acts n (all_effects x) x.mind input)

  abbrev pub happens : Soft → SoftEvent → Soft
  happens w (Start logs) = record { node = λ n. opened_soft (logs n) 0; olds = λ n. []; ever = []; ticks = [] }
  happens w (React n run acts input) = record { node = put n (react run acts n (w.node n) input) w.node; olds = w.olds; ever = w.ever; ticks = w.ticks }
  happens w (Gate n which) = record { node = put n (gate (w.node n)) w.node; olds = w.olds; ever = w.ever ++ posts n (filter which (w.node n).outs); ticks = w.ticks }
  happens w (Crash n kept start) = record { node = put n (crash kept start (w.node n)) w.node; olds = w.olds; ever = w.ever; ticks = w.ticks }
  happens w (Tick t) = record { node = w.node; olds = w.olds; ever = w.ever; ticks = t ∷ w.ticks }
  happens w (Retire n new) = record { node = put n (opened_soft new 0) w.node; olds = put n ((w.node n).past ∷ w.olds n) w.olds; ever = w.ever; ticks = w.ticks }

abbrev pub nothing : Soft
nothing = record { node = λ n. opened_soft [] 0; olds = λ n. []; ever = []; ticks = [] }

-- events stand newest first
abbrev pub happened : Turns → List SoftEvent → Soft
happened turns [] = nothing
happened turns (e ∷ es) = happens turns (happened turns es) e

module _ (F : NodeFacts) where
  -- a node reacts to an input that may come, where its log is ready, and a retirement leaves what it may of a log
  abbrev pub May : Soft → SoftEvent → Type 0
  May w (Start logs) = (n : NodeId) → F.Tidy n (logs n) × Each (F.Proof (record { ever = []; logs = logs; ticks = [] }) n) (logs n) × F.Begins n (logs n)
  May w (React n run acts input) = MayInput (around w) n input × F.Ready run acts n (all_effects (w.node n))
  May w (Gate n which) = Unit {0}
  May w (Crash n kept start) = Unit {0}
  May w (Tick t) = Unit {0}
  May w (Retire n new) = F.Retires n (w.node n).past new

  abbrev pub Mays : Turns → List SoftEvent → Type 0
  Mays turns [] = (n : NodeId) → F.Tidy n [] × F.Begins n []
  Mays turns (Start logs ∷ es) = May (happened turns es) (Start logs)
  Mays turns (React n run acts input ∷ es) = Mays turns es × May (happened turns es) (React n run acts input)
  Mays turns (Gate n which ∷ es) = Mays turns es
  Mays turns (Crash n kept start ∷ es) = Mays turns es
  Mays turns (Tick t ∷ es) = Mays turns es
  Mays turns (Retire n new ∷ es) = Mays turns es × May (happened turns es) (Retire n new)

  -- ---- what always holds

  pub record NodeOk (w : Around) (n : NodeId) (x : SoftNode) : Type 0 where
    pub tidy : F.Tidy n x.past
    pub grew : Grew (F.Fits n) x.past x.added
    pub proofs : Each (F.Proof w n) (x.added ++ x.past)
    pub mind_ok : F.MindOk w.ever n x.mind
    pub outs : Every (F.PostOk w.ever n (x.added ++ x.past)) x.outs

  -- The log of a node grew from one that it may begin with, or from what the last retirement left of the log before it. The older
  -- logs, the last one first, came so too.
  abbrev pub Lineage : NodeId → List (List Effect) → List Effect → Type 0
  Lineage n [] log = (base : List Effect) × F.Begins n base × GrownFrom (F.Fits n) base log
  Lineage n (old ∷ olds) log = Lineage n olds old × ((base : List Effect) × F.Retires n old base × GrownFrom (F.Fits n) base log)

  -- each older log is tidy, and each of its effects has what must have come before it
  abbrev pub OldOk : Around → NodeId → List Effect → Type 0
  OldOk w n log = F.Tidy n log × Each (F.Proof w n) log

  -- the fact of a message that was sent holds of its sender's durable log
  abbrev pub SentOk : List Post → (NodeId → List Effect) → Post → Type 0
  SentOk ever logs p = F.PostOk ever p.from (logs p.from) (record { to = p.to; message = p.message })

  -- or of that or one of its older logs
  abbrev pub SentOnce : List Post → (NodeId → List Effect) → (NodeId → List (List Effect)) → Post → Type 0
  SentOnce ever logs olds p = SomeOf (λ log. F.PostOk ever p.from log (record { to = p.to; message = p.message })) (logs p.from ∷ olds p.from)

  pub record Inv (w : Soft) : Type 0 where
    pub nodes : (n : NodeId) → NodeOk (around w) n (w.node n)
    pub sent : Every (SentOnce w.ever (λ n. (w.node n).past) w.olds) w.ever
    pub older : (n : NodeId) → Every (OldOk (around w) n) (w.olds n)
    pub lineage : (n : NodeId) → Lineage n (w.olds n) (w.node n).past
