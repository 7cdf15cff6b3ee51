-- How a walk over a trace and a world without rules of turns agree.
use Rattle.std.specs.Prelude.{◌≡◌, ◌⊎◌, ℕ, true, false, List, [], ◌∷◌, ◌++◌, map, reverse, Some, is_some, if◌then◌else◌}
use Rattle.pseudo_time.specs.Lists.{Every, Has}
use Rattle.pseudo_time.specs.declared.nodes.NodeId.{NodeId}
use Rattle.effect_form.specs.declared.effects.Effect.{Effect}
use Rattle.message_form.specs.Growth.{Each}
use Rattle.message_form.specs.Posts.{Post}
use Rattle.serial_model.specs.Questions.{Tree}
use Rattle.plan_form.specs.declared.plans.Plan.{Plan}
use Rattle.world_core.specs.declared.entries.Entry.{Entry}
use Rattle.world_core.specs.declared.entries.Entry.TheVariants.{Tick}
use Rattle.world_core.specs.Walks.{Base, Life, World, opened_log, sent_by, walk}
use Rattle.world_core.specs.Legal.{base_of}
use Rattle.world_core.specs.Pasts.{Call}
use Rattle.world_facts.specs.Rules.{GrownFrom, NodeFacts, Turns}
use Rattle.world_facts.specs.Soft.{Lineage, NodeOk, OldOk, SoftNode, all_effects, Soft, SoftEvent, happened, Mays, SentOk, SentOnce}

-- a life, newest first
abbrev pub soft_of : Life → SoftNode
soft_of l = record { past = reverse l.gated; added = reverse l.fresh; outs = l.outs; mind = l.mind }

-- ---- what earlier runs sent and ticked; the last run first

-- all messages of these runs, the first one first
abbrev pub past_sent : (Plan → List ℕ → Tree) → List Call → List Post
past_sent read [] = []
past_sent read (c ∷ cs) = past_sent read cs ++ sent_by (walk (base_of (read c.plan) c.plan c.trace) c.trace.entries)

-- a Tick with this moment stands in one of them
abbrev pub PastTick : List Call → ℕ → Type 0
PastTick [] t = ⊥
PastTick (c ∷ cs) t = Has (Tick t) c.trace.entries ⊎ PastTick cs t

-- it stands in one of them, or in these entries
abbrev pub Ticked : List Call → List Entry → ℕ → Type 0
Ticked cs es t = Has (Tick t) es ⊎ PastTick cs t

-- ---- worlds that agree

-- `olds` are the logs, oldest effect first, that retirements replaced; `old` are the messages of earlier runs, and `May` holds of the
-- moments that were ticked
module _ (turns : Turns) (F : NodeFacts) (b : Base) (others : NodeId → List Effect) (olds : NodeId → List (List Effect)) (old : List Post) (May : ℕ → Type 0) where
  -- `others` are the logs, oldest effect first, of the nodes that aren't of the trace
  pub record Models (s : Soft) (w : World) : Type 0 where
    pub known : (n : NodeId) → (w.flags n).known ≡ is_some (opened_log b.opened n)
    pub ups : (n : NodeId) → (w.flags n).up ≡ true → (w.flags n).known ≡ true
    pub lives : (n : NodeId) → (w.flags n).known ≡ true → s.node n ≡ soft_of (w.life n)
    pub outside : (n : NodeId) → (w.flags n).known ≡ false → ((s.node n).past ≡ reverse (others n)) × ((s.node n).added ≡ [])
    pub unknown : (n : NodeId) → (w.flags n).known ≡ false → (w.life n).gated ≡ []
    pub retired : (n : NodeId) → s.olds n ≡ map reverse (olds n)
    pub ever : s.ever ≡ old ++ sent_by w
    pub ticks : (t : ℕ) → w.last ≡ Some t → Has t s.ticks
    pub ticked : (t : ℕ) → Has t s.ticks → May t
    pub ready : (n : NodeId) → (w.flags n).known ≡ true → F.Ready b.run b.acts n (all_effects (soft_of (w.life n)))

  pub record Refines (w : World) : Type 0 where
    pub events : List SoftEvent
    pub may : Mays F turns events
    pub models : Models (happened turns events) w

-- between runs: nothing is open, and these are the logs, oldest effect first
pub record Left (turns : Turns) (F : NodeFacts) (logs : NodeId → List Effect) (olds : NodeId → List (List Effect)) (old : List Post) (May : ℕ → Type 0) : Type 0 where
  pub events : List SoftEvent
  pub may : Mays F turns events
  pub gated : (n : NodeId) → ((happened turns events).node n).past ≡ reverse (logs n)
  pub fresh : (n : NodeId) → ((happened turns events).node n).added ≡ []
  pub retired : (n : NodeId) → (happened turns events).olds n ≡ map reverse (olds n)
  pub ever : (happened turns events).ever ≡ old
  pub ticked : (t : ℕ) → Has t (happened turns events).ticks → May t

-- the durable logs at a place of a trace, oldest effect first: of its nodes by the walk, of the others as they were
abbrev pub logs_at : (NodeId → List Effect) → World → NodeId → List Effect
logs_at others w n = if (w.flags n).known then (w.life n).gated else others n

-- What holds of all durable logs, of the older ones that retirements replaced, and of all messages sent, in the past and in the trace;
-- `May` holds of the moments that were ticked.
pub record OlderFacts (F : NodeFacts) (b : Base) (logs : NodeId → List Effect) (olds : NodeId → List (List Effect)) (past sent : List Post) (May : ℕ → Type 0) : Type 0 where
  pub ticks : List ℕ
  pub ticked : (t : ℕ) → Has t ticks → May t
  pub tidy : (n : NodeId) → F.Tidy n (reverse (logs n))
  pub proofs : (n : NodeId) → Each (F.Proof (record { ever = past ++ sent; logs = λ k. reverse (logs k); ticks = ticks }) n) (reverse (logs n))
  pub older : (n : NodeId) → Every (OldOk F (record { ever = past ++ sent; logs = λ k. reverse (logs k); ticks = ticks }) n) (map reverse (olds n))
  pub lineage : (n : NodeId) → Lineage F n (map reverse (olds n)) (reverse (logs n))
  pub sent_ok : Every (SentOnce F (past ++ sent) (λ k. reverse (logs k)) (λ k. map reverse (olds k))) (past ++ sent)
  pub ready : (n : NodeId) → is_some (opened_log b.opened n) ≡ true → F.Ready b.run b.acts n (reverse (logs n))

-- the same where the past is of runs alone, so that there are no older logs
pub record LogFacts (F : NodeFacts) (b : Base) (logs : NodeId → List Effect) (past sent : List Post) (May : ℕ → Type 0) : Type 0 where
  pub ticks : List ℕ
  pub ticked : (t : ℕ) → Has t ticks → May t
  pub tidy : (n : NodeId) → F.Tidy n (reverse (logs n))
  pub grown : (n : NodeId) → (base : List Effect) × F.Begins n base × GrownFrom (F.Fits n) base (reverse (logs n))
  pub proofs : (n : NodeId) → Each (F.Proof (record { ever = past ++ sent; logs = λ k. reverse (logs k); ticks = ticks }) n) (reverse (logs n))
  pub sent_ok : Every (SentOk F (past ++ sent) (λ k. reverse (logs k))) (past ++ sent)
  pub ready : (n : NodeId) → is_some (opened_log b.opened n) ≡ true → F.Ready b.run b.acts n (reverse (logs n))

-- What holds of the whole lives of the nodes of a trace, with what no gate has closed yet: the effects that fit, what each rests on,
-- the messages that are open, what is remembered; and no log shows a later run or another plan.
pub record LivesOk (F : NodeFacts) (b : Base) (logs : NodeId → List Effect) (past : List Post) (May : ℕ → Type 0) (w : World) : Type 0 where
  pub ticks : List ℕ
  pub ticked : (t : ℕ) → Has t ticks → May t
  pub nodes : (n : NodeId) → (w.flags n).known ≡ true → NodeOk F (record { ever = past ++ sent_by w; logs = λ k. reverse (logs k); ticks = ticks }) n (soft_of (w.life n))
  pub ready : (n : NodeId) → (w.flags n).known ≡ true → F.Ready b.run b.acts n (all_effects (soft_of (w.life n)))
