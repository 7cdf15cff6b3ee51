-- What a run requires of the rules of its nodes. Logs stand newest first here.
use Rattle.std.specs.Prelude.{◌≡◌, ◌⊎◌, ℕ, Bool, true, List, [], ◌∷◌, ◌++◌, reverse}
use Rattle.pseudo_time.specs.Lists.{Every, Has}
use Rattle.pseudo_time.specs.StampParts.{StampParts}
use Rattle.pseudo_time.specs.declared.decisions.Decision.{Decision}
use Rattle.pseudo_time.specs.declared.nodes.NodeId.{NodeId}
use Rattle.value_form.specs.declared.acts.ActSpec.{ActSpec}
use Rattle.effect_form.specs.declared.effects.Effect.{Effect}
use Rattle.effect_form.specs.declared.effects.Effect.TheVariants as effect
use Rattle.message_form.specs.declared.turns.Out.{Out}
use Rattle.message_form.specs.Growth.{Grew, Each}
use Rattle.message_form.specs.Posts.{Post, post}
use Rattle.serial_model.specs.Questions.{Tree}
use Rattle.world_core.specs.Nodes.{Mind, opened_mind, Input, Given, gives, is_ready, is_commit, repository}
use Rattle.world_core.specs.Nodes.Input.{Going, Taking, Learning, Hearing}

-- the log is this one, grown by effects that fit
pub record GrownFrom (Fits : List Effect → Effect → Type 0) (old log : List Effect) : Type 0 where
  pub early : List Effect
  pub is : log ≡ early ++ old
  pub grew : Grew Fits old early

-- P holds of one of these logs
abbrev pub SomeOf : (List Effect → Type 0) → List (List Effect) → Type 0
SomeOf P [] = ⊥
SomeOf P (log ∷ logs) = P log ⊎ SomeOf P logs

-- what a fact of one node may name of the others: all messages ever sent, the durable logs, the moments that were ticked
pub record Around : Type 0 where
  pub ever : List Post
  pub logs : NodeId → List Effect
  pub ticks : List ℕ

-- a decision that stands in the durable log of its stamp's home
abbrev pub IsDecided : Around → StampParts → Bool → Type 0
IsDecided w s committed = (d : Decision) × Has (effect.Decide s d) (w.logs (repository s.home)) × (committed ≡ is_commit d)

-- more messages, more decisions, more moments
pub record Later (w v : Around) : Type 0 where
  pub more : List Post
  pub ever : v.ever ≡ w.ever ++ more
  pub homes : (s : StampParts) (d : Decision) → Has (effect.Decide s d) (w.logs (repository s.home)) → Has (effect.Decide s d) (v.logs (repository s.home))
  pub ticks : (t : ℕ) → Has t w.ticks → Has t v.ticks

-- what is kept of each node: which effects fit its log, what its log then has, the fact of each message that it owes or sent,
-- what proves each effect, what holds of its mind, that its log shows no later run and no other plan, which logs a node may begin
-- with, and which log a retirement may put in the place of another
pub record NodeFacts : Type 1 where
  pub Fits : NodeId → List Effect → Effect → Type 0
  pub Tidy : NodeId → List Effect → Type 0
  pub PostOk : List Post → NodeId → List Effect → Out → Type 0
  pub Proof : Around → NodeId → List Effect → Effect → Type 0
  pub MindOk : List Post → NodeId → Mind → Type 0
  pub Ready : ℕ → List ActSpec → NodeId → List Effect → Type 0
  pub Begins : NodeId → List Effect → Type 0
  pub Retires : NodeId → List Effect → List Effect → Type 0

-- a node's answer to an input, newest effect first
abbrev pub Turns : Type 0
Turns = ℕ → List ActSpec → NodeId → List Effect → Mind → Input → Given

-- the same, oldest effect first
abbrev pub forward : Given → Given
forward g = record { effects = reverse g.effects; outs = g.outs; mind = g.mind }

-- an input that may come to a node
abbrev pub MayInput : Around → NodeId → Input → Type 0
MayInput w n Going = Unit {0}
MayInput w n (Taking from m) = Has (post from (record { to = n; message = m })) w.ever
MayInput w n (Learning s committed) = IsDecided w s committed
MayInput w n (Hearing t) = Has t w.ticks

module _ (F : NodeFacts) where
  -- the fact of a message that is taken holds of a log of its sender, each of whose decisions stands in its durable log
  abbrev pub SenderOk : Around → NodeId → Input → Type 0
  SenderOk w n Going = Unit {0}
  SenderOk w n (Taking from m) = (log : List Effect) × ((s : StampParts) (d : Decision) → Has (effect.Decide s d) log → Has (effect.Decide s d) (w.logs from)) × F.PostOk w.ever from log (record { to = n; message = m })
  SenderOk w n (Learning s committed) = Unit {0}
  SenderOk w n (Hearing t) = Unit {0}

  -- what a turn is given: a log that grew from the durable one
  pub record TurnGiven (w : Around) (run : ℕ) (acts : List ActSpec) (n : NodeId) (log : List Effect) (mind : Mind) : Type 0 where
    pub tidy : F.Tidy n log
    pub proofs : Each (F.Proof w n) log
    pub mind_ok : F.MindOk w.ever n mind
    pub ready : F.Ready run acts n log
    pub added : List Effect
    pub own : log ≡ added ++ w.logs n
    pub grew : Grew (F.Fits n) (w.logs n) added

  -- and what it has to give
  pub record TurnGives (w : Around) (run : ℕ) (acts : List ActSpec) (n : NodeId) (log : List Effect) (g : Given) : Type 0 where
    pub grew : Grew (F.Fits n) log g.effects
    pub proofs : Grew (F.Proof w n) log g.effects
    pub mind_ok : F.MindOk w.ever n g.mind
    pub outs : Every (F.PostOk w.ever n (g.effects ++ log)) g.outs
    pub ready : F.Ready run acts n (g.effects ++ log)

-- the laws of the rules
pub record NodeLaws (script : List ℕ → Tree) (turns : Turns) (F : NodeFacts) : Type 0 where
  pub turns_are : (run : ℕ) (acts : List ActSpec) (n : NodeId) (log : List Effect) (mind : Mind) (input : Input) →
      gives script run acts n log mind input ≡ forward (turns run acts n (reverse log) mind input)
  pub tidied : (n : NodeId) (log : List Effect) (f : Effect) → F.Tidy n log → F.Fits n log f → F.Tidy n (f ∷ log)
  pub stays : (ever : List Post) (n : NodeId) (log : List Effect) (f : Effect) (out : Out) → F.Tidy n log → F.Fits n log f → F.PostOk ever n log out → F.PostOk ever n (f ∷ log) out
  pub more_posts : (ever more : List Post) (n : NodeId) (log : List Effect) (out : Out) → F.PostOk ever n log out → F.PostOk (ever ++ more) n log out
  pub more_mind : (ever more : List Post) (n : NodeId) (mind : Mind) → F.MindOk ever n mind → F.MindOk (ever ++ more) n mind
  pub later : (w v : Around) (n : NodeId) (log : List Effect) (f : Effect) → Later w v → F.Proof w n log f → F.Proof v n log f
  pub opened : (ever : List Post) (n : NodeId) (start : ℕ) → F.MindOk ever n (opened_mind start)
  pub turn : (w : Around) (run : ℕ) (acts : List ActSpec) (n : NodeId) (log : List Effect) (mind : Mind) (input : Input) →
      TurnGiven F w run acts n log mind → MayInput w n input → SenderOk F w n input → TurnGives F w run acts n log (turns run acts n log mind input)
  -- an older log of a tidy one is ready where that is
  pub ready_below : (run : ℕ) (acts : List ActSpec) (n : NodeId) (log : List Effect) (f : Effect) → F.Tidy n log → F.Fits n log f → F.Ready run acts n (f ∷ log) → F.Ready run acts n log
  -- what a retirement leaves of a log
  pub retired_tidy : (n : NodeId) (old new : List Effect) → F.Retires n old new → F.Tidy n old → F.Tidy n new
  pub retired_proofs : (w : Around) (n : NodeId) (old new : List Effect) → F.Retires n old new → Each (F.Proof w n) old → Each (F.Proof w n) new
  pub retired_decided : (n : NodeId) (old new : List Effect) → F.Retires n old new → (s : StampParts) (d : Decision) → Has (effect.Decide s d) old → Has (effect.Decide s d) new

-- what the first run asks besides: an empty log is right, and a log that shows no fault is ready
pub record PastLaws (script : List ℕ → Tree) (F : NodeFacts) : Type 0 where
  pub ready_is : (run : ℕ) (acts : List ActSpec) (n : NodeId) (log : List Effect) → is_ready script run acts n log ≡ true → F.Ready run acts n (reverse log)
  pub empty : (n : NodeId) → F.Tidy n []
  pub begins : (n : NodeId) → F.Begins n []
