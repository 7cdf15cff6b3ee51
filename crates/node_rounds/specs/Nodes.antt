-- The nodes of a run between rounds.
use Rattle.std.specs.Prelude.{◌≡◌, ◌≢◌, ℕ, Bool, List, Result, IsTrue, All, Any}
use Rattle.std.specs.List.{AllZip}
use Rattle.std.specs.declared.vec.Vec.{Vec}
use Rattle.std.specs.declared.alloc.Global.{Global}
use Rattle.std.specs.declared.alloc.AllocError.{AllocError}
use Rattle.medium_port.specs.Image.{Image}
use Rattle.medium_port.specs.Moment.{Stage, LeftNow}
use Rattle.medium_port.specs.declared.media.Medium.{Ghosts as Media}
use Rattle.seat_lock.specs.declared.views.View.{View}
use Rattle.seat_lock.specs.declared.views.Founding.{Founding}
use Rattle.seat_lock.specs.declared.locks.LockTable.{LockTable}
use Rattle.seat_lock.specs.Story.{Begins}
use Rattle.world_core.specs.declared.entries.Entry.{Entry}
use Rattle.broker_node.specs.Wires.{WireParts}
use Rattle.broker_node.specs.Sights.{IsOf, IsWirePass, Looked, Owns, life_at}
use Rattle.broker_node.specs.Condition.TheVariants as condition
use Rattle.broker_node.specs.Turned.{Turned}
use Rattle.broker_node.specs.Costs.{costs, PaysFor}
use Rattle.broker_node.specs.Lives.{IsKept}
use Rattle.broker_node.specs.Windows.{PassesOn}
use Rattle.broker_node.specs.TurnNodes.{NodeParts, Adds, StaysWhole, TurnsTo, sight}

-- ---- shares

-- nodes as workers have them, each its share
abbrev pub Shares : Type 0 → Type 0
Shares M = List (Vec (NodeParts M) Global)

module _ {M : Type 0} where
  -- so it is of each node
  abbrev pub EachNode : (NodeParts M → Type 0) → Shares M → Type 0
  EachNode P shares = All (λ nodes. All P nodes.items) shares

  -- so it is of one of them
  abbrev pub SomeNode : (NodeParts M → Type 0) → Shares M → Type 0
  SomeNode P shares = Any (λ nodes. Any P nodes.items) shares

  -- so it is of each node and the one that stands in its place later
  abbrev pub EachPlace : (NodeParts M → NodeParts M → Type 0) → Shares M → Shares M → Type 0
  EachPlace R old new = AllZip (λ before after. AllZip R before.items after.items) old new

  -- ---- what becomes of a node

  -- A node went on by turns: its entries went on, its medium's count pays for what they cost, and its pages stay whole where they cost nothing, unless
  -- memory ran out.
  pub record GoesOn (tells : Bool) (faults : M → ℕ) (reads : M → Image) (old new : NodeParts M) : Type 0 where
    pub node : new.node ≡ old.node
    pub adds : Adds (sight old).own (sight new).own
    pub paid : PaysFor (costs (sight old).own) (faults old.medium) (costs (sight new).own) (faults new.medium)
    pub whole : IsTrue tells → new.condition ≢ condition.Wanting → StaysWhole (costs (sight old).own) (costs (sight new).own) (reads old.medium) (reads new.medium)

  -- its pass is its own, and a crash now leaves the log of its life
  pub record IsKeptNow (stages : M → List Stage) (n : NodeParts M) : Type 0 where
    pub own : IsOf n.node (sight n)
    pub left : (c : Image) → LeftNow (stages n.medium) c → IsKept (life_at (sight n) n.node) c

  -- A node that was so went on, and a crash at any moment of that left the log of the life that it had then, unless memory ran out.
  pub record IsKeptThrough (tells : Bool) (stages : M → List Stage) (old new : NodeParts M) : Type 0 where
    pub node : new.node ≡ old.node
    pub passes : IsTrue tells → new.condition ≢ condition.Wanting → IsKeptNow stages old → PassesOn old.node (sight old) (sight new) (stages old.medium) (stages new.medium)

  -- a node before and after it met the conductor: only its story may have grown
  pub record HasMet (old new : NodeParts M) : Type 0 where
    pub node : new.node ≡ old.node
    pub condition : new.condition ≡ old.condition
    pub medium : new.medium ≡ old.medium
    pub looked : Looked (sight old) (sight new)

  -- this much of a story has all entries of the node: it goes on from what its pass has seen
  pub record HasAllOf (story : List Entry) (n : NodeParts M) : Type 0 where
    pub begins : Begins (sight n).story story
    pub all : Owns (sight n)

  -- its pass has seen this much
  abbrev pub HasSeen : List Entry → NodeParts M → Type 0
  HasSeen story n = Begins story (sight n).story

  -- it is at work
  abbrev pub IsUp : NodeParts M → Type 0
  IsUp n = n.condition ≡ condition.AtWork

module _ {M Q A : Type 0} (lock : LockTable WireParts (View WireParts Entry) (Founding WireParts) Q A) where
  -- its pass is one of the wire
  abbrev pub HasPass : NodeParts M → Type 0
  HasPass n = IsWirePass lock n.pass

  -- a node that may have a turn
  pub record IsReady (n : NodeParts M) : Type 0 where
    pub pass : HasPass n
    pub up : IsUp n

  -- a node that had a turn, with this answer; several that follow each other are told as one
  pub record HadTurn (w : Media M) (old new : NodeParts M) : Type 0 where
    pub pass : HasPass new
    pub answer : Result Turned AllocError
    pub turned : TurnsTo w old new answer
