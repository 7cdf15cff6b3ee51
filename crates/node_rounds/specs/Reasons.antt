-- Why no further round follows, and what follows a round.
use Rattle.std.specs.Prelude.{◌≡◌, ◌≢◌, ◌⊎◌, ℕ, ◌+◌, ◌≤◌, ◌<◌, ◌^◌, Bool, true, false, List, [], ◌∷◌, ◌++◌, length, Option, Some, None, IsTrue, if◌then◌else◌}
use Rattle.pseudo_time.specs.declared.nodes.NodeId.{NodeId}
use Rattle.pseudo_time.specs.declared.down_causes.DownCause.{DownCause}
use Rattle.pseudo_time.specs.Nodes.{is_broker}
use Rattle.seat_lock.specs.Story.{Begins}
use Rattle.seat_lock.specs.Words.{CarriesOn}
use Rattle.world_core.specs.declared.entries.Entry.{Entry}
use Rattle.world_core.specs.declared.entries.Entry.TheVariants.{Tick}
use Rattle.world_core.specs.Walks.{Base, sent_by, walk}
use Rattle.broker_node.specs.Boards.{owner_of}
use Rattle.broker_node.specs.Sights.{Sight, IsOf, HasNothingOpen, base_at, world_at}
use Rattle.world_core.specs.Counts.{tick_count}
use Rattle.broker_node.specs.Condition.TheVariants as condition
use Rattle.broker_node.specs.TurnNodes.{NodeParts, sight}
use Rattle.broker_node.specs.Logs.{is_over}
use Rattle.node_rounds.specs.declared.limits.Limits.{Limits}
use Rattle.node_rounds.specs.declared.reasons.Reason.{Reason}
use Rattle.node_rounds.specs.declared.reasons.Reason.TheVariants as reason
use Rattle.node_rounds.specs.declared.reasons.Next.{Next}
use Rattle.node_rounds.specs.declared.reasons.Next.TheVariants as next
use Rattle.node_rounds.specs.Nodes.{Shares, EachNode, SomeNode, IsUp}

-- the conductor once saw that nothing was due
abbrev pub SawRest : Sight → Type 0
SawRest k = (seen : List Entry) × Begins seen k.story × HasNothingOpen (walk (base_at k) seen)

-- ---- nodes

-- where these entries lead: a repository always is; a broker where each of its acts has its outcome, and no request is outstanding
abbrev pub is_done_after : Base → List Entry → NodeId → Bool
is_done_after b es n = if is_broker n.kind then is_over b n.number ((walk b es).life n) else true

-- of what a pass of the node's has seen
abbrev pub is_done_at : Sight → NodeId → Bool
is_done_at k n = is_done_after (base_at k) k.story n

module _ {M : Type 0} where
  abbrev pub IsDone : NodeParts M → Type 0
  IsDone n = is_done_at (sight n) n.node ≡ true

  -- it isn't done, as far as its pass, its own, has seen
  abbrev pub IsLate : Bool → NodeParts M → Type 0
  IsLate tells n = IsOf n.node (sight n) × (IsTrue tells → is_done_at (sight n) n.node ≡ false)

  -- where these entries lead
  abbrev pub IsLateAfter : Base → List Entry → NodeParts M → Type 0
  IsLateAfter b es n = is_done_after b es n.node ≡ false

  -- Each Tick of a story stands where some node isn't done.
  abbrev pub TicksAreWanted : Base → List Entry → Shares M → Type 0
  TicksAreWanted b story nodes = (front : List Entry) (moment : ℕ) (rest : List Entry) → story ≡ front ++ Tick moment ∷ rest → SomeNode (IsLateAfter b front) nodes

  abbrev pub IsDown : NodeParts M → Type 0
  IsDown n = (cause : DownCause) × (n.condition ≡ condition.Down cause)

  -- each of its turns found the memory that it needed
  abbrev pub HasMemory : NodeParts M → Type 0
  HasMemory n = n.condition ≢ condition.Wanting

  -- one of its turns didn't
  abbrev pub WantsMemory : NodeParts M → Type 0
  WantsMemory n = n.condition ≡ condition.Wanting

  -- ---- why no further round follows

  -- Of the nodes, and of what the conductor has seen: a node is down; all brokers are done; so many messages were sent that the run ends; or nothing is
  -- due, and there were as many Ticks as there may be. Or memory ran out, in a turn of a node, or in a visit while all were
  -- at work (`WantsAs`).
  abbrev pub EndsFor : Bool → Limits → Reason → Shares M → Sight → Type 0
  EndsFor tells limits reason.Down nodes k = EachNode HasMemory nodes × SomeNode IsDown nodes
  EndsFor tells limits reason.Done nodes k = EachNode IsUp nodes × (IsTrue tells → EachNode IsDone nodes)
  EndsFor tells limits reason.Enough nodes k = EachNode IsUp nodes × (IsTrue tells → limits.messages ≤ length (sent_by (world_at k)))
  EndsFor tells limits reason.RunOut nodes k = EachNode IsUp nodes × HasNothingOpen (world_at k) × (tick_count k.own ≡ limits.ticks)
  EndsFor tells limits reason.Wanting nodes k = SomeNode WantsMemory nodes ⊎ EachNode IsUp nodes

  -- what the nodes alone say: that the run ends, or that all are at work, and one isn't done
  abbrev pub NodesSay : Bool → Option Reason → Shares M → Type 0
  NodesSay tells (Some reason.Down) nodes = EachNode HasMemory nodes × SomeNode IsDown nodes
  NodesSay tells (Some reason.Done) nodes = EachNode IsUp nodes × (IsTrue tells → EachNode IsDone nodes)
  NodesSay tells (Some reason.Enough) nodes = ⊥
  NodesSay tells (Some reason.RunOut) nodes = ⊥
  NodesSay tells (Some reason.Wanting) nodes = SomeNode WantsMemory nodes
  NodesSay tells None nodes = EachNode IsUp nodes × SomeNode (IsLate tells) nodes

-- ---- what follows a round

-- what follows if something is due: a round, if there are more entries than before the last one
abbrev pub IsFurther : (before now : ℕ) → Next → Type 0
IsFurther before now next.Round = before < now
IsFurther before now (next.End reason.Wanting) = now ≤ before
IsFurther before now _ = ⊥

-- what the conductor has seen went on, by so many Ticks of its own
pub record SeesMore (ticks : ℕ) (old new : Sight) : Type 0 where
  pub owner : new.owner ≡ old.owner
  pub begins : Begins old.story new.story
  pub ticked : tick_count new.own ≡ tick_count old.own + ticks

-- the conductor added a Tick to what it found
pub record HasTicked (old new : Sight) : Type 0 where
  pub found : List Entry
  pub moment : ℕ
  pub carries : CarriesOn owner_of old found
  pub begins : Begins (found ++ Tick moment ∷ []) new.story

module _ {M : Type 0} (tells : Bool) (limits : Limits) where
  -- A further round follows where all nodes are at work; behind a Tick only where one more may be made.
  abbrev pub Follows : Next → Shares M → Sight → Sight → Type 0
  Follows next.Round nodes old new = EachNode IsUp nodes × SeesMore 0 old new
  Follows next.Ticked nodes old new = EachNode IsUp nodes × (tick_count old.own < limits.ticks) × SeesMore 1 old new
  Follows (next.End why) nodes old new = EndsFor tells limits why nodes new × SeesMore 0 old new

  -- Memory ran out: in a turn of a node; for a Tick that was due and could be made; or in an earlier visit, since something is due and the last round added
  -- none to so many entries.
  abbrev pub WantsAs : ℕ → Reason → Shares M → Sight → Type 0
  WantsAs before reason.Wanting nodes k = SomeNode WantsMemory nodes ⊎ (EachNode IsUp nodes × (((tick_count k.own < limits.ticks) × SawRest k) ⊎ (length k.story ≤ before)))
  WantsAs before _ nodes k = Unit {0}

  -- A further round follows if the conductor has seen so many entries now, and fewer before the last one.
  abbrev pub SawMore : (before now : ℕ) → Next → Shares M → Sight → Type 0
  SawMore before now (next.End why) nodes k = WantsAs before why nodes k
  SawMore before now _ nodes k = (before < now) × (now ≤ length k.story) × (now ≤ 2 ^ 32)
