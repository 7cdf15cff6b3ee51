-- What a node keeps of its life: while it is up, after a fault, and when it is down. Logs stand oldest first.
use Rattle.std.specs.Prelude.{◌≡◌, ◌≤◌, ◌<◌, ℕ, Bool, true, false, List, [], ◌∷◌, ◌++◌, length, take, count_by, Ok, IsTrue}
use Rattle.pseudo_time.specs.Lists.{Every}
use Rattle.pseudo_time.specs.declared.nodes.NodeId.{NodeId}
use Rattle.pseudo_time.specs.Nodes.{is_broker}
use Rattle.pseudo_time.specs.declared.down_causes.DownCause.{DownCause}
use Rattle.pseudo_time.specs.declared.down_causes.DownCause.TheVariants as down
use Rattle.medium_port.specs.Image.{Image}
use Rattle.medium_port.specs.declared.media.Medium.{Ghosts as Media}
use Rattle.page_gate.specs.States.{is_blank}
use Rattle.effect_form.specs.declared.effects.Effect.{Effect}
use Rattle.broker_laws.specs.Works.{AsksNobody}
use Rattle.message_form.specs.declared.turns.Out.{Out}
use Rattle.message_form.specs.Ranges.{AreEffects, AreOuts}
use Rattle.object_history.specs.declared.steps.HistoryFault.{HistoryFault}
use Rattle.object_history.specs.declared.steps.HistoryFault.TheVariants as fault
use Rattle.version_store.specs.declared.faults.StoreFault.{StoreFault}
use Rattle.version_store.specs.declared.faults.StoreFault.TheVariants as adding
use Rattle.version_store.specs.Storage.{storage}
use Rattle.version_store.specs.Filling.{filling}
use Rattle.world_core.specs.declared.entries.Entry.{Entry}
use Rattle.world_core.specs.declared.entries.Entry.TheVariants.{Down}
use Rattle.world_core.specs.Walks.{Base, Life, Flags}
use Rattle.wire_lock.specs.Sights.{Sight, IsOf, base_at, life_at, flags_at}
use Rattle.node_inputs.specs.declared.core_meanings.Meanings.{Ghosts as Meanings}
use Rattle.node_inputs.specs.Cores.{LeavesLog, IsReady}

-- what a turn has given so far, and how many effects are durable
pub record DraftParts : Type 0 where
  pub durable : ℕ
  pub effects : List Effect
  pub outs : List Out

-- no turn has begun
abbrev pub no_draft : ℕ → DraftParts
no_draft durable = record { durable = durable; effects = []; outs = [] }

-- ---- lives

-- the image's log is the node's durable log with a prefix of its new effects
pub record IsKept (l : Life) (image : Image) : Type 0 where
  pub kept : ℕ
  pub few : kept ≤ length l.fresh
  pub is : storage image ≡ Ok (l.gated ++ take kept l.fresh)

-- with each beginning of its new effects the node's log shows neither a later run nor another plan
abbrev pub StaysReady : Base → NodeId → Life → Type 0
StaysReady b n l = (kept : ℕ) → IsReady b n (l.gated ++ take kept l.fresh)

-- none of the messages asks for a decision
abbrev pub AskNobody : List Out → Type 0
AskNobody outs = Every (λ (out : Out). AsksNobody out.message) outs

-- What a node that is up has of this life: its core has it, its draft what it owes, and a crash now leaves its durable log.
pub record HasLife (b : Base) (n : NodeId) (d : DraftParts) (lives : Life → Type 0) (images : Image → Type 0) (l : Life) : Type 0 where
  pub core : lives l
  pub durable : d.durable ≡ length l.gated
  pub effects : d.effects ≡ l.fresh
  pub outs : d.outs ≡ l.outs
  pub images_left : LeavesLog images l.gated
  pub ready : StaysReady b n l
  pub asks : is_broker n.kind ≡ true → AskNobody l.outs

-- ---- nodes

-- the flags of a node that is up
abbrev pub up_flags : Bool → Bool → Flags
up_flags gone due = record { known = true; up = true; gone = gone; due = due }

-- A call wrote nothing to the medium: what reads give stays, and what crashes see, and its count of faults doesn't fall.
pub record IsUnwritten {M : Type 0} (w : Media M) (old new : M) : Type 0 where
  pub later : w.faults old ≤ w.faults new
  pub still : IsTrue w.tells → w.reads new ≡ w.reads old
  pub stages_still : IsTrue w.tells → w.stages new ≡ w.stages old

-- The image is full for a node of this life: it has the node's durable log, and nothing of its new effects, which are in range and need more pages than are blank.
pub record IsFullFor (l : Life) (image : Image) : Type 0 where
  pub durable : storage image ≡ Ok l.gated
  pub ranges : AreEffects l.fresh
  pub blank : count_by is_blank image < length (filling l.fresh)

module _ {M : Type 0} (w : Media M) where
  -- Why a node may go down. Its medium, of so many pages, is full. A damaged page is no cause where media tell their content.
  abbrev pub IsCause : DownCause → M → Life → Type 0
  IsCause down.Medium m l = Unit {0}
  IsCause (down.Damaged page) m l = IsTrue w.tells → ⊥
  IsCause (down.Full number) m l = (number ≡ w.page_count m) × (IsTrue w.tells → IsFullFor l (w.reads m))

-- The meanings are those of a type K of cores over media of a type M. `k` is what the node's pass has seen.
module _ {K M : Type 0} (w : Media M) (m : Meanings K M) where
  -- what a crash may leave
  abbrev pub images_of : K → Image → Type 0
  images_of core = w.may_leave (m.parts core).medium

  -- The node is up, and what the code keeps is its life's. `due` says whether a turn has begun.
  pub record IsUp (core : K) (k : Sight) (n : NodeId) (gone due : Bool) (d : DraftParts) : Type 0 where
    pub node : (m.parts core).node ≡ n
    pub able : (m.parts core).able ≡ true
    pub owed : m.owes core d.effects
    pub effects_fit : AreEffects d.effects
    pub outs_fit : AreOuts d.outs
    pub run : m.fits (base_at k) core
    pub own : IsOf n k
    pub flags : flags_at k n ≡ up_flags gone due
    pub life : IsTrue w.tells → HasLife (base_at k) n d (m.lives (base_at k) core) (images_of core) (life_at k n)

  -- A crash leaves the node's durable log with a prefix of its new effects.
  pub record IsStored (core : K) (k : Sight) (n : NodeId) : Type 0 where
    pub node : (m.parts core).node ≡ n
    pub run : m.fits (base_at k) core
    pub own : IsOf n k
    pub kept : IsTrue w.tells → (c : Image) → images_of core c → IsKept (life_at k n) c

  -- A turn has begun, and can't be closed.
  pub record IsStruck (core : K) (k : Sight) (n : NodeId) (durable : ℕ) : Type 0 where
    pub stored : IsStored core k n
    pub up : (flags_at k n).up ≡ true
    pub due : (flags_at k n).due ≡ true
    pub count : IsTrue w.tells → durable ≡ length (life_at k n).gated
    pub ready : IsTrue w.tells → StaysReady (base_at k) n (life_at k n)

  -- The node went down in a turn: this is its last entry, and it had this cause.
  pub record IsDown (core : K) (k : Sight) (n : NodeId) (cause : DownCause) : Type 0 where
    pub stored : IsStored core k n
    pub down : (flags_at k n).up ≡ false
    pub due : (flags_at k n).due ≡ true
    pub before : List Entry
    pub last : k.own ≡ before ++ Down n cause ∷ []
    pub caused : IsCause w cause (m.parts core).medium (life_at k n)

  -- what is left after a fault of a core: where memory runs out, the turn may not have begun
  abbrev pub IsAfter : HistoryFault → K → Sight → NodeId → ℕ → Type 0
  IsAfter fault.NoMemory core k n durable = IsStored core k n
  IsAfter fault.Medium core k n durable = IsStruck core k n durable
  IsAfter (fault.Damaged page) core k n durable = IsStruck core k n durable × (IsTrue w.tells → ⊥)

  -- and after one of its append
  abbrev pub IsAfterAppend : StoreFault → K → Sight → NodeId → ℕ → Type 0
  IsAfterAppend adding.NoMemory core k n durable = IsStored core k n
  IsAfterAppend adding.Medium core k n durable = IsStruck core k n durable
  IsAfterAppend (adding.Full number) core k n durable = IsStruck core k n durable × IsCause w (down.Full number) (m.parts core).medium (life_at k n)
