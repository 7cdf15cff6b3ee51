-- What a pass of the wire has seen, and what a visit changes.
use Rattle.std.specs.Prelude.{◌≡◌, ℕ, Bool, true, false, List, [], ◌∷◌, ◌++◌, map, Option, Some, None, IsTrue}
use Rattle.pseudo_time.specs.StampParts.{StampParts}
use Rattle.std.specs.Option.{unwrap_or}
use Rattle.pseudo_time.specs.declared.nodes.NodeId.{NodeId}
use Rattle.pseudo_time.specs.declared.down_causes.DownCause.{DownCause}
use Rattle.atomic_table.specs.declared.shared.Seat.{Seat}
use Rattle.seat_lock.specs.declared.views.View.{View}
use Rattle.seat_lock.specs.declared.views.Founding.{Founding}
use Rattle.seat_lock.specs.declared.locks.LockTable.{LockTable}
use Rattle.seat_lock.specs.Words.{Known, CarriesOn, IsPassOf, knows}
use Rattle.seat_lock.specs.Story.{entries_of}
use Rattle.world_core.specs.declared.entries.Entry.{Entry}
use Rattle.world_core.specs.declared.entries.Entry.TheVariants.{Take, Go, Learn, Hear, Gate, Crash, Down, Tick}
use Rattle.world_core.specs.declared.traces.Opened.{Opened}
use Rattle.world_core.specs.Nodes.{Input}
use Rattle.world_core.specs.Nodes.Input.{Going, Taking, Learning, Hearing}
use Rattle.world_core.specs.Walks.{Base, Life, Flags, World, walk, opened_log, after_input, gated_life, crashed_life, went, learned, with_due}
use Rattle.world_core.specs.Legal.{HasGone, Idle, fates_of, is_behind}
use Rattle.wire_core.specs.Wires.{Origin, WireParts, base_from}
use Rattle.wire_core.specs.Changes.{TookAll}
use Rattle.wire_core.specs.Boards.{owner_for, owner_of, place_of}
use Rattle.wire_core.specs.declared.takens.Taken.{Taken}
use Rattle.wire_core.specs.declared.takens.Taken.TheVariants.{Behind, Nothing, Arrived}
use Rattle.wire_lock.specs.Decisions.{Decided, posted, answer_of}

-- the owners of a shared wire's passes: the nodes in their order, and the conductor
abbrev pub owners_for : List Opened → List ℕ
owners_for opened = map (λ (o : Opened). owner_for o.node) opened ++ 0 ∷ []

-- ---- what a pass has seen

-- what a pass of the wire knows
abbrev pub Sight : Type 0
Sight = Known WireParts Entry

abbrev pub no_origin : Origin
no_origin = record { run = 0; acts = []; start = 0; opened = []; asked = []; answers = None }

abbrev pub origin_in : Option WireParts → Origin
origin_in None = no_origin
origin_in (Some w) = w.origin

-- what the wire began with
abbrev pub origin_at : Sight → Origin
origin_at k = origin_in k.base

-- what a walk over its entries begins with
abbrev pub base_at : Sight → Base
base_at k = base_from (origin_at k)

-- where the entries lead to that it has seen
abbrev pub world_at : Sight → World
world_at k = walk (base_at k) k.story

abbrev pub life_at : Sight → NodeId → Life
life_at k n = (world_at k).life n

abbrev pub flags_at : Sight → NodeId → Flags
flags_at k n = (world_at k).flags n

-- the pass is the node's own
abbrev pub IsOf : NodeId → Sight → Type 0
IsOf n k = k.owner ≡ owner_for n

-- Of its owner the story has just the pass's own entries.
abbrev pub Owns : Sight → Type 0
Owns k = entries_of owner_of k.owner k.story ≡ k.own

module _ {Q A : Type 0} where
  -- the pass is one of this lock, and its story has of its owner just its own entries
  pub record IsWirePass (lock : LockTable WireParts (View WireParts Entry) (Founding WireParts) Q A) (pass : Seat WireParts (View WireParts Entry)) : Type 0 where
    pub of_lock : IsPassOf lock pass
    pub own : Owns (knows pass)

-- ---- flags

-- a Gate closed what was due
abbrev pub closed : Flags → Flags
closed f = record { known = f.known; up = f.up; gone = f.gone; due = false }

-- it was opened anew
abbrev pub crashed : Flags → Flags
crashed f = record { known = f.known; up = f.up; gone = false; due = false }

abbrev pub downed : Flags → Flags
downed f = record { known = f.known; up = false; gone = f.gone; due = f.due }

-- ---- what a visit changes

-- The list of the second pass goes on from that of the first by entries of other owners: a node of the pass has lived no further.
pub record IsAsBefore (old : Sight) (l : List Entry) : Type 0 where
  pub carries : CarriesOn owner_of old l
  pub flags : (n : NodeId) → IsOf n old → (walk (base_at old) l).flags n ≡ flags_at old n
  pub life : (n : NodeId) → IsOf n old → (walk (base_at old) l).life n ≡ life_at old n
  pub behind : (n : NodeId) → IsOf n old → is_behind (world_at old) n ≡ true → is_behind (walk (base_at old) l) n ≡ true

-- no entry was added, and nothing was tested or posted
pub record Looked (old new : Sight) : Type 0 where
  pub before : IsAsBefore old new.story
  pub kept : new ≡ record old { story = new.story }

-- this entry was added, behind entries of other owners
pub record Added (old new : Sight) (e : Entry) : Type 0 where
  -- the list that the visit found
  pub found : List Entry
  pub before : IsAsBefore old found
  pub kept : new ≡ record old { story = found ++ e ∷ []; own = old.own ++ e ∷ [] }

-- This entry of the node was added, which leaves it this life and these flags.
pub record Visited (told : Bool) (n : NodeId) (old new : Sight) (e : Entry) (life : Life) (flags : Flags) : Type 0 where
  pub added : Added old new e
  pub lives : IsTrue told → life_at new n ≡ life
  pub stands : flags_at new n ≡ flags

-- as Visited, and then these decisions were posted, in order
pub record Gated (told : Bool) (n : NodeId) (old new : Sight) (e : Entry) (life : Life) (flags : Flags) (decides : List Decided) : Type 0 where
  pub found : List Entry
  pub before : IsAsBefore old found
  pub kept : new ≡ record old { story = found ++ e ∷ []; own = old.own ++ e ∷ []; posts = old.posts ++ posted decides }
  pub lives : IsTrue told → life_at new n ≡ life
  pub stands : flags_at new n ≡ flags

-- One test of the stamp's word, whose number tells this of the stamp.
pub record Tested (old new : Sight) (stamp : StampParts) (answer : Option Bool) : Type 0 where
  pub number : ℕ
  pub before : IsAsBefore old new.story
  pub kept : new ≡ record old { story = new.story; tests = old.tests ++ (place_of stamp, number) ∷ [] }
  pub tells : answer ≡ answer_of stamp number

-- ---- what visits answer

-- The node is given this input: its core decides what becomes of it.
abbrev pub given : NodeId → Sight → Input → Life
given n k input = after_input (base_at k) n (life_at k n) input

-- the broker went
abbrev pub Goes : Bool → NodeId → Sight → Sight → Type 0
Goes told n old new = Visited told n old new (Go n) (given n old Going) (went n.kind (flags_at old n))

-- the node heard this moment
abbrev pub Hears : Bool → NodeId → Sight → Sight → ℕ → Type 0
Hears told n old new moment = Visited told n old new (Hear n) (given n old (Hearing moment)) (with_due (flags_at old n))

-- the repository learned this decision
abbrev pub Learns : Bool → NodeId → Sight → Sight → StampParts → Bool → Type 0
Learns told n old new stamp committed = Visited told n old new (Learn n stamp committed) (given n old (Learning stamp committed)) (learned n.kind (flags_at old n))

-- the node was opened anew, with so many of its new effects
abbrev pub Crashes : Bool → NodeId → Sight → Sight → ℕ → Type 0
Crashes told n old new kept = Visited told n old new (Crash n kept) (crashed_life (base_at old).start kept (life_at old n)) (crashed (flags_at old n))

-- the node is down
abbrev pub Falls : Bool → NodeId → Sight → Sight → DownCause → Type 0
Falls told n old new cause = Visited told n old new (Down n cause) (life_at old n) (downed (flags_at old n))

-- the node's new effects are durable, and these decisions were posted
abbrev pub Gates : Bool → NodeId → Sight → Sight → List Decided → Type 0
Gates told n old new decides = Gated told n old new (Gate n) (gated_life (life_at old n)) (closed (flags_at old n)) decides

-- what taking answers, and what it leaves of the node
abbrev pub TakesOne : Bool → NodeId → Sight → Sight → Taken → Type 0
TakesOne told n old new Behind = Looked old new × (is_behind (world_at new) n ≡ true)
TakesOne told n old new Nothing = Looked old new × (is_behind (world_at new) n ≡ false)
TakesOne told n old new (Arrived a) = Visited told n old new (Take n a.number) (given n old (Taking a.from a.message)) (with_due (flags_at old n))

-- ---- the wire as a visit left it

-- Its entries are those that the pass has seen then. Beside them it has the fates of the messages.
pub record IsLeft (w : WireParts) (k : Sight) : Type 0 where
  pub origin : w.origin ≡ origin_at k
  pub entries : w.entries ≡ k.story

-- no copy is due for the node
abbrev pub HasNoneDue : WireParts → Sight → NodeId → Type 0
HasNoneDue w k n = TookAll (fates_of w.sent) (world_at k) n

-- no node that is up has anything to do
abbrev pub IsIdle : WireParts → Sight → Type 0
IsIdle w k = Idle (fates_of w.sent) (world_at k)

-- where no time passes this doesn't hold
abbrev pub IfStill : Type 0 → Option ℕ → Type 0
IfStill P None = P → ⊥
IfStill P (Some moment) = Unit {0}

-- A node that is down before anything but downs happened had nothing when it was opened.
abbrev pub HadNothing : NodeId → Sight → Type 0
HadNothing n k = (world_at k).moved ≡ false → unwrap_or (opened_log (origin_at k).opened n) [] ≡ []

-- no node that is up has anything to do, beside taking copies
abbrev pub HasNothingOpen : World → Type 0
HasNothingOpen w = (n : NodeId) → (w.flags n).up ≡ true → ((w.flags n).due ≡ false) × (is_behind w n ≡ false) × HasGone w n

-- what ticking answers: a Tick is added at rest alone
abbrev pub TicksOn : Sight → Sight → Option ℕ → Type 0
TicksOn old new None = Looked old new
TicksOn old new (Some moment) = (added : Added old new (Tick moment)) × HasNothingOpen (walk (base_at old) added.found)
