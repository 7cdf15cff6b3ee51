-- What the closing of a run's wire tells, and how nodes ended that went in rounds.
use Rattle.std.specs.Prelude.{◌≡◌, ◌≢◌, ℕ, ◌≤◌, Bool, true, IsTrue, List, [], ◌∷◌, ◌++◌, map, length, Option, Some, All, Any}
use Rattle.std.specs.List.{AllZip}
use Rattle.stream_port.specs.declared.fates.Asked.{Asked}
use Rattle.atomic_table.specs.declared.shared.Seat.{Seat}
use Rattle.seat_lock.specs.declared.views.View.{View}
use Rattle.seat_lock.specs.declared.views.Founding.{Founding}
use Rattle.seat_lock.specs.declared.locks.LockTable.{LockTable}
use Rattle.seat_lock.specs.Rule.{IsOneOf}
use Rattle.seat_lock.specs.Words.{CarriesOn, base_of, knows}
use Rattle.world_core.specs.declared.entries.Entry.{Entry}
use Rattle.world_core.specs.declared.entries.Entry.TheVariants.{Tick}
use Rattle.world_core.specs.declared.traces.Trace.{Trace}
use Rattle.world_core.specs.Walks.{sent_by}
use Rattle.world_core.specs.Legal.{Idle, fates_of}
use Rattle.run_starts.specs.Wires.{Origin, WireParts}
use Rattle.run_starts.specs.Boards.{owner_of}
use Rattle.run_starts.specs.Sights.{HasNothingOpen, IsWirePass, Sight, base_at, owners_for, world_at}
use Rattle.run_starts.specs.Stories.{IsWhole, LeavesUntold, end_of}
use Rattle.world_core.specs.Counts.{tick_count}
use Rattle.run_starts.specs.TurnNodes.{NodeParts, IsAtRest}
use Rattle.run_starts.specs.Limits.{Limits}
use Rattle.run_starts.specs.Reason.{Reason}
use Rattle.run_starts.specs.Reason.TheVariants as reason
use Rattle.run_starts.specs.Nodes.{GoesOn, IsKeptThrough, HasAllOf, IsUp}
use Rattle.run_starts.specs.Reasons.{HasMemory, IsDone, IsDown, IsLateAfter}
use Rattle.run_media.specs.Media.{Media}
use Rattle.run_rounds.specs.Settled.{AreSettled}
use Rattle.run_rounds.specs.declared.goals.Course.{Course}
use Rattle.run_rounds.specs.declared.goals.Course.TheVariants.{Acts, Settling}
use Rattle.run_rounds.specs.declared.ends.End.{End}
use Rattle.run_rounds.specs.declared.ends.End.TheVariants.{Ran, Refused, NoMemory}

abbrev pub Pass : Type 0
Pass = Seat WireParts (View WireParts Entry)

-- so it is of the trace, where one is told; else memory ran out
abbrev pub IfRan : End → (Trace → Type 0) → Type 0
IfRan (Ran t) P = P t
IfRan (Refused fault) P = ⊥
IfRan NoMemory P = Unit {0}

-- so it is where memory ran out
abbrev pub IfWanting : End → Type 0 → Type 0
IfWanting (Ran t) P = Unit {0}
IfWanting (Refused fault) P = Unit {0}
IfWanting NoMemory P = P

-- the trace is told for this reason: not where memory ran out, and of a run that has run out only where its wire closed idle
pub record ToldFor (told : Trace) (idle : Bool) (why : Reason) (t : Trace) : Type 0 where
  pub is : t ≡ told
  pub memory : why ≢ reason.Wanting
  pub out : why ≡ reason.RunOut → idle ≡ true

-- What is known of a run whose wire, of this origin, closed whole with these passes, for this reason.
pub record ClosedAs (tells : Bool) (o : Origin) (passes : List Pass) (why : Reason) (t : Trace) (asked : List Asked) (answers : Option (List ℕ)) : Type 0 where
  pub whole : IsWhole tells o t asked answers
  pub carries : All (λ pass. CarriesOn owner_of (knows pass) t.entries) passes
  pub owned : All (λ e. IsOneOf (owners_for o.opened) (owner_of e)) t.entries
  pub memory : why ≢ reason.Wanting
  pub idle : IsTrue tells → why ≡ reason.RunOut → Idle (fates_of t.sent) (end_of o t)

module _ {M : Type 0} where
  -- the conductor's reason, by the nodes in one list
  abbrev pub ListEnds : Bool → Limits → Reason → List (NodeParts M) → Sight → Type 0
  ListEnds tells limits reason.Down nodes k = All HasMemory nodes × Any IsDown nodes
  ListEnds tells limits reason.Done nodes k = All IsUp nodes × (IsTrue tells → All IsDone nodes)
  ListEnds tells limits reason.Enough nodes k = All IsUp nodes × (IsTrue tells → limits.messages ≤ length (sent_by (world_at k)))
  ListEnds tells limits reason.RunOut nodes k = All IsUp nodes × HasNothingOpen (world_at k) × (tick_count k.own ≡ limits.ticks)
  ListEnds tells limits reason.Wanting nodes k = Unit {0}

  -- each Tick that the conductor has seen stands where some node isn't done
  abbrev pub TicksWereWanted : Sight → List (NodeParts M) → Type 0
  TicksWereWanted k nodes = (front : List Entry) (moment : ℕ) (rest : List Entry) → k.story ≡ front ++ Tick moment ∷ rest → Any (IsLateAfter (base_at k) front) nodes

  -- How rounds for acts have ended. If all brokers are done, what is decided is settled.
  pub record RoundsEnd (tells : Bool) (limits : Limits) (why : Reason) (nodes : List (NodeParts M)) (k : Sight) : Type 0 where
    pub ticks : tick_count k.own ≤ limits.ticks
    pub wanted : IsTrue tells → TicksWereWanted k nodes
    pub ends : ListEnds tells limits why nodes k
    pub settled : IsTrue tells → why ≡ reason.Done → AreSettled nodes

  -- Why nodes that only settle end: what is decided is settled; or a node is down; or memory ran out.
  abbrev pub PauseEnds : Bool → Reason → List (NodeParts M) → Type 0
  PauseEnds tells reason.RunOut nodes = All IsUp nodes × (IsTrue tells → AreSettled nodes)
  PauseEnds tells reason.Down nodes = All HasMemory nodes × Any IsDown nodes
  PauseEnds tells reason.Wanting nodes = Unit {0}
  PauseEnds tells _ nodes = ⊥

  -- How a run that only settles has ended: it has run out if one Tick was made.
  pub record SettlingEnds (tells : Bool) (why : Reason) (nodes : List (NodeParts M)) (k : Sight) : Type 0 where
    pub few : tick_count k.own ≤ 1
    pub once : why ≡ reason.RunOut → tick_count k.own ≡ 1
    pub ends : PauseEnds tells why nodes

  -- how nodes have ended, by what the run is for
  abbrev pub CourseEnds : Bool → Course → Reason → List (NodeParts M) → Sight → Type 0
  CourseEnds tells (Acts limits) why nodes k = RoundsEnd tells limits why nodes k
  CourseEnds tells Settling why nodes k = SettlingEnds tells why nodes k

-- How nodes have gone, by what the conductor has seen. `begun` are they as they were opened, in the plan's order.
pub record HaveGoneOn {M : Type 0} (w : Media M) (begun nodes : List (NodeParts M)) (k : Sight) : Type 0 where
  pub went : AllZip (GoesOn w.tells w.faults w.reads) begun nodes
  pub kept : AllZip (IsKeptThrough w.tells w.stages) begun nodes
  pub all : All (HasAllOf k.story) nodes
  pub owner : k.owner ≡ 0

-- How nodes have gone in rounds for acts, and why no further round follows.
pub record HaveCome {M : Type 0} (w : Media M) (limits : Limits) (begun : List (NodeParts M)) (why : Reason) (nodes : List (NodeParts M)) (k : Sight) : Type 0 where
  pub on : HaveGoneOn w begun nodes k
  pub ticks : tick_count k.own ≤ limits.ticks
  pub wanted : IsTrue w.tells → TicksWereWanted k nodes
  pub ends : ListEnds w.tells limits why nodes k

-- How nodes ended, by what is handed back.
pub record HaveGone {M : Type 0} (w : Media M) (course : Course) (begun : List (NodeParts M)) (why : Reason) (media : List (Option M)) (passes : List Pass) : Type 0 where
  pub nodes : List (NodeParts M)
  pub conductor : Pass
  pub media_are : media ≡ map (λ n. Some n.medium) nodes
  pub passes_are : passes ≡ map (λ n. n.pass) nodes ++ conductor ∷ []
  pub on : HaveGoneOn w begun nodes (knows conductor)
  pub rest : All (IsAtRest w) nodes
  pub ends : CourseEnds w.tells course why nodes (knows conductor)

module _ {M Q A : Type 0} (w : Media M) (lock : LockTable WireParts (View WireParts Entry) (Founding WireParts) Q A) (course : Course) where
  -- Nodes went in rounds from these on, and then the run's wire closed: their media stand in their places, and this is the end.
  pub record HasClosed (begun : List (NodeParts M)) (media : List (Option M)) (end : End) (asked : List Asked) (answers : Option (List ℕ)) : Type 0 where
    pub why : Reason
    pub passes : List Pass
    pub gone : HaveGone w course begun why media passes
    pub wires : All (IsWirePass lock) passes
    pub closed : IfRan end (λ t. ClosedAs w.tells (base_of lock).origin passes why t asked answers)
    pub untold : IfWanting end (LeavesUntold w.tells (base_of lock).origin passes)
