-- Where all stand between rounds, and why a run ends.
use Rattle.std.specs.Prelude.{◌≡◌, ◌⊎◌, ℕ, ◌≤◌, ◌<◌, Bool, true, false, List, [], ◌∷◌, ◌++◌, length, Option, Some, None, is_some}
use Rattle.std.specs.List.{list_all}
use Rattle.pseudo_time.specs.declared.nodes.NodeId.{NodeId}
use Rattle.stream_port.specs.Clocks.{Adds as Answers}
use Rattle.message_core.specs.Flights.{AllEmpty, passed}
use Rattle.message_core.specs.Parts.{state_of}
use Rattle.record_votes.specs.Polls.{PollState, held}
use Rattle.record_votes.specs.Voting.{Line}
use Rattle.world_core.specs.declared.entries.Entry.TheVariants.{Tick}
use Rattle.world_core.specs.Legal.{Idle, fates_of}
use Rattle.run_media.specs.Media.{Media}
use Rattle.vote_courier.specs.Walks.{world_of}
use Rattle.vote_courier.specs.Legal.{base_of}
use Rattle.vote_law.specs.Smooth.{TicksForPolls}
use Rattle.vote_courier.specs.Couriers.{CourierParts, tick_moment}
use Rattle.vote_courier.specs.Places.{Adds}
use Rattle.vote_courier.specs.Stations.{Stands, hall_of, trace_of}
use Rattle.vote_run.specs.Members.{SitAll}
use Rattle.vote_run.specs.Rounds.{PollsAre}
use Rattle.vote_run.specs.declared.limits.Limits.{Limits}
use Rattle.vote_run.specs.declared.limits.Next.{Next}
use Rattle.vote_run.specs.declared.limits.Next.TheVariants.{Over, Round, Ticked}
use Rattle.vote_run.specs.declared.members.Members.{Members}

abbrev pub any_node : NodeId → Bool
any_node n = true

-- each poll holds a decision
abbrev pub all_held : List PollState → Bool
all_held ps = list_all (λ (p : PollState). is_some (held p)) ps

-- time has passed, for which the clock was asked once
pub record HasTicked (old new : CourierParts) : Type 0 where
  pub answer : ℕ
  pub answered : Answers old.answers new.answers (answer ∷ [])
  pub entries : new.entries ≡ old.entries ++ Tick (tick_moment old answer) ∷ []
  pub last : new.last ≡ Some (tick_moment old answer)
  pub flight : state_of new.flight ≡ passed (state_of old.flight)
  pub start : new.start ≡ old.start
  pub opened : new.opened ≡ old.opened
  pub sent : new.sent ≡ old.sent
  pub asked : new.asked ≡ old.asked

-- What follows a round: it is over where each poll holds a decision, enough messages were sent, or nobody has anything to do and no further Tick may be made.
abbrev pub Follows : Limits → (late : Bool) → (ticks : ℕ) → List PollState → (old new : CourierParts) → Next → Type 0
Follows limits late ticks ps old new Over =
    (new ≡ old) × ((all_held ps ≡ true) ⊎ ((limits.messages ≤ length old.sent) ⊎ ((late ≡ false) × AllEmpty (state_of old.flight) × (limits.ticks ≤ ticks))))
Follows limits late ticks ps old new Round = new ≡ old
Follows limits late ticks ps old new Ticked = (late ≡ false) × AllEmpty (state_of old.flight) × (ticks < limits.ticks) × HasTicked old new × (all_held ps ≡ false)

-- why it is over
abbrev pub IsOver : List Line → Limits → CourierParts → List PollState → Type 0
IsOver lines limits d qs = (all_held qs ≡ true) ⊎ ((limits.messages ≤ length d.sent) ⊎ (Idle (fates_of d.sent) (world_of (hall_of lines d)) × ((hall_of lines d).ticks ≡ limits.ticks)))

-- each Tick so far stands where a poll holds no decision
abbrev pub TicksAreWanted : List Line → CourierParts → Type 0
TicksAreWanted lines c = TicksForPolls (base_of lines (trace_of c)) c.entries

module _ {M : Type 0} {g : _} (w : Media M) (lines : List Line) where
  -- the trace is legal, and members and polls are at their places
  pub record Between (c : CourierParts) (ms : Members M g) (ps : List PollState) (behind : Bool) : Type 0 where
    pub stands : Stands lines c
    pub sit : SitAll w lines c ms
    pub polls : PollsAre (hall_of lines c) 0 behind ps

  -- a round
  pub record HasGoneRound (c d : CourierParts) (ms : Members M g) (qs : List PollState) : Type 0 where
    pub between : Between d ms qs false
    pub adds : Adds any_node c d
    pub ticks : (hall_of lines d).ticks ≡ (hall_of lines c).ticks

  -- a run so far: so many Ticks stand
  pub record HasCome (c d : CourierParts) (ms : Members M g) (qs : List PollState) (behind : Bool) (ticks : ℕ) : Type 0 where
    pub between : Between d ms qs behind
    pub adds : Adds any_node c d
    pub ticks_are : (hall_of lines d).ticks ≡ ticks
    pub wanted : TicksAreWanted lines d

  -- it is over
  pub record HasEnded (limits : Limits) (c d : CourierParts) (ms : Members M g) (qs : List PollState) : Type 0 where
    pub between : Between d ms qs false
    pub adds : Adds any_node c d
    pub few : (hall_of lines d).ticks ≤ limits.ticks
    pub wanted : TicksAreWanted lines d
    pub over : IsOver lines limits d qs

  -- what a step leaves: the run is over, or has come so far
  abbrev pub Came : Limits → (first new : CourierParts) → Members M g → List PollState → Option (Bool × ℕ) → Type 0
  Came limits first new ms qs None = HasEnded limits first new ms qs
  Came limits first new ms qs (Some next) = HasCome first new ms qs next.0 next.1
