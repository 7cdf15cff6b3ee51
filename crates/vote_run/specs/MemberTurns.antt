-- What turns of members do.
use Rattle.std.specs.Prelude.{◌≡◌, ◌⊎◌, ℕ, ◌+◌, ◌-◌, ◌++◌, Bool, true, false, List, [], length, Option, Some, None, is_some}
use Rattle.std.specs.Option.{unwrap_or}
use Rattle.pseudo_time.specs.declared.down_causes.DownCause.{DownCause}
use Rattle.pseudo_time.specs.declared.nodes.NodeId.{NodeId}
use Rattle.effect_form.specs.declared.effects.Effect.{Effect}
use Rattle.effect_form.specs.Effects.{AreEffects}
use Rattle.message_form.specs.Ranges.{AreOuts}
use Rattle.message_form.specs.declared.turns.Out.{Out}
use Rattle.message_form.specs.declared.turns.Turn.{Turn}
use Rattle.message_core.specs.declared.letters.Arrival.{Arrival}
use Rattle.message_core.specs.Flights.{waiting, was_shut}
use Rattle.message_core.specs.Parts.{state_of}
use Rattle.record_votes.specs.Books.{MemberState, given}
use Rattle.record_votes.specs.Members.{on_message, on_moment}
use Rattle.run_media.specs.Media.{Media}
use Rattle.version_store.specs.StoreWords.{medium_of}
use Rattle.version_store.specs.declared.stores.Store.{Store}
use Rattle.vote_members.specs.Closings.{IsCrashed, IsDurable, IsFallenFor, IsGone, IsSafe}
use Rattle.world_core.specs.declared.entries.Entry.TheVariants.{Crash, Down, Hear}
use Rattle.vote_courier.specs.Couriers.{CourierParts, HasSent, Takes, with_entry}
use Rattle.vote_run.specs.declared.seats.Seat.{Seat}
use Rattle.vote_run.specs.declared.seats.Seat.TheVariants.{Up, Fallen, Wanting}

-- ---- what reaches a member

-- it hears the last Tick, of this moment
pub record HearsMoment (n : NodeId) (moment : ℕ) (old new : CourierParts) (m k : MemberState) (t : Turn) : Type 0 where
  pub entry : new ≡ with_entry old (Hear n)
  pub gives : given t ≡ on_moment m.log moment
  pub state : k ≡ record m { log = m.log ++ t.effects; moment = moment }
  pub in_range : AreEffects t.effects × AreOuts t.outs

-- it takes a copy
pub record TakesCopy (n : NodeId) (old new : CourierParts) (m k : MemberState) (t : Turn) : Type 0 where
  pub arrival : Arrival
  pub takes : Takes n old new (Some arrival)
  pub gives : given t ≡ on_message m.log m.moment arrival.from arrival.message
  pub state : k ≡ record m { log = m.log ++ t.effects }
  pub in_range : AreEffects t.effects × AreOuts t.outs

-- no copy is due
pub record TakesNone (n : NodeId) (old new : CourierParts) (m k : MemberState) : Type 0 where
  pub none : waiting (state_of old.flight) n ≡ []
  pub still : new ≡ old
  pub state : k ≡ m

-- behind the last Tick it hears, else it takes a copy that is due
abbrev pub Begins : Bool → NodeId → ℕ → (old new : CourierParts) → (m k : MemberState) → Option Turn → Type 0
Begins true n moment old new m k None = ⊥
Begins true n moment old new m k (Some t) = HearsMoment n moment old new m k t
Begins false n moment old new m k None = TakesNone n old new m k
Begins false n moment old new m k (Some t) = TakesCopy n old new m k t

-- ---- how its turn ends

-- the moment of the last Tick, or the start
abbrev pub moment_of : CourierParts → ℕ
moment_of c = unwrap_or c.last c.start

module _ {M : Type 0} {g : _} (w : Media M) where
  -- its effects are durable, and its messages are sent
  pub record IsGated (n : NodeId) (outs : List Out) (old new : CourierParts) (before : Store M g) (effects : List Effect) (m k : MemberState) (s : Store M g) : Type 0 where
    pub durable : IsDurable w before s effects
    pub sends : HasSent n outs old new
    pub state : k ≡ m

  -- its medium failed, and it resumes from the log that was found
  pub record IsReopened (n : NodeId) (durable : ℕ) (old new : CourierParts) (before : Store M g) (effects : List Effect) (m k : MemberState) (s : Store M g) : Type 0 where
    pub found : List Effect
    pub crashed : IsCrashed w before s effects found
    pub entry : new ≡ with_entry old (Crash n (length found - durable))
    pub state : k ≡ record m { log = found; moment = old.start }

  -- it is down
  pub record IsDown (n : NodeId) (old new : CourierParts) (before : Store M g) (effects : List Effect) (left : M) : Type 0 where
    pub cause : DownCause
    pub caused : IsFallenFor w cause before effects left
    pub gone : IsGone w before effects left
    pub flight : state_of new.flight ≡ was_shut (state_of old.flight) n
    pub entry : new ≡ record (with_entry old (Down n cause)) { flight = new.flight }

  abbrev pub EndsAs : NodeId → (durable : ℕ) → (old new : CourierParts) → Store M g → List Effect → List Out → MemberState → Seat M g → Type 0
  EndsAs n durable old new before effects outs m (Up k s count behind) =
      (IsGated n outs old new before effects m k s × (count ≡ durable + length effects) × (behind ≡ false))
      ⊎ (IsReopened n durable old new before effects m k s × (count ≡ length k.log) × (behind ≡ is_some old.last))
  EndsAs n durable old new before effects outs m (Fallen None) = ⊥
  EndsAs n durable old new before effects outs m (Fallen (Some left)) = IsDown n old new before effects left
  EndsAs n durable old new before effects outs m (Wanting left) = IsSafe w before effects left

  -- its messages are sent, if its log's effects could be counted
  abbrev pub Sends : NodeId → List Out → (old new : CourierParts) → MemberState → Store M g → Option ℕ → Seat M g → Type 0
  Sends n outs old new m before count (Up k s durable behind) = HasSent n outs old new × (k ≡ m) × (s ≡ before) × (Some durable ≡ count) × (behind ≡ false)
  Sends n outs old new m before count (Fallen left) = ⊥
  Sends n outs old new m before count (Wanting left) = left ≡ medium_of before

  -- ---- a whole turn

  -- one that is up has this number, and its medium hasn't failed
  abbrev pub MayTurn : ℕ → Seat M g → Type 0
  MayTurn number (Up m s durable behind) = (m.number ≡ number) × (w.is_failed (medium_of s) ≡ false)
  MayTurn number (Fallen left) = Unit {0}
  MayTurn number (Wanting left) = Unit {0}

  -- it did something, and ended it
  pub record Acted (n : NodeId) (old new : CourierParts) (m : MemberState) (before : Store M g) (durable : ℕ) (behind : Bool) (seat : Seat M g) : Type 0 where
    pub mid : CourierParts
    pub state : MemberState
    pub turn : Turn
    pub begins : Begins behind n (moment_of old) old mid m state (Some turn)
    pub ends : EndsAs n durable mid new before turn.effects turn.outs state seat

  -- it had nothing to do
  pub record Stayed (n : NodeId) (old new : CourierParts) (m : MemberState) (before : Store M g) (durable : ℕ) (behind : Bool) (seat : Seat M g) : Type 0 where
    pub none : Begins behind n (moment_of old) old new m m None
    pub same : seat ≡ Up m before durable behind

  -- memory ran out before it did anything
  abbrev pub Wants : M → Seat M g → Type 0
  Wants old (Wanting left) = left ≡ old
  Wants old _ = ⊥

  -- A member that isn't up has no turn.
  abbrev pub Turns : NodeId → (old new : CourierParts) → Seat M g → Seat M g → Type 0
  Turns n old new (Up m before durable behind) seat =
      Acted n old new m before durable behind seat ⊎ (Stayed n old new m before durable behind seat ⊎ Wants (medium_of before) seat)
  Turns n old new (Fallen left) seat = (new ≡ old) × (seat ≡ Fallen left)
  Turns n old new (Wanting left) seat = (new ≡ old) × (seat ≡ Wanting left)
