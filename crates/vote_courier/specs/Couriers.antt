-- What a courier holds, and what its calls do to it.
use Rattle.std.specs.Prelude.{◌≡◌, ℕ, List, [], ◌∷◌, ◌++◌, max, min, ◌+◌, ◌^◌, ◌≤◌, ◌<◌, length, map, Option, Some, None}
use Rattle.std.specs.Option.{unwrap_or}
use Rattle.pseudo_time.specs.declared.nodes.NodeId.{NodeId}
use Rattle.stream_port.specs.declared.fates.Asked.{Asked}
use Rattle.message_core.specs.declared.letters.Arrival.{Arrival}
use Rattle.message_core.specs.Arrivals.{IsFront}
use Rattle.message_core.specs.Flights as flights
use Rattle.message_core.specs.Flights.{taken, waiting}
use Rattle.message_core.specs.Parts.{FlightParts, state_of}
use Rattle.message_form.specs.declared.turns.Out.{Out}
use Rattle.message_form.specs.Posts.{posts}
use Rattle.message_form.specs.Ranges.{AreOuts}
use Rattle.world_core.specs.Legal.{Numbered, asked_of, post_of}
use Rattle.world_core.specs.Walks.{World}
use Rattle.vote_wire.specs.Copies.{IsTied, Marked, all_marked}
use Rattle.world_core.specs.declared.entries.Entry.{Entry}
use Rattle.world_core.specs.declared.entries.Entry.TheVariants.{Take, Gate}
use Rattle.world_core.specs.declared.traces.Opened.{Opened}
use Rattle.world_core.specs.declared.traces.Sent.{Sent}

pub record CourierParts : Type 0 where
  pub start : ℕ
  pub opened : List Opened
  pub sent : List Sent
  pub entries : List Entry
  pub asked : List Asked
  pub answers : Option (List ℕ)
  -- the due and the held copies
  pub flight : FlightParts
  -- the moment of the last Tick
  pub last : Option ℕ

-- one entry more, and nothing else
abbrev pub with_entry : CourierParts → Entry → CourierParts
with_entry c e = record c { entries = c.entries ++ e ∷ [] }

-- the front copy was taken; or none was due, and nothing happened
abbrev pub Takes : NodeId → CourierParts → CourierParts → Option Arrival → Type 0
Takes n old new None = (waiting (state_of old.flight) n ≡ []) × (new ≡ old)
Takes n old new (Some a) = IsFront (state_of old.flight) n a × (state_of new.flight ≡ taken (state_of old.flight) n) × (new ≡ record old { entries = old.entries ++ Take n a.number ∷ []; flight = new.flight })

-- the moment of a Tick, by the clock's answer: a later one than 2^62 counts as 2^62
abbrev pub tick_moment : CourierParts → ℕ → ℕ
tick_moment c answer = max (min answer (2 ^ 62)) (unwrap_or c.last c.start + 1)

-- What a gate of this node sends: these messages, in order, each with the fate that was asked for it. Their copies are in flight.
pub record HasSent (n : NodeId) (outs : List Out) (old new : CourierParts) : Type 0 where
  pub news : List Sent
  pub in_range : AreOuts outs
  pub sent : new.sent ≡ old.sent ++ news
  pub posted : map post_of news ≡ posts n outs
  pub numbers : Numbered (length old.sent + 1) news
  pub asked : new.asked ≡ old.asked ++ map asked_of news
  pub entries : new.entries ≡ old.entries ++ Gate n ∷ []
  pub start : new.start ≡ old.start
  pub opened : new.opened ≡ old.opened
  pub answers : new.answers ≡ old.answers
  pub last : new.last ≡ old.last
  pub copies : (w : World) (marks : List Marked) → IsTied (state_of old.flight) w old.sent marks → IsTied (state_of new.flight) w new.sent (marks ++ all_marked w.ticks news)

-- a courier that begins: nothing was sent, and each of these nodes has an empty queue
pub record IsNew (names : List NodeId) (opened : List Opened) (asked : List Asked) (c : CourierParts) : Type 0 where
  pub opened_is : c.opened ≡ opened
  pub sent : c.sent ≡ []
  pub entries : c.entries ≡ []
  pub asked_is : c.asked ≡ asked
  pub flight : state_of c.flight ≡ flights.start names
  pub start : c.start ≤ 2 ^ 62
  pub last : c.last ≡ None

-- moments stay small
pub record HasSmallMoments (begun : ℕ) (last : Option ℕ) (entries : List Entry) : Type 0 where
  pub size : length entries < 2 ^ 32
  pub start : begun ≤ 2 ^ 62
  pub moment : unwrap_or last begun ≤ 2 ^ 62 + length entries
