-- What holds of every wire.
use Rattle.std.specs.Prelude.{◌≡◌, ℕ, ◌+◌, ◌^◌, ◌≤◌, ◌<◌, Bool, false, List, ◌++◌, map, length, Option, IsTrue}
use Rattle.std.specs.Option.{unwrap_or}
use Rattle.pseudo_time.specs.Lists.{Every}
use Rattle.pseudo_time.specs.declared.nodes.NodeId.{NodeId}
use Rattle.value_form.specs.declared.acts.ActSpec.{ActSpec}
use Rattle.stream_port.specs.declared.fates.Asked.{Asked}
use Rattle.message_core.specs.Parts.{FlightParts, state_of}
use Rattle.message_core.specs.Senders.{AllInRange}
use Rattle.world_core.specs.declared.traces.Opened.{Opened}
use Rattle.world_core.specs.declared.traces.Sent.{Sent}
use Rattle.world_core.specs.Walks.{sent_by, start_world}
use Rattle.world_core.specs.Legal.{Meets, Numbered, post_of, fates_of, asked_of}
use Rattle.wire_core.specs.declared.flags.NodeFlags.{NodeFlags}
use Rattle.wire_core.specs.declared.stories.Story.{Story}
use Rattle.wire_core.specs.Wires.{WireParts, Origin, base_from, world_of}
use Rattle.wire_core.specs.Clocked.{IsClocked, tick_moments}
use Rattle.wire_core.specs.Learns.{LearnsAreNew}
use Rattle.wire_core.specs.Copies.{Marked, posted, IsTied}
use Rattle.wire_core.specs.Stories.{Fits}

-- The copies in flight follow from the trace. Where media tell their content, its messages are those of the walk.
pub record IsFlown (told : Bool) (w : WireParts) : Type 0 where
  pub marks : List Marked
  pub tied : IsTied (state_of w.flight) (world_of w) w.sent marks
  pub walked : IsTrue told → (world_of w).sendings ≡ map posted marks

pub record IsSound (told : Bool) (w : WireParts) (nodes : List (NodeId × NodeFlags)) (ticks : ℕ) (last : Option ℕ) : Type 0 where
  -- what the code keeps of the nodes is what the entries give
  pub fits : Fits (world_of w) nodes ticks last
  -- the messages are numbered, and can be written
  pub numbers : Numbered 1 w.sent
  pub in_range : AllInRange (map post_of w.sent)
  pub count : length w.sent < 2 ^ 32
  -- moments stay small
  pub size : length w.entries < 2 ^ 32
  pub start : w.origin.start ≤ 2 ^ 62
  pub moment : unwrap_or last w.origin.start ≤ 2 ^ 62 + length w.entries
  pub moments : Every (λ moment. moment < 2 ^ 63) (tick_moments w.entries)
  -- where media tell their content, the trace is legal
  pub sent : IsTrue told → map post_of w.sent ≡ sent_by (world_of w)
  pub meets : IsTrue told → Meets (base_from w.origin) (fates_of w.sent) (start_world (base_from w.origin)) w.entries
  pub learns : IsTrue told → LearnsAreNew (base_from w.origin) w.entries
  -- until memory ran out
  pub asked : w.broken ≡ false → w.asked ≡ w.origin.asked ++ map asked_of w.sent
  pub clocked : w.broken ≡ false → IsClocked w.origin.answers w.answers w.origin.start w.entries
  pub flown : w.broken ≡ false → IsFlown told w

-- ---- the code's fields

abbrev pub origin_with : ℕ → List ActSpec → ℕ → List Opened → List Asked → Option (List ℕ) → Origin
origin_with run acts start opened asked answers = record { run = run; acts = acts; start = start; opened = opened; asked = asked; answers = answers }

abbrev pub parts_with : Origin → Story → List Sent → List Asked → Option (List ℕ) → FlightParts → Bool → WireParts
parts_with o s sent asked answers flight broken = record {
  origin = o;
  entries = s.entries.items;
  sent = sent;
  asked = asked;
  answers = answers;
  flight = flight;
  broken = broken;
}
