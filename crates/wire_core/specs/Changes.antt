-- What the calls of a wire do to it, and when they answer what.
use Rattle.std.specs.Prelude.{◌≡◌, ℕ, true, false, List, [], ◌∷◌, ◌++◌, map, Option, Some, None}
use Rattle.std.specs.List.{filter}
use Rattle.pseudo_time.specs.declared.nodes.NodeId.{NodeId}
use Rattle.message_form.specs.declared.turns.Out.{Out}
use Rattle.message_form.specs.Posts.{Post, posts}
use Rattle.stream_port.specs.declared.fates.Fate.{Fate}
use Rattle.stream_port.specs.Fates.{copies_of}
use Rattle.message_core.specs.declared.letters.Arrival.{Arrival}
use Rattle.message_core.specs.Arrivals.{IsFront}
use Rattle.message_core.specs.Flights.{waiting}
use Rattle.message_core.specs.Parts.{state_of}
use Rattle.world_core.specs.declared.entries.Entry.{Entry}
use Rattle.world_core.specs.declared.entries.Entry.TheVariants.{Take, Gate, Tick}
use Rattle.world_core.specs.Nodes.{leaves}
use Rattle.world_core.specs.Walks.{World, Sending, numbered, all_effects}
use Rattle.world_core.specs.Legal.{HasGone, IsReleased, times_taken, is_behind, post_of}
use Rattle.wire_core.specs.Wires.{WireParts, world_of}
use Rattle.wire_core.specs.declared.takens.Taken.{Taken}
use Rattle.wire_core.specs.declared.takens.Taken.TheVariants.{Behind, Nothing, Arrived}

-- one entry was added, and no message was sent
pub record HasMore (old new : WireParts) (e : Entry) : Type 0 where
  pub whole : old.broken ≡ false
  pub origin : new.origin ≡ old.origin
  pub entries : new.entries ≡ old.entries ++ e ∷ []
  pub sent : new.sent ≡ old.sent
  pub still : new.broken ≡ false

-- the node's gate was added, and these messages were sent, in order
pub record HasGated (old new : WireParts) (n : NodeId) (outs : List Out) : Type 0 where
  pub whole : old.broken ≡ false
  pub origin : new.origin ≡ old.origin
  pub entries : new.entries ≡ old.entries ++ Gate n ∷ []
  pub sent : map post_of new.sent ≡ map post_of old.sent ++ posts n outs
  pub still : new.broken ≡ false

-- nothing happened
pub record IsSame (old new : WireParts) : Type 0 where
  pub whole : old.broken ≡ false
  pub same : new ≡ old

-- Memory ran out: the trace is as before, and every later change answers the same.
pub record IsBroken (old new : WireParts) : Type 0 where
  pub origin : new.origin ≡ old.origin
  pub entries : new.entries ≡ old.entries
  pub sent : new.sent ≡ old.sent
  pub broken : new.broken ≡ true

-- ---- taking

-- what taking answers, and when
abbrev pub Takes : WireParts → WireParts → NodeId → Taken → Type 0
Takes old new n Behind = (is_behind (world_of old) n ≡ true) × IsSame old new
Takes old new n Nothing = (is_behind (world_of old) n ≡ false) × (waiting (state_of old.flight) n ≡ []) × IsSame old new
Takes old new n (Arrived a) = (is_behind (world_of old) n ≡ false) × IsFront (state_of old.flight) n a × HasMore old new (Take n a.number)

abbrev pub IfArrived : (Arrival → Type 0) → Taken → Type 0
IfArrived P Behind = Unit {0}
IfArrived P Nothing = Unit {0}
IfArrived P (Arrived a) = P a

abbrev pub IfNothing : Type 0 → Taken → Type 0
IfNothing P Behind = Unit {0}
IfNothing P Nothing = P
IfNothing P (Arrived a) = Unit {0}

-- what arrived is the message with its number among these, and went to this node
abbrev pub IsCopyOf : List Post → NodeId → Arrival → Type 0
IsCopyOf posts n a = numbered posts a.number ≡ Some (record { from = a.from; to = n; message = a.message })

-- each message to this node was taken as often as it has copies, where they are due
abbrev pub TookAll : List Fate → World → NodeId → Type 0
TookAll fates w n = (number : ℕ) (s : Sending) → numbered w.sendings number ≡ Some s → s.post.to ≡ n
    → (fate : Fate) × (numbered fates number ≡ Some fate) × (IsReleased w s fate → times_taken w number ≡ copies_of fate)

-- ---- gates

-- the messages that a node's gate has to send: those that it owes, without each Ask whose stamp its log knows
abbrev pub owed : World → NodeId → List Out
owed w n = filter (leaves (all_effects (w.life n))) (w.life n).outs

-- ---- ticks

-- the node has nothing to do
pub record IsQuietAt (w : WireParts) (n : NodeId) : Type 0 where
  pub empty : waiting (state_of w.flight) n ≡ []
  pub closed : ((world_of w).flags n).due ≡ false
  pub heard : is_behind (world_of w) n ≡ false
  pub gone : HasGone (world_of w) n

-- no node that is up has anything to do
abbrev pub IsQuiet : WireParts → Type 0
IsQuiet w = (n : NodeId) → ((world_of w).flags n).up ≡ true → IsQuietAt w n

abbrev pub Ticks : WireParts → WireParts → Option ℕ → Type 0
Ticks old new None = (IsQuiet old → ⊥) × IsSame old new
Ticks old new (Some moment) = IsQuiet old × HasMore old new (Tick moment)

-- a tick is made just where this holds
abbrev pub JustWhere : Type 0 → Option ℕ → Type 0
JustWhere P None = P → ⊥
JustWhere P (Some moment) = P
