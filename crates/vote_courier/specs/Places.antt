-- Where nodes stand between their turns, and what a turn keeps.
use Rattle.std.specs.Prelude.{◌≡◌, ℕ, Bool, true, false, List, [], ◌++◌, map, Option, None}
use Rattle.pseudo_time.specs.Nodes.{broker}
use Rattle.pseudo_time.specs.declared.nodes.NodeId.{NodeId}
use Rattle.stream_port.specs.declared.fates.Asked.{Asked}
use Rattle.message_form.specs.declared.turns.Out.{Out}
use Rattle.record_votes.specs.declared.member_numbers.MemberNumber.{MemberNumber}
use Rattle.record_votes.specs.Polls.{PollState, member}
use Rattle.record_votes.specs.Voting.{Line}
use Rattle.world_core.specs.declared.entries.Entry.{Entry}
use Rattle.world_core.specs.Legal.{HasGone, asked_of, is_behind}
use Rattle.world_core.specs.Walks.{own}
use Rattle.vote_wire.specs.Clocked.{IsClocked}
use Rattle.vote_wire.specs.Walks.{Hall, world_of}
use Rattle.vote_courier.specs.Couriers.{CourierParts}
use Rattle.vote_courier.specs.Stations.{Stands, hall_of}

-- It is up and, a poll, has gone; nothing is left to close. Told is whether a Tick stands that it hasn't heard.
pub record IsReady (h : Hall) (n : NodeId) (behind : Bool) : Type 0 where
  pub up : (h.flags n).up ≡ true
  pub closed : (h.flags n).due ≡ false
  pub gone : HasGone (world_of h) n
  pub behind_is : is_behind (world_of h) n ≡ behind

-- a poll between its turns
pub record PollIsAt (h : Hall) (i : ℕ) (p : PollState) (behind : Bool) : Type 0 where
  pub ready : IsReady h (broker i) behind
  pub poll : h.polls i ≡ p
  pub owed : h.owed i ≡ []

-- a poll that hasn't gone; no Tick stands
pub record PollIsNew (h : Hall) (i : ℕ) (p : PollState) : Type 0 where
  pub up : (h.flags (broker i)).up ≡ true
  pub fresh : (h.flags (broker i)).gone ≡ false
  pub still : h.last ≡ None
  pub poll : h.polls i ≡ p
  pub owed : h.owed i ≡ []

-- a poll that has these messages to send
pub record PollOwes (h : Hall) (i : ℕ) (p : PollState) (outs : List Out) : Type 0 where
  pub up : (h.flags (broker i)).up ≡ true
  pub due : (h.flags (broker i)).due ≡ true
  pub gone : (h.flags (broker i)).gone ≡ true
  pub heard : is_behind (world_of h) (broker i) ≡ false
  pub poll : h.polls i ≡ p
  pub owed : h.owed i ≡ outs

-- Nothing changed but of these nodes, and no time passed.
pub record OnlyChanges (of : NodeId → Bool) (h k : Hall) : Type 0 where
  pub flags : (m : NodeId) → of m ≡ false → k.flags m ≡ h.flags m
  pub heard : (m : NodeId) → of m ≡ false → k.heard m ≡ h.heard m
  pub members : (s : MemberNumber) → of (member s) ≡ false → k.members s ≡ h.members s
  pub polls : (i : ℕ) → of (broker i) ≡ false → k.polls i ≡ h.polls i
  pub owed : (i : ℕ) → of (broker i) ≡ false → k.owed i ≡ h.owed i
  pub last : k.last ≡ h.last
  pub ticks : k.ticks ≡ h.ticks

-- Before it the fates had been asked so, and the clock had answered so. It asked them for its messages, its start and its Ticks alone.
pub record Tells (asked : List Asked) (answers : Option (List ℕ)) (c : CourierParts) : Type 0 where
  pub fates : c.asked ≡ asked ++ map asked_of c.sent
  pub clock : IsClocked answers c.answers c.start c.entries

-- What turns of these nodes add: entries of their own alone, and what the courier began with stays.
pub record Adds (of : NodeId → Bool) (c d : CourierParts) : Type 0 where
  pub more : List Entry
  pub longer : d.entries ≡ c.entries ++ more
  pub own_entries : (m : NodeId) → of m ≡ false → own m more ≡ []
  pub start : d.start ≡ c.start
  pub opened : d.opened ≡ c.opened
  pub tells : (asked : List Asked) (answers : Option (List ℕ)) → Tells asked answers c → Tells asked answers d

-- and the trace is legal
pub record Keeps (lines : List Line) (of : NodeId → Bool) (c d : CourierParts) : Type 0 where
  pub stands : Stands lines d
  pub others : OnlyChanges of (hall_of lines c) (hall_of lines d)
  pub adds : Adds of c d
