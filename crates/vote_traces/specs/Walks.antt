-- What has become of the members and the polls by a place of a trace, as a walk over the entries, the first one first.
use Rattle.std.specs.Prelude.{ℕ, Bool, true, false, List, [], ◌∷◌, ◌++◌, map, Option, Some, None, is_some, if◌then◌else◌}
use Rattle.std.specs.Option.{unwrap_or}
use Rattle.pseudo_time.specs.Nodes.{repository, broker, same_node}
use Rattle.pseudo_time.specs.declared.nodes.NodeId.{NodeId}
use Rattle.pseudo_time.specs.declared.nodes.NodeKind.{NodeKind}
use Rattle.pseudo_time.specs.declared.nodes.NodeKind.TheVariants.{Repository, Broker}
use Rattle.effect_form.specs.declared.effects.Effect.{Effect}
use Rattle.message_form.specs.declared.turns.Out.{Out}
use Rattle.message_form.specs.Posts.{Post, posts}
use Rattle.message_core.specs.Tallies.{numbered}
use Rattle.record_votes.specs.declared.ballots.Wish.TheVariants as wish
use Rattle.record_votes.specs.declared.member_numbers.MemberNumber.{MemberNumber}
use Rattle.record_votes.specs.Polls.{member, voter_at, PollState, PollGiven, ignored, poll_goes, poll_hears, poll_takes}
use Rattle.record_votes.specs.Voting.{Member, Line, opened, took, heard, shut, crashed, new_poll}
use Rattle.world_core.specs.declared.entries.Entry.{Entry}
use Rattle.world_core.specs.declared.entries.Entry.TheVariants.{Take, Go, Learn, Hear, Gate, Crash, Down, Tick}
use Rattle.world_core.specs.declared.traces.Opened.{Opened}
use Rattle.world_core.specs.Nodes.{opened_mind}
use Rattle.world_core.specs.Walks.{opened_log, Life, Flags, opened_flags, Sending, World, names, is_down, flags_after, heard_after, taken_after, ticks_after, last_after}

-- what a walk begins with
pub record Base : Type 0 where
  pub start : ℕ
  pub opened : List Opened
  -- poll i has line i
  pub lines : List Line

-- no poll has this line
abbrev pub no_line : Line
no_line = record { stamp = record { clock = 0; broker = 0; home = 0 }; timeout = 0; wish = wish.Withdraw }

abbrev pub line_at : List Line → ℕ → Line
line_at lines i = unwrap_or (numbered lines i) no_line

abbrev pub log_at : List Opened → MemberNumber → List Effect
log_at opened s = unwrap_or (opened_log opened (member s)) []

-- ---- the hall at a place of a trace

pub record Hall : Type 0 where
  pub members : MemberNumber → Member
  pub polls : ℕ → PollState
  -- the messages of each poll that wait for its next gate
  pub owed : ℕ → List Out
  pub flags : NodeId → Flags
  -- it heard the last Tick
  pub heard : NodeId → Bool
  -- in order, so numbered from 1
  pub sendings : List Sending
  -- the numbers that were taken, once for each copy
  pub taken : List ℕ
  pub ticks : ℕ
  pub last : Option ℕ
  -- an entry stands that is no Down
  pub moved : Bool

abbrev pub start_hall : Base → Hall
start_hall b = record {
  members = λ s. opened b.start (log_at b.opened s);
  polls = λ i. new_poll i (line_at b.lines i);
  owed = λ i. [];
  flags = λ n. opened_flags (is_some (opened_log b.opened n));
  heard = λ n. false;
  sendings = [];
  taken = [];
  ticks = 0;
  last = None;
  moved = false;
}

-- ---- what a run's rules look at

abbrev pub life_with : List Effect → List Effect → List Out → Life
life_with gated fresh outs = record { gated = gated; fresh = fresh; outs = outs; mind = opened_mind 0 }

abbrev pub voter_life : Hall → Option MemberNumber → Life
voter_life h None = life_with [] [] []
voter_life h (Some s) = life_with (h.members s).gated (h.members s).fresh (h.members s).owed

-- A poll has no effects.
abbrev pub life_of : Hall → NodeKind → ℕ → Life
life_of h Repository i = voter_life h (voter_at i)
life_of h Broker i = life_with [] [] (h.owed i)

-- the hall as a world of nodes; what a node keeps beside its log plays no part in the rules
abbrev pub world_of : Hall → World
world_of h = record {
  life = λ n. life_of h n.kind n.number;
  flags = h.flags;
  heard = h.heard;
  sendings = h.sendings;
  taken = h.taken;
  ticks = h.ticks;
  last = h.last;
  moved = h.moved;
}

-- ---- one entry

-- A message that wasn't sent gives nothing.
abbrev pub member_took : Member → Option Sending → Member
member_took m None = m
member_took m (Some s) = took m s.post.from s.post.message

-- Before any Tick there is nothing to hear.
abbrev pub member_heard : Member → Option ℕ → Member
member_heard m None = m
member_heard m (Some moment) = heard m moment

-- a member after an entry of its own
abbrev pub member_on : Base → Hall → Member → Entry → Member
member_on b h m (Take node number) = member_took m (numbered h.sendings number)
member_on b h m (Go node) = m
member_on b h m (Learn node stamp committed) = m
member_on b h m (Hear node) = member_heard m h.last
member_on b h m (Gate node) = shut m
member_on b h m (Crash node kept) = crashed m kept b.start
member_on b h m (Down node cause) = m
member_on b h m (Tick moment) = m

abbrev pub member_after : Base → Hall → Entry → MemberNumber → Member
member_after b h e s = if names (member s) e then member_on b h (h.members s) e else h.members s

abbrev pub poll_took : PollState → Option Sending → PollGiven
poll_took p None = ignored p
poll_took p (Some s) = poll_takes p s.post.from s.post.message

abbrev pub poll_heard : PollState → Option ℕ → List Out
poll_heard p None = []
poll_heard p (Some moment) = poll_hears p

-- a poll after an entry of its own, and the messages that it owes then
abbrev pub poll_on : Hall → PollState → Entry → PollState
poll_on h p (Take node number) = (poll_took p (numbered h.sendings number)).poll
poll_on h p (Go node) = p
poll_on h p (Learn node stamp committed) = p
poll_on h p (Hear node) = p
poll_on h p (Gate node) = p
poll_on h p (Crash node kept) = p
poll_on h p (Down node cause) = p
poll_on h p (Tick moment) = p

abbrev pub poll_after : Hall → Entry → ℕ → PollState
poll_after h e i = if names (broker i) e then poll_on h (h.polls i) e else h.polls i

abbrev pub owed_on : Hall → PollState → List Out → Entry → List Out
owed_on h p outs (Take node number) = outs ++ (poll_took p (numbered h.sendings number)).outs
owed_on h p outs (Go node) = outs ++ poll_goes p
owed_on h p outs (Learn node stamp committed) = outs
owed_on h p outs (Hear node) = outs ++ poll_heard p h.last
owed_on h p outs (Gate node) = []
owed_on h p outs (Crash node kept) = outs
owed_on h p outs (Down node cause) = outs
owed_on h p outs (Tick moment) = outs

abbrev pub owed_after : Hall → Entry → ℕ → List Out
owed_after h e i = if names (broker i) e then owed_on h (h.polls i) (h.owed i) e else h.owed i

-- the messages that a gate of this node sends
abbrev pub leaving : Hall → NodeId → List Post
leaving h n = posts n (life_of h n.kind n.number).outs

abbrev pub sendings_after : Hall → Entry → List Sending
sendings_after h (Take node number) = h.sendings
sendings_after h (Go node) = h.sendings
sendings_after h (Learn node stamp committed) = h.sendings
sendings_after h (Hear node) = h.sendings
sendings_after h (Gate node) = h.sendings ++ map (λ (p : Post). record { post = p; ticks = h.ticks }) (leaving h node)
sendings_after h (Crash node kept) = h.sendings
sendings_after h (Down node cause) = h.sendings
sendings_after h (Tick moment) = h.sendings

abbrev pub step : Base → Hall → Entry → Hall
step b h e = record {
  members = member_after b h e;
  polls = poll_after h e;
  owed = owed_after h e;
  flags = flags_after (world_of h) e;
  heard = heard_after (world_of h) e;
  sendings = sendings_after h e;
  taken = taken_after h.taken e;
  ticks = ticks_after h.ticks e;
  last = last_after h.last e;
  moved = if is_down e then h.moved else true;
}

-- ---- a whole trace

unfoldable pub walk_from : Base → Hall → List Entry → Hall
walk_from b h [] = h
walk_from b h (e ∷ es) = walk_from b (step b h e) es

abbrev pub walk : Base → List Entry → Hall
walk b es = walk_from b (start_hall b) es
