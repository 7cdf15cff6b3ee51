-- A poll's rules: what it sends, and what it holds, by what it heard from the three members.
use Rattle.std.specs.Prelude.{ℕ, Bool, true, false, List, [], ◌∷◌, ◌++◌, Option, Some, None, is_some, ◌==◌, ◌&&◌, ◌||◌, not, if◌then◌else◌}
use Rattle.pseudo_time.specs.StampParts.{StampParts}
use Rattle.pseudo_time.specs.Order.{same_stamp}
use Rattle.pseudo_time.specs.declared.decisions.Decision.{Decision}
use Rattle.pseudo_time.specs.declared.nodes.NodeId.{NodeId}
use Rattle.pseudo_time.specs.declared.nodes.NodeKind.{NodeKind}
use Rattle.pseudo_time.specs.declared.nodes.NodeKind.TheVariants as kind
use Rattle.message_form.specs.declared.messages.Message.{Message}
use Rattle.message_form.specs.declared.messages.Message.TheVariants as message
use Rattle.message_form.specs.declared.turns.Out.{Out}
use Rattle.repository_log.specs.Logs.{is_commit}
use Rattle.pseudo_time.specs.Nodes.{repository}
use Rattle.record_votes.specs.declared.ballots.Ballot.{Ballot}
use Rattle.record_votes.specs.declared.member_numbers.MemberNumber.{MemberNumber}
use Rattle.record_votes.specs.declared.member_numbers.MemberNumber.TheVariants.{First, Second, Third}
use Rattle.record_votes.specs.declared.ballots.Wish.{Wish}
use Rattle.record_votes.specs.declared.ballots.Wish.TheVariants as wish

abbrev pub number_of : MemberNumber → ℕ
number_of First = 1
number_of Second = 2
number_of Third = 3

-- members are repositories 1 to 3
abbrev pub member : MemberNumber → NodeId
member s = repository (number_of s)

abbrev pub voter_at : ℕ → Option MemberNumber
voter_at n = if n == 1 then Some First else if n == 2 then Some Second else if n == 3 then Some Third else None

abbrev pub voter_by : NodeKind → ℕ → Option MemberNumber
voter_by kind.Repository n = voter_at n
voter_by kind.Broker n = None

abbrev pub voter_of : NodeId → Option MemberNumber
voter_of node = voter_by node.kind node.number

-- A poll. A ballot is what was heard from one member: whether Begun, and how the first Decided went.
pub record PollState : Type 0 where
  pub number : ℕ
  pub stamp : StampParts
  pub timeout : ℕ
  pub wish : Wish
  pub first : Ballot
  pub second : Ballot
  pub third : Ballot

abbrev pub ballot : PollState → MemberNumber → Ballot
ballot p First = p.first
ballot p Second = p.second
ballot p Third = p.third

abbrev pub with_ballot : PollState → MemberNumber → Ballot → PollState
with_ballot p First b = record p { first = b }
with_ballot p Second b = record p { second = b }
with_ballot p Third b = record p { third = b }

-- ---- what it holds

-- this was voted
abbrev pub is_vote : Bool → Option Bool → Bool
is_vote c None = false
is_vote true (Some v) = v
is_vote false (Some v) = not v

-- two of three voted so
abbrev pub is_held : Bool → Option Bool → Option Bool → Option Bool → Bool
is_held c x y z = (is_vote c x && is_vote c y) || ((is_vote c x && is_vote c z) || (is_vote c y && is_vote c z))

abbrev pub held_of : Option Bool → Option Bool → Option Bool → Option Bool
held_of x y z = if is_held true x y z then Some true else if is_held false x y z then Some false else None

-- the decision that two members agree on
abbrev pub held : PollState → Option Bool
held p = held_of p.first.vote p.second.vote p.third.vote

-- ---- what it sends

abbrev pub to_member : MemberNumber → Message → List Out
to_member s m = record { to = member s; message = m } ∷ []

abbrev pub wish_for : Wish → StampParts → Message
wish_for wish.Commit s = message.Commit s
wish_for wish.Withdraw s = message.Withdraw s

-- Begin, until Begun was heard
abbrev pub outstanding : PollState → Bool → Message
outstanding p false = message.Begin p.stamp p.timeout
outstanding p true = wish_for p.wish p.stamp

-- nothing to a member that has voted
abbrev pub asked : PollState → MemberNumber → Bool → Option Bool → List Out
asked p s begun (Some v) = []
asked p s begun None = to_member s (outstanding p begun)

abbrev pub asked_again : PollState → MemberNumber → List Out
asked_again p s = asked p s (ballot p s).begun (ballot p s).vote

-- a poll that holds a decision sends nothing
abbrev pub unless_held : PollState → List Out → List Out
unless_held p outs = if is_some (held p) then [] else outs

pub record PollGiven : Type 0 where
  pub poll : PollState
  pub outs : List Out

abbrev pub ignored : PollState → PollGiven
ignored p = record { poll = p; outs = [] }

abbrev pub begin_to : PollState → MemberNumber → List Out
begin_to p s = to_member s (message.Begin p.stamp p.timeout)

-- THE RULES OF POLLS: it goes
unfoldable pub poll_goes : PollState → List Out
poll_goes p = unless_held p (begin_to p First ++ (begin_to p Second ++ begin_to p Third))

-- a moment is heard
unfoldable pub poll_hears : PollState → List Out
poll_hears p = unless_held p (asked_again p First ++ (asked_again p Second ++ asked_again p Third))

-- Begun is heard from this member; the first asks for the wish
abbrev pub begun_heard : PollState → MemberNumber → Ballot → PollGiven
begun_heard p s b = record { poll = with_ballot p s (record b { begun = true }); outs = if b.begun then [] else unless_held p (asked p s true b.vote) }

-- Decided is heard from this member; the first counts
abbrev pub vote_heard : PollState → MemberNumber → Decision → Ballot → Option Bool → PollGiven
vote_heard p s d b None = record { poll = with_ballot p s (record b { vote = Some (is_commit d) }); outs = [] }
vote_heard p s d b (Some v) = ignored p

abbrev pub heard_from : PollState → MemberNumber → Message → PollGiven
heard_from p s (message.Begun x) = if same_stamp x p.stamp then begun_heard p s (ballot p s) else ignored p
heard_from p s (message.Decided x d) = if same_stamp x p.stamp then vote_heard p s d (ballot p s) (ballot p s).vote else ignored p
heard_from p s (message.Begin x t) = ignored p
heard_from p s (message.Read t o) = ignored p
heard_from p s (message.Value t v) = ignored p
heard_from p s (message.Write t o v) = ignored p
heard_from p s (message.Stored t) = ignored p
heard_from p s (message.LaterRead t e) = ignored p
heard_from p s (message.LaterVersion t x) = ignored p
heard_from p s (message.Ended t) = ignored p
heard_from p s (message.Commit x) = ignored p
heard_from p s (message.Withdraw x) = ignored p
heard_from p s (message.Ask x) = ignored p
heard_from p s (message.Tell x c) = ignored p

abbrev pub heard_by : PollState → Option MemberNumber → Message → PollGiven
heard_by p None m = ignored p
heard_by p (Some s) m = heard_from p s m

-- a message is taken
unfoldable pub poll_takes : PollState → NodeId → Message → PollGiven
poll_takes p from m = heard_by p (voter_of from) m
