-- A vote world: three members, polls, and all messages ever sent.
use Rattle.std.specs.Prelude.{◌≡◌, ◌≢◌, ℕ, zero, suc, Bool, false, List, [], ◌∷◌, ◌++◌, take, Option, Some, None, ◌==◌, if◌then◌else◌}
use Rattle.pseudo_time.specs.Lists.{Has}
use Rattle.pseudo_time.specs.StampParts.{StampParts}
use Rattle.pseudo_time.specs.declared.decisions.Decision.{Decision}
use Rattle.pseudo_time.specs.declared.nodes.NodeId.{NodeId}
use Rattle.pseudo_time.specs.declared.nodes.NodeKind.{NodeKind}
use Rattle.pseudo_time.specs.declared.nodes.NodeKind.TheVariants as kind
use Rattle.effect_form.specs.declared.effects.Effect.{Effect}
use Rattle.effect_form.specs.declared.effects.Effect.TheVariants as effect
use Rattle.message_form.specs.declared.messages.Message.{Message}
use Rattle.message_form.specs.declared.turns.Out.{Out}
use Rattle.message_form.specs.Posts.{Post, posts}
use Rattle.repository_log.specs.Logs.{is_commit}
use Rattle.pseudo_time.specs.Nodes.{broker}
use Rattle.record_votes.specs.declared.member_numbers.MemberNumber.{MemberNumber}
use Rattle.record_votes.specs.declared.ballots.Wish.{Wish}
use Rattle.record_votes.specs.Members.{Given, on_message, on_moment}
use Rattle.record_votes.specs.Polls.{number_of, member, voter_at, PollState, poll_goes, poll_hears, poll_takes, PollGiven}

-- A member: its durable log, the effects and messages of its turns since, all oldest first, and the last moment that it heard.
pub record Member : Type 0 where
  pub gated : List Effect
  pub fresh : List Effect
  pub owed : List Out
  pub moment : ℕ

abbrev pub all_effects : Member → List Effect
all_effects m = m.gated ++ m.fresh

-- poll i is broker i
pub record World : Type 0 where
  pub members : MemberNumber → Member
  pub polls : ℕ → PollState
  pub sent : List Post

-- ---- what happens to a member

abbrev pub opened : ℕ → List Effect → Member
opened moment log = record { gated = log; fresh = []; owed = []; moment = moment }

abbrev pub turned : Member → ℕ → Given → Member
turned m moment g = record { gated = m.gated; fresh = m.fresh ++ g.effects; owed = m.owed ++ g.outs; moment = moment }

abbrev pub took : Member → NodeId → Message → Member
took m from x = turned m m.moment (on_message (all_effects m) m.moment from x)

abbrev pub heard : Member → ℕ → Member
heard m moment = turned m moment (on_moment (all_effects m) moment)

abbrev pub shut : Member → Member
shut m = opened m.moment (all_effects m)

-- the first `kept` of its open effects were found when it was opened anew, at this moment
abbrev pub crashed : Member → ℕ → ℕ → Member
crashed m kept moment = opened moment (m.gated ++ take kept m.fresh)

-- ---- events

pub data Event : Type 0 where
  -- a poll goes
  Goes : ℕ → Event
  -- the message of this number among those sent, from 0, is delivered
  Delivered : ℕ → Event
  -- a member's gate: its effects are durable, and its messages are sent
  Gates : MemberNumber → Event
  -- a member crashes, keeps so many open effects, and is opened anew at a moment
  Crashes : MemberNumber → ℕ → ℕ → Event
  -- a member, or a poll, hears a moment
  Hears : MemberNumber → ℕ → Event
  Polled : ℕ → ℕ → Event

abbrev pub is_same_voter : MemberNumber → MemberNumber → Bool
is_same_voter a b = number_of a == number_of b

abbrev pub with_member : World → MemberNumber → Member → World
with_member w s m = record w { members = λ k. if is_same_voter s k then m else w.members k }

abbrev pub with_poll : World → ℕ → PollState → World
with_poll w i p = record w { polls = λ k. if i == k then p else w.polls k }

abbrev pub with_sent : World → List Post → World
with_sent w more = record w { sent = w.sent ++ more }

abbrev pub post_at : List Post → ℕ → Option Post
post_at [] k = None
post_at (p ∷ ps) zero = Some p
post_at (p ∷ ps) (suc k) = post_at ps k

abbrev pub to_poll : World → ℕ → PollGiven → World
to_poll w i g = with_sent (with_poll w i g.poll) (posts (broker i) g.outs)

abbrev pub to_voter : World → NodeId → Message → Option MemberNumber → World
to_voter w from x None = w
to_voter w from x (Some s) = with_member w s (took (w.members s) from x)

abbrev pub delivered_to : World → Post → NodeKind → World
delivered_to w p kind.Broker = to_poll w p.to.number (poll_takes (w.polls p.to.number) p.from p.message)
delivered_to w p kind.Repository = to_voter w p.from p.message (voter_at p.to.number)

abbrev pub delivered : World → Option Post → World
delivered w None = w
delivered w (Some p) = delivered_to w p p.to.kind

abbrev pub after : World → Event → World
after w (Goes i) = with_sent w (posts (broker i) (poll_goes (w.polls i)))
after w (Delivered k) = delivered w (post_at w.sent k)
after w (Gates s) = with_sent (with_member w s (shut (w.members s))) (posts (member s) (w.members s).owed)
after w (Crashes s kept moment) = with_member w s (crashed (w.members s) kept moment)
after w (Hears s moment) = with_member w s (heard (w.members s) moment)
after w (Polled i moment) = with_sent w (posts (broker i) (poll_hears (w.polls i)))

-- the first event stands first
abbrev pub run : World → List Event → World
run w [] = w
run w (e ∷ more) = run (after w e) more

-- ---- the beginning

-- what a poll is made of
pub record Line : Type 0 where
  pub stamp : StampParts
  pub timeout : ℕ
  pub wish : Wish

abbrev pub new_poll : ℕ → Line → PollState
new_poll i l = record { number = i; stamp = l.stamp; timeout = l.timeout; wish = l.wish; first = record { begun = false; vote = None }; second = record { begun = false; vote = None }; third = record { begun = false; vote = None } }

abbrev pub Logs : Type 0
Logs = MemberNumber → List Effect

-- these logs, polls that have heard nothing, and nothing sent
abbrev pub entered : (MemberNumber → ℕ) → Logs → (ℕ → Line) → World
entered start logs lines = record { members = λ s. opened (start s) (logs s); polls = λ i. new_poll i (lines i); sent = [] }

abbrev pub no_logs : Logs
no_logs s = []

-- empty logs
abbrev pub founded : (MemberNumber → ℕ) → (ℕ → Line) → World
founded start lines = entered start no_logs lines

abbrev pub reached : (MemberNumber → ℕ) → (ℕ → Line) → List Event → World
reached start lines events = run (founded start lines) events

-- ---- what is decided

abbrev pub gated : World → MemberNumber → List Effect
gated w s = (w.members s).gated

-- a Decide of this kind stands in the log
abbrev pub IsDecided : List Effect → StampParts → Bool → Type 0
IsDecided log s c = (d : Decision) × (is_commit d ≡ c) × Has (effect.Decide s d) log

-- two members' durable logs have a Decide of this kind
pub record TwoDecided (w : World) (s : StampParts) (c : Bool) : Type 0 where
  pub one : MemberNumber
  pub other : MemberNumber
  pub apart : one ≢ other
  pub one_decided : IsDecided (gated w one) s c
  pub other_decided : IsDecided (gated w other) s c

-- ---- one call after the other

-- A call: its polls, the moments at which its members opened, what happened, and how many open effects of each member are found later.
pub record Call : Type 0 where
  pub lines : ℕ → Line
  pub start : MemberNumber → ℕ
  pub events : List Event
  pub kept : MemberNumber → ℕ

-- the world at the end of a call that began with these logs
abbrev pub ended : Logs → Call → World
ended logs c = run (entered c.start logs c.lines) c.events

-- what the call leaves
abbrev pub left : Logs → Call → Logs
left logs c s = gated (ended logs c) s ++ take (c.kept s) ((ended logs c).members s).fresh

abbrev pub logs_after : Logs → List Call → Logs
logs_after logs [] = logs
logs_after logs (c ∷ cs) = logs_after (left logs c) cs
