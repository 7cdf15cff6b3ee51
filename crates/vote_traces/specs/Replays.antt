-- A vote trace as a run of the world of votes.
use Rattle.std.specs.Prelude.{◌≡◌, ◌≢◌, ℕ, Bool, List, ◌∷◌, [], ◌++◌, take}
use Rattle.pseudo_time.specs.StampParts.{StampParts}
use Rattle.stream_port.specs.declared.fates.Asked.{Asked}
use Rattle.record_votes.specs.declared.member_numbers.MemberNumber.{MemberNumber}
use Rattle.record_votes.specs.Voting.{IsDecided, Event, Line, Logs, World, entered, run}
use Rattle.world_core.specs.declared.traces.Trace.{Trace}
use Rattle.vote_traces.specs.Walks.{Hall, line_at, log_at}
use Rattle.vote_traces.specs.Legal.{Legal, hall_after}

-- where events lead from the logs that the trace opened
abbrev pub reached : List Line → Trace → List Event → World
reached lines t events = run (entered (λ s. t.start) (log_at t.opened) (line_at lines)) events

-- Its members and polls are those that the events lead to.
pub record IsRun (lines : List Line) (t : Trace) (events : List Event) : Type 0 where
  pub members : (reached lines t events).members ≡ (hall_after lines t).members
  pub polls : (reached lines t events).polls ≡ (hall_after lines t).polls

-- two members' durable logs have a Decide of this kind
pub record TwoDecided (h : Hall) (s : StampParts) (c : Bool) : Type 0 where
  pub one : MemberNumber
  pub other : MemberNumber
  pub apart : one ≢ other
  pub one_decided : IsDecided (h.members one).gated s c
  pub other_decided : IsDecided (h.members other).gated s c

-- ---- one call after the other

-- a call that was, and how many effects that weren't gated each member was left with
pub record Call : Type 0 where
  pub lines : List Line
  pub asked : List Asked
  pub trace : Trace
  pub kept : MemberNumber → ℕ

abbrev pub log_left : Call → Logs
log_left c s = ((hall_after c.lines c.trace).members s).gated ++ take (c.kept s) ((hall_after c.lines c.trace).members s).fresh

-- a legal trace over these logs
pub record IsCall (logs : Logs) (c : Call) : Type 0 where
  pub agrees : (s : MemberNumber) → log_at c.trace.opened s ≡ logs s
  pub legal : Legal c.lines c.asked c.trace

-- the logs after these calls, the first one first
abbrev pub logs_after : Logs → List Call → Logs
logs_after logs [] = logs
logs_after logs (c ∷ cs) = logs_after (log_left c) cs

-- each goes on with the logs that the one before it left
abbrev pub AreCalls : Logs → List Call → Type 0
AreCalls logs [] = Unit {0}
AreCalls logs (c ∷ cs) = IsCall logs c × AreCalls (log_left c) cs
