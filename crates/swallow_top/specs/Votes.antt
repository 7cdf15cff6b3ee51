-- Votes: what their input is, and how they are reported.
use Rattle.std.specs.Prelude.{◌≡◌, ◌⊎◌, ℕ, ◌<◌, ◌^◌, IsTrue, List, length, Option, Result, Ok, Err, Vec}
use Rattle.std.specs.declared.alloc.Global.{Global}
use Rattle.std.specs.Io.KnownBytes.{IsAtEnd}
use Rattle.stream_port.specs.Causes.{Rose}
use Rattle.world_core.specs.declared.traces.Trace.{Trace}
use Rattle.command_words.specs.declared.commands.Options.{Options}
use Rattle.plan_volumes.specs.Media.{Media}
use Rattle.run_rounds.specs.Runs.{Account}
use Rattle.run_rounds.specs.Stories.{no_trace}
use Rattle.plan_volumes.specs.Shelves.{ShelfSight}
use Rattle.plan_volumes.specs.KeptMedium.{Kept}
use Rattle.world_core.specs.Counts.{tick_count}
use Rattle.votes_command.specs.Ends.{tellers}
use Rattle.votes_command.specs.Tellings.{some_down, told_text}
use Rattle.votes_command.specs.VoteEnd.{VoteEnd}
use Rattle.votes_command.specs.VoteEnd.TheVariants.{Told, NoMemory}
use Rattle.votes_command.specs.Faults.{IsInputFault}
use Rattle.votes_command.specs.Inputs.{IsInput}
use Rattle.votes_command.specs.PollLine.{PollLine}
use Rattle.votes_command.specs.Clauses.{Tellers}
use Rattle.votes_command.specs.Statuses.{all_held, status_with}
use Rattle.votes_command.specs.Texts.{fault_line}
use Rattle.votes_command.specs.PollStanding.{PollStanding}
use Rattle.votes_command.specs.Limits.{Limits}
use Rattle.votes_command.specs.Votes.{AreSmooth, VotesOver}
use Rattle.run_command.specs.declared.stops.Stop.{Stop}
use Rattle.run_command.specs.declared.stops.Stop.TheVariants as stop
use Rattle.swallow_top.specs.Inputs.{OfInput}
use Rattle.run_command.specs.Written.{Sinking, EndsIfAny, GotLine, HasNoMemory}

-- ---- the input

-- the polls that the bytes are, or their first faulty line
abbrev pub AreReadAs : List ℕ → Result (Vec PollLine Global) Stop → Type 0
AreReadAs bytes (Ok polls) = IsInput bytes polls.items
AreReadAs bytes (Err (stop.Votes line)) = IsInputFault bytes line
AreReadAs bytes (Err stop.NoMemory) = Unit {0}
AreReadAs bytes (Err (stop.Fault line kind)) = ⊥
AreReadAs bytes (Err stop.Source) = ⊥
AreReadAs bytes (Err stop.Words) = ⊥
AreReadAs bytes (Err stop.Sink) = ⊥

-- The polls that the input is, which was read to its end; else what is wrong with it, or why it can't be read.
abbrev pub ReadsPolls : (old new : Option (List ℕ)) → (faults_before faults : ℕ) → Result (Vec PollLine Global) Stop → Type 0
ReadsPolls old new before after (Ok polls) = OfInput old (λ input. IsInput input polls.items) × IsAtEnd new
ReadsPolls old new before after (Err (stop.Votes line)) = OfInput old (λ input. IsInputFault input line)
ReadsPolls old new before after (Err stop.Source) = Rose before after
ReadsPolls old new before after (Err stop.NoMemory) = Unit {0}
ReadsPolls old new before after (Err (stop.Fault line kind)) = ⊥
ReadsPolls old new before after (Err stop.Words) = ⊥
ReadsPolls old new before after (Err stop.Sink) = ⊥

-- the input is no input of polls
pub record AreNoPolls (input : List ℕ) (s : Sinking) : Type 0 where
  pub line : ℕ
  pub is_fault : IsInputFault input line
  pub told : GotLine s (fault_line line)

-- ---- what is reported

-- how far members and polls go
abbrev pub limits_of : Options → Limits
limits_of o = record { ticks = o.ticks; messages = o.messages }

-- the status of polls that stand so
abbrev pub votes_status : Trace → List PollStanding → ℕ
votes_status t standings = status_with (all_held standings) (some_down t.entries)

-- how the polls stand is written, unless memory ran out, and this is the trace
abbrev pub TellsVotes : VoteEnd → Trace → ℕ → Sinking → Type 0
TellsVotes (Told t standings) votes status s = (votes ≡ t) × EndsIfAny status s (votes_status t standings) (told_text t standings)
TellsVotes NoMemory votes status s = (votes ≡ no_trace) × HasNoMemory status s

-- so few polls stand that each has a number
abbrev pub AreFew : VoteEnd → Type 0
AreFew (Told t standings) = length standings < 2 ^ 32
AreFew NoMemory = Unit {0}

-- what the fates were asked and the clock answered in a call
abbrev pub tellers_of : Account → Tellers
tellers_of told = tellers told.asked_before told.asked told.answers_before told.answers

-- The members voted on the polls over the media that the shelf gave, and so it was reported. There is no run.
pub record HavePolled {M : Type 0} (w : Media M) (old new : ShelfSight) (polls : List PollLine) (o : Options) (told : Account) (votes : Trace) (kept : List (Kept M)) (s : Sinking) (status : ℕ) : Type 0 where
  pub end : VoteEnd
  pub over : VotesOver w old new (limits_of o) polls (tellers_of told) kept end
  pub written : TellsVotes end votes status s
  pub no_run : told.trace ≡ no_trace
  -- where nothing stands in the way of members, polls and the sink, each poll comes to a decision without a Tick and is told so, unless memory ran out
  pub completes : IsTrue w.tells → AreSmooth w polls o.messages over.media over.left votes → (Rose s.faults_before s.faults → ⊥) → (status ≡ 7) ⊎ ((status ≡ 0) × (tick_count votes.entries ≡ 0))
