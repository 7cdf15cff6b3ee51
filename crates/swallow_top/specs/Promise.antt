-- The promise of the top call.
use Rattle.std.specs.Prelude.{◌≡◌, ◌⊎◌, ℕ, ◌≤◌, List, [], Option}
use Rattle.std.specs.Io.KnownBytes.{IsAtEnd}
use Rattle.stream_port.specs.Causes.{Rose}
use Rattle.plan_form.specs.declared.plans.Plan.{Plan}
use Rattle.plan_form.specs.Plans.{IsPlan}
use Rattle.plan_form.specs.Making.{made_plan}
use Rattle.command_words.specs.declared.commands.Options.{Options}
use Rattle.command_words.specs.declared.commands.Command.{Command}
use Rattle.command_words.specs.declared.commands.Command.TheVariants.{Run, Load, History, Retire, Votes, Watch, AsOf, Audit, Snapshot, Settle, Replay}
use Rattle.command_words.specs.Words.{AreWords, AreNone}
use Rattle.plan_volumes.specs.Media.{Media}
use Rattle.run_rounds.specs.Runs.{Account}
use Rattle.plan_volumes.specs.Kept.{AllKept}
use Rattle.plan_volumes.specs.KeptMedium.{Kept}
use Rattle.run_command.specs.declared.reports.Wanted.TheVariants.{Report, Summary}
use Rattle.run_command.specs.Contract.{HasNoRun, RunsPlan}
use Rattle.swallow_top.specs.Refusals.{IsNoPlan}
use Rattle.swallow_top.specs.Histories.{TellsHistory}
use Rattle.swallow_top.specs.Inputs.{OfInput}
use Rattle.run_command.specs.Lines.{words_line, source_line}
use Rattle.plan_volumes.specs.Shelves.{ShelfSight}
use Rattle.archive_promise.specs.Question.TheVariants as question
use Rattle.swallow_top.specs.Outcomes.{TellsAnswer, TellsReplay, TellsSnapshot, TellsWatch}
use Rattle.swallow_top.specs.Retirements.{TellsRetirement, mark_at}
use Rattle.swallow_top.specs.Votes.{AreNoPolls, HavePolled}
use Rattle.run_command.specs.Written.{Sinking, GotLine, GotNothing}
use Rattle.settle_command.specs.Contract.{SettlesAll}
use Rattle.votes_command.specs.Inputs.{IsInput}
use Rattle.votes_command.specs.PollLine.{PollLine}
use Rattle.world_core.specs.declared.traces.Trace.{Trace}
use Rattle.run_rounds.specs.Stories.{no_trace}

-- all that a call was given and gave, as contracts see it
pub record Call (M : Type 0) : Type 1 where
  pub words : List (List ℕ)
  pub status : ℕ
  -- what the source had and has, and how often it had failed and has
  pub input : Option (List ℕ)
  pub left : Option (List ℕ)
  pub faults_before : ℕ
  pub faults : ℕ
  pub sink : Sinking
  pub media_are : Media M
  pub shelf_before : ShelfSight
  pub shelf : ShelfSight
  pub told : Account
  pub media : List (Kept M)
  pub votes : Trace

module _ {M : Type 0} (c : Call M) where
  -- nothing was run: no medium was taken or asked for, nothing was asked of fates and clock, and nobody voted
  pub record TouchedNothing (status : ℕ) : Type 0 where
    pub status_is : c.status ≡ status
    pub none : c.media ≡ []
    pub unasked : c.shelf.asked ≡ c.shelf_before.asked
    pub no_run : HasNoRun c.told
    pub no_votes : c.votes ≡ no_trace

  -- nothing was read
  abbrev pub IsUnread : Type 0
  IsUnread = (c.left ≡ c.input) × (c.faults ≡ c.faults_before)

  -- the words are no command, and the sink got the line that says so
  abbrev pub HasNoWords : Type 0
  HasNoWords = TouchedNothing 1 × IsUnread × AreNone c.words × GotLine c.sink words_line

  -- memory ran out before anything was done or written
  abbrev pub RanOut : Type 0
  RanOut = TouchedNothing 7 × GotNothing c.sink

  -- the source failed
  abbrev pub HasFailedSource : Type 0
  HasFailedSource = TouchedNothing 3 × Rose c.faults_before c.faults × GotLine c.sink source_line

  -- the input is no plan
  abbrev pub HasNoPlan : Type 0
  HasNoPlan = TouchedNothing 2 × OfInput c.input (λ input. IsNoPlan input c.sink)

  -- the input, which was read to its end, is a plan, and this came of running it
  abbrev pub HasRun : Options → Type 0
  HasRun o = IsAtEnd c.left × OfInput c.input (λ input. (plan : Plan) × IsPlan input plan × RunsPlan c.media_are c.shelf_before c.shelf c.media plan Report o c.told c.sink c.status)

  -- the input is no input of polls
  abbrev pub HasNoPolls : Type 0
  HasNoPolls = TouchedNothing 2 × OfInput c.input (λ input. AreNoPolls input c.sink)

  -- the input, which was read to its end, is polls, and this came of voting on them
  abbrev pub HasVoted : Options → Type 0
  HasVoted o = IsAtEnd c.left × OfInput c.input (λ input. (polls : List PollLine) × IsInput input polls × HavePolled c.media_are c.shelf_before c.shelf polls o c.told c.votes c.media c.sink c.status)

  -- what was done for the command that the words are
  abbrev pub WasDone : Command → Type 0
  WasDone (Run o) = HasFailedSource ⊎ (HasNoPlan ⊎ HasRun o)
  WasDone (Load seed count o) = IsUnread × RunsPlan c.media_are c.shelf_before c.shelf c.media (made_plan seed count) (Summary seed) o c.told c.sink c.status
  WasDone (History object) = IsUnread × TellsHistory c.media_are c.shelf_before c.shelf object c.media c.sink c.status × HasNoRun c.told
  WasDone (Retire repository clock) = IsUnread × TellsRetirement c.media_are c.shelf_before c.shelf repository clock c.media c.sink c.status × HasNoRun c.told
  WasDone (Votes o) = HasFailedSource ⊎ (HasNoPolls ⊎ HasVoted o)
  WasDone (Watch repository rule) = IsUnread × TellsWatch c.media_are c.shelf_before c.shelf repository rule c.media c.sink c.status × HasNoRun c.told
  WasDone (AsOf repository clock) = IsUnread × TellsAnswer c.media_are c.shelf_before c.shelf (question.AsOf repository (mark_at clock)) c.media c.sink c.status × HasNoRun c.told
  WasDone (Audit object) = IsUnread × TellsAnswer c.media_are c.shelf_before c.shelf (question.Audit object) c.media c.sink c.status × HasNoRun c.told
  WasDone (Snapshot clock) = IsUnread × TellsSnapshot c.media_are c.shelf_before c.shelf clock c.media c.sink c.status × HasNoRun c.told
  WasDone (Settle repositories) = IsUnread × SettlesAll c.media_are c.shelf_before c.shelf c.media repositories c.told c.sink c.status
  WasDone (Replay values) = IsUnread × TellsReplay c.media_are c.shelf_before c.shelf values c.media c.sink c.status × HasNoRun c.told

  -- but for votes nobody votes
  abbrev pub VotesAlone : Type 0
  VotesAlone = (c.votes ≡ no_trace) ⊎ ((o : Options) × AreWords (Votes o) c.words)

  pub record Promise : Type 0 where
    -- The words are no command; or memory ran out before anything was done or written; or the words are a command, and this was done.
    pub done : HasNoWords ⊎ (RanOut ⊎ ((command : Command) × AreWords command c.words × WasDone command))
    -- Each medium that was taken is handed back.
    pub kept : AllKept c.shelf_before c.shelf c.media
    pub statuses : c.status ≤ 8
    pub votes : VotesAlone
