-- One turn of a session: a batch is read and answered, or the session ends.
use Rattle.std.specs.Prelude.{◌≡◌, ℕ, ◌+◌, List, length, Option}
use Rattle.std.specs.Io.KnownBytes.{Consumes}
use Rattle.medium_port.specs.declared.shelves.Shelf.{Ghosts}
use Rattle.session_form.specs.Sessions.{IsBatch, counted}
use Rattle.command_words.specs.declared.commands.Options.{Options}
use Rattle.plan_volumes.specs.Media.{Media}
use Rattle.session_command.specs.Chains.{Answered, GoesOn}
use Rattle.session_command.specs.Lines.{fault_line}
use Rattle.session_command.specs.Sessions.{EndsWell, Stops}
use Rattle.session_command.specs.Standings.{Standing}
use Rattle.run_command.specs.Lines.{source_line, words_line}
use Rattle.run_command.specs.Written.{EndsIfAny, Sinking, GotLine, HasNoMemory}
use Rattle.run_command.specs.declared.stops.Stop.{Stop}
use Rattle.run_command.specs.declared.stops.Stop.TheVariants as stop
use Rattle.session_command.specs.declared.turns.Turn.{Turn}
use Rattle.session_command.specs.declared.turns.Turn.TheVariants.{On, Ended, Stopped}

-- the status and the line that tell why there is no session
abbrev pub ToldOf : Stop → ℕ → Sinking → Type 0
ToldOf stop.Words status s = (status ≡ 1) × GotLine s words_line
ToldOf (stop.Fault line kind) status s = EndsIfAny status s 2 (fault_line line kind)
ToldOf stop.Source status s = (status ≡ 3) × GotLine s source_line
ToldOf stop.NoMemory status s = HasNoMemory status s
ToldOf (stop.Votes line) status s = HasNoMemory status s
ToldOf stop.Sink status s = HasNoMemory status s

-- the status and the line that tell why no more is read
abbrev pub StoppedAs : Stop → ℕ → Sinking → Type 0
StoppedAs stop.Source status s = (status ≡ 3) × GotLine s source_line
StoppedAs stop.NoMemory status s = HasNoMemory status s
StoppedAs stop.Words status s = HasNoMemory status s
StoppedAs (stop.Fault line kind) status s = HasNoMemory status s
StoppedAs (stop.Votes line) status s = HasNoMemory status s
StoppedAs stop.Sink status s = HasNoMemory status s

-- so a turn ends after a batch of this status
abbrev pub IsAfter : ℕ → Turn → Type 0
IsAfter status On = GoesOn status
IsAfter status Stopped = GoesOn status → ⊥
IsAfter status Ended = ⊥

module _ {H M : Type 0} (g : Ghosts H M) (w : Media M) (o : Options) (repositories brokers : List ℕ) (input left : Option (List ℕ)) (faults_before faults before lines : ℕ) (status : ℕ) (s t : Standing H) where
  -- one more batch was answered, and the session goes on
  pub record WentOn : Type 0 where
    pub front : List ℕ
    pub batch : List (List ℕ)
    pub is : IsBatch front batch
    pub read : Consumes input left front
    pub count : lines ≡ counted (before + (length batch + 1))
    pub answered : Answered g w o repositories brokers before batch status s t
    pub goes : GoesOn status

  abbrev pub Turned : Turn → Type 0
  Turned On = WentOn
  Turned Ended = EndsWell s t input
  Turned Stopped = Stops g w o repositories brokers input faults_before faults before status s t
