-- How it is reported what came of a command over volumes: a question to an archive, a watch, a snapshot or a replay.
use Rattle.std.specs.Prelude.{◌≡◌, ◌⊎◌, ℕ, Bool, List, Option}
use Rattle.plan_volumes.specs.Media.{Media}
use Rattle.plan_volumes.specs.KeptMedium.{Kept}
use Rattle.plan_volumes.specs.Shelves.{ShelfSight}
use Rattle.plan_volumes.specs.RunVolumes.{logs_of}
use Rattle.archive_promise.specs.Outcome.{Outcome}
use Rattle.archive_promise.specs.Outcome.TheVariants.{Told, Refused, Fallen, NoMemory}
use Rattle.archive_promise.specs.Question.{Question}
use Rattle.archive_promise.specs.Answers.{AnswersOver}
use Rattle.command_words.specs.declared.rules.Rule.{Rule}
use Rattle.archive_promise.specs.Answered.{IsLawful}
use Rattle.archive_promise.specs.Repositories.{SnapshotOver, all_logs}
use Rattle.archive_promise.specs.Snapped.{IsLawfulSnapshot}
use Rattle.archive_promise.specs.Watched.{CountsOver}
use Rattle.archive_promise.specs.Watches.{StopsBefore, WatchesOver}
use Rattle.replay_command.specs.Replayed.{ReplayOver}
use Rattle.run_command.specs.Written.{Sinking, Ends, GotLine, HasNoMemory}

-- the status and the text that tell it
abbrev pub TellsOutcome : Outcome → ℕ → Sinking → Type 0
TellsOutcome (Told text) status s = Ends status s 0 text
TellsOutcome (Refused line) status s = (status ≡ 8) × GotLine s line
TellsOutcome (Fallen line) status s = Ends status s 6 line
TellsOutcome NoMemory status s = HasNoMemory status s

module _ {M : Type 0} (w : Media M) (old new : ShelfSight) where
  -- The repository's volumes were taken and opened, this came of the question, and so it was reported: over whatever past left them, lawfully. Nothing was written to the volumes, which are handed back.
  pub record TellsAnswer (question : Question) (kept : List (Kept M)) (s : Sinking) (status : ℕ) : Type 0 where
    pub outcome : Outcome
    pub over : AnswersOver w old new question kept outcome
    pub lawful : IsLawful question (logs_of over.openings) outcome
    pub told : TellsOutcome outcome status s

  -- The repository's volumes were taken and opened, and that of its totals, unless one of the others stopped it before. This came of the watch, and so it was reported. Over whatever past left the volumes and the totals, those that are ready are lawful. Nothing was written to any but the volume of totals.
  pub record TellsWatch (repository : ℕ) (rule : Rule) (kept : List (Kept M)) (s : Sinking) (status : ℕ) : Type 0 where
    pub outcome : Outcome
    pub over : StopsBefore w old new repository rule kept outcome ⊎ WatchesOver w old new repository rule kept outcome
    pub lawful : (o : WatchesOver w old new repository rule kept outcome) → CountsOver rule repository (logs_of o.openings)
    pub told : TellsOutcome outcome status s

  -- The volumes of the repositories were taken and opened, this came of the snapshot, and so it was reported: over whatever past left them all, lawfully. Nothing was written to the volumes, which are handed back.
  pub record TellsSnapshot (clock : Option ℕ) (kept : List (Kept M)) (s : Sinking) (status : ℕ) : Type 0 where
    pub outcome : Outcome
    pub over : SnapshotOver w old new clock kept outcome
    pub lawful : IsLawfulSnapshot clock (all_logs over.volumes) outcome
    pub told : TellsOutcome outcome status s

  -- The volumes of all nodes were taken and opened, this came of the replay, and so it was reported. Nothing was written to the volumes, which are handed back.
  pub record TellsReplay (values : Bool) (kept : List (Kept M)) (s : Sinking) (status : ℕ) : Type 0 where
    pub outcome : Outcome
    pub over : ReplayOver w old new values kept outcome
    pub told : TellsOutcome outcome status s
