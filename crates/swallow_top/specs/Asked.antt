-- What the commands that ask media alone tell.
use Rattle.std.specs.Prelude.{ℕ, List}
use Rattle.command_words.specs.declared.commands.Command.{Command}
use Rattle.command_words.specs.declared.commands.Command.TheVariants.{Run, Load, History, Retire, Votes, Watch, AsOf, Audit, Snapshot, Settle, Replay}
use Rattle.plan_volumes.specs.KeptMedium.{Kept}
use Rattle.plan_volumes.specs.Media.{Media}
use Rattle.plan_volumes.specs.Shelves.{ShelfSight}
use Rattle.archive_promise.specs.Question.TheVariants as question
use Rattle.swallow_top.specs.Histories.{TellsHistory}
use Rattle.swallow_top.specs.Outcomes.{TellsAnswer, TellsReplay, TellsSnapshot, TellsWatch}
use Rattle.swallow_top.specs.Retirements.{TellsRetirement, mark_at}
use Rattle.run_command.specs.Written.{Sinking}

-- what this command, which neither runs a plan nor votes, has told by the volumes of repositories
abbrev pub TellsAsked : {M : Type 0} → Media M → ShelfSight → ShelfSight → Command → List (Kept M) → Sinking → ℕ → Type 0
TellsAsked w old new (History object) kept s status = TellsHistory w old new object kept s status
TellsAsked w old new (Retire repository clock) kept s status = TellsRetirement w old new repository clock kept s status
TellsAsked w old new (Watch repository rule) kept s status = TellsWatch w old new repository rule kept s status
TellsAsked w old new (AsOf repository clock) kept s status = TellsAnswer w old new (question.AsOf repository (mark_at clock)) kept s status
TellsAsked w old new (Audit object) kept s status = TellsAnswer w old new (question.Audit object) kept s status
TellsAsked w old new (Snapshot clock) kept s status = TellsSnapshot w old new clock kept s status
TellsAsked w old new (Replay values) kept s status = TellsReplay w old new values kept s status
TellsAsked w old new (Run o) kept s status = ⊥
TellsAsked w old new (Load seed count o) kept s status = ⊥
TellsAsked w old new (Votes o) kept s status = ⊥
TellsAsked w old new (Settle repositories) kept s status = ⊥
