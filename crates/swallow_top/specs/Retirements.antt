-- How the retirement of a repository is reported.
use Rattle.std.specs.Prelude.{◌≡◌, ℕ, IsTrue, List, Option, Some, None, Ok}
use Rattle.std.specs.List.{AllZip}
use Rattle.pseudo_time.specs.Nodes.{repository as named}
use Rattle.pseudo_time.specs.TimeParts.{TimeParts}
use Rattle.effect_form.specs.declared.effects.Effect.{Effect}
use Rattle.medium_port.specs.Image.{Image}
use Rattle.version_store.specs.Storage.{storage}
use Rattle.plan_volumes.specs.Media.{Media}
use Rattle.plan_volumes.specs.Opening.{Opening}
use Rattle.plan_volumes.specs.RunVolumes.{AreOpen, logs_of}
use Rattle.plan_volumes.specs.KeptMedium.{Kept}
use Rattle.plan_volumes.specs.Shelves.{ShelfSight}
use Rattle.archive_promise.specs.Retired.{GoesOn, MayGoOn, StaysSo}
use Rattle.retire_command.specs.declared.outcomes.Retired.{Retired}
use Rattle.retire_command.specs.declared.outcomes.Retired.TheVariants.{Done, Refused, Fallen, NoMemory}
use Rattle.retire_command.specs.Retires.{RetiresOver}
use Rattle.run_command.specs.Written.{Sinking, Ends, GotLine, HasNoMemory}

-- the mark at a clock: the first pseudotime of the stamp with it that broker 1 and repository 1 have, so that a stamp's pseudotimes lie all on one side of it
abbrev pub mark_at : ℕ → TimeParts
mark_at clock = record { stamp = record { clock = clock; broker = 1; home = 1 }; step = 1 }

-- the status and the line that tell what came of a retirement
abbrev pub TellsRetired : Retired → ℕ → Sinking → Type 0
TellsRetired (Done line) status s = Ends status s 0 line
TellsRetired (Refused line) status s = (status ≡ 8) × GotLine s line
TellsRetired (Fallen line) status s = Ends status s 6 line
TellsRetired NoMemory status s = HasNoMemory status s

module _ {M : Type 0} (w : Media M) where
  -- a crash now may leave this log of the medium
  abbrev pub LeavesLog : Option M → List Effect → Type 0
  LeavesLog None log = ⊥
  LeavesLog (Some m) log = (c : Image) × w.may_leave m c × (storage c ≡ Ok log)

  module _ (repository : ℕ) (at : TimeParts) (openings : List (Opening M w)) (left : List (Option M)) where
    -- so it is of all logs that a crash may leave of these media
    abbrev pub OfLogs : (List (List Effect) → Type 0) → Type 0
    OfLogs P = (logs : List (List Effect)) → AllZip LeavesLog left logs → P logs

    -- The past that the volumes then have, whatever past they had: with the retirement if it is done, without it if it is refused, and else one of these, if all volumes could be opened.
    abbrev pub HasPasts : Retired → Type 0
    HasPasts (Done line) = OfLogs (GoesOn repository at (logs_of openings))
    HasPasts (Refused line) = OfLogs (StaysSo repository at (logs_of openings))
    HasPasts (Fallen line) = AreOpen openings → OfLogs (MayGoOn repository at (logs_of openings))
    HasPasts NoMemory = AreOpen openings → OfLogs (MayGoOn repository at (logs_of openings))

-- The repository's volumes were taken and opened, this came of retiring it at the clock's mark, and so it was reported. What is left of the volumes is handed back, and has a past if the volumes had one.
pub record TellsRetirement {M : Type 0} (w : Media M) (old new : ShelfSight) (repository clock : ℕ) (kept : List (Kept M)) (s : Sinking) (status : ℕ) : Type 0 where
  pub retired : Retired
  pub over : RetiresOver w old new (named repository) (mark_at clock) kept retired
  pub pasts : IsTrue w.tells → HasPasts w repository (mark_at clock) over.openings over.left retired
  pub told : TellsRetired retired status s
