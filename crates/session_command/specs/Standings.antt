-- What a session has between its batches, and how media are put back after one.
use Rattle.std.specs.Prelude.{◌≡◌, ℕ, List, [], ◌∷◌, Option}
use Rattle.stream_port.specs.declared.fates.Asked.{Asked}
use Rattle.medium_port.specs.declared.shelves.Shelf.{Ghosts}
use Rattle.held_shelf.specs.PutBack.{IsPutBack}
use Rattle.plan_volumes.specs.KeptMedium.{Kept}
use Rattle.plan_volumes.specs.Media.{Media}
use Rattle.plan_volumes.specs.Shelves.{volume_name}
use Rattle.run_rounds.specs.Runs.{Account}
use Rattle.world_core.specs.declared.traces.Trace.{Trace}
use Rattle.run_command.specs.Written.{Sinking, sinking}

-- the shelf, what the sink has got and how often it has failed, what the fates were asked for and what the clock has answered
pub record Standing (H : Type 0) : Type 0 where
  pub shelf : H
  pub taken : Option (List ℕ)
  pub sink_faults : ℕ
  pub asked : List Asked
  pub answers : Option (List ℕ)

module _ {H : Type 0} where
  abbrev pub standing : H → Option (List ℕ) → ℕ → List Asked → Option (List ℕ) → Standing H
  standing shelf taken sink_faults asked answers = record { shelf = shelf; taken = taken; sink_faults = sink_faults; asked = asked; answers = answers }

  -- what the sink had and has
  abbrev pub sunk : Standing H → Standing H → Sinking
  sunk s t = sinking s.taken t.taken s.sink_faults t.sink_faults

  -- a trace, and what the fates and the clock had told and have
  abbrev pub account_over : Trace → Standing H → Standing H → Account
  account_over trace s t = record { trace = trace; asked_before = s.asked; asked = t.asked; answers_before = s.answers; answers = t.answers }

  -- nothing has changed but what the sink has
  pub record IsStill (s t : Standing H) : Type 0 where
    pub shelf : t.shelf ≡ s.shelf
    pub asked : t.asked ≡ s.asked
    pub answers : t.answers ≡ s.answers

  module _ {M : Type 0} (g : Ghosts H M) (w : Media M) where
    -- the media were put back under their names, the last one first
    abbrev pub ArePutBack : List (Kept M) → H → H → Type 0
    ArePutBack [] old new = new ≡ old
    ArePutBack (k ∷ kept) old new = (middle : H) × ArePutBack kept old middle × IsPutBack g w (volume_name k.node k.volume) k.medium middle new
