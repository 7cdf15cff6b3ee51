-- How the history of an object is reported, by the volumes of its repository.
use Rattle.std.specs.Prelude.{◌≡◌, ◌⊎◌, ℕ, List, [], length, map, Option}
use Rattle.pseudo_time.specs.Nodes.{repository}
use Rattle.pseudo_time.specs.declared.nodes.NodeId.{NodeId}
use Rattle.pseudo_time.specs.declared.down_causes.DownCause.{DownCause}
use Rattle.value_form.specs.declared.objects.ObjectId.{ObjectId}
use Rattle.medium_port.specs.declared.shelves.MediumName.{MediumName}
use Rattle.report_writer.specs.Reports.{down_text}
use Rattle.report_writer.specs.Histories.{history_text}
use Rattle.plan_volumes.specs.Opening.{Opening}
use Rattle.plan_volumes.specs.Media.{Media}
use Rattle.plan_volumes.specs.Openings.{medium_in}
use Rattle.plan_volumes.specs.KeptMedium.{Kept}
use Rattle.plan_volumes.specs.Kept.{kept_under}
use Rattle.plan_volumes.specs.Shelves.{IsLeft, ShelfSight, first_names}
use Rattle.plan_volumes.specs.Standings.{HasShut, WritesNothing}
use Rattle.forward_copy.specs.Currents.{node_log}
use Rattle.plan_volumes.specs.RunVolumes.{AreOpen, AreVolumes, logs_of}
use Rattle.run_command.specs.Written.{Sinking, Ends, GotNothing, HasNoMemory}

-- the repository of the object
abbrev pub home_of : ObjectId → NodeId
home_of object = repository object.repository

-- ---- by what came of opening its volumes

module _ {M : Type 0} {g : _} (object : ObjectId) (openings : List (Opening M g)) where
  -- the history of the object by the repository's log, which is that of its current volume
  abbrev pub ShowsHistory : List ℕ → Type 0
  ShowsHistory text = AreOpen openings × (text ≡ history_text object (node_log (logs_of openings)))

  -- the line that says why a volume couldn't be opened
  abbrev pub ShowsDown : List ℕ → Type 0
  ShowsDown text = (cause : DownCause) × HasShut openings cause × (text ≡ down_text (record { node = home_of object; cause = cause }))

  -- The sink got the history, or the line of a repository that can't be opened; or a prefix of one of these where it failed; or memory ran out, and it got nothing.
  abbrev pub TellsVolumes : ℕ → Sinking → Type 0
  TellsVolumes status s = HasNoMemory status s ⊎ (((text : List ℕ) × ShowsHistory text × Ends status s 0 text) ⊎ ((text : List ℕ) × ShowsDown text × Ends status s 6 text))

-- ---- by the shelf

module _ {M : Type 0} (w : Media M) (old new : ShelfSight) where
  -- memory ran out before any medium was asked for, and nothing was written
  pub record AskedNothing (kept : List (Kept M)) (s : Sinking) (status : ℕ) : Type 0 where
    pub wanting : status ≡ 7
    pub unwritten : GotNothing s
    pub none : kept ≡ []
    pub unasked : new.asked ≡ old.asked
    pub left : (name : MediumName) → IsLeft w.tells old new name

  -- The volumes of the object's repository were taken and opened. They are handed back as they were opened: whatever a crash leaves of one that was, it has its log still.
  pub record TellsHistory (object : ObjectId) (kept : List (Kept M)) (s : Sinking) (status : ℕ) : Type 0 where
    pub media : List (Option M)
    pub openings : List (Opening M w)
    pub volumes : AreVolumes w old new (home_of object) media openings
    pub handed : kept ≡ kept_under (first_names (home_of object) (length openings)) (map medium_in openings)
    pub keep : WritesNothing w openings (map medium_in openings)
    pub told : TellsVolumes object openings status s
