-- What comes of a replay, and how it is told.
use Rattle.std.specs.Prelude.{◌≡◌, ◌⊎◌, ℕ, Bool, List, ◌++◌, drop, length, map, take}
use Rattle.effect_form.specs.declared.effects.Effect.{Effect}
use Rattle.snapshot_command.specs.KeptMedium.{Kept}
use Rattle.snapshot_command.specs.Media.{Media}
use Rattle.snapshot_command.specs.Nodes as nodes
use Rattle.snapshot_command.specs.Nodes.{Volumes, all_logs}
use Rattle.snapshot_command.specs.Outcome.{Outcome}
use Rattle.snapshot_command.specs.Outcome.TheVariants.{Told, Refused, Fallen, NoMemory}
use Rattle.snapshot_command.specs.Shelves.{ShelfSight}
use Rattle.replay_command.specs.Counts.{counts_of, versions_in}
use Rattle.replay_command.specs.Nodes.{node_at, node_log}
use Rattle.replay_command.specs.Texts.{asked, differs_line, head_text, log_line, rest_text}
use Rattle.replay_command.specs.Verdicts.{Judges}
use Rattle.replay_command.specs.declared.judging.Verdict.{Verdict}
use Rattle.replay_command.specs.declared.judging.Verdict.TheVariants as verdict
use Rattle.replay_command.specs.declared.logs.NodeLog.{NodeLog}

-- ---- by the logs of the nodes

-- so a verdict is told, unless memory ran out; this is the front of a text
abbrev pub TellsVerdict : List ℕ → ℕ → Bool → Verdict → Outcome → Type 0
TellsVerdict head versions values (verdict.Replayed told map) r = (r ≡ NoMemory) ⊎ (r ≡ Told (head ++ rest_text versions (counts_of told.items) (asked values map)))
TellsVerdict head versions values (verdict.Differs found) r = (r ≡ NoMemory) ⊎ (r ≡ Refused (differs_line found))
TellsVerdict head versions values (verdict.Log number) r = (r ≡ NoMemory) ⊎ (r ≡ Refused (log_line number))

-- the verdict over these logs, sixteen of repositories and then those of brokers
pub record TellsJudged (head : List ℕ) (values : Bool) (logs : List (List Effect)) (r : Outcome) : Type 0 where
  pub outcome : Verdict
  pub judges : Judges (take 16 logs) (drop 16 logs) outcome
  pub tells : TellsVerdict head (versions_in (take 16 logs)) values outcome r

abbrev pub TellsLogs : List ℕ → Bool → List (List Effect) → Outcome → Type 0
TellsLogs head values logs r = (r ≡ NoMemory) ⊎ TellsJudged head values logs r

abbrev pub Tells : Bool → List NodeLog → Outcome → Type 0
Tells values nodes r = TellsLogs (head_text nodes) values (map (λ n. n.effects) nodes) r

-- ---- by the shelf

module _ {M : Type 0} (w : Media M) where
  -- all 32 were opened, and their logs tell this
  pub record ShowsAll (values : Bool) (vs : List (Volumes w)) (r : Outcome) : Type 0 where
    pub count : length vs ≡ 32
    pub opened : nodes.AllOpen node_at w vs
    pub tells : Tells values (map node_log (all_logs vs)) r

  abbrev pub Shows : Bool → List (Volumes w) → Outcome → Type 0
  Shows values vs (Told text) = ShowsAll values vs (Told text)
  Shows values vs (Refused line) = ShowsAll values vs (Refused line)
  Shows values vs (Fallen line) = nodes.ShowsLastDown node_at w vs line
  Shows values vs NoMemory = Unit {0}

  -- The volumes of repositories 1 to 16 and of brokers 1 to 16 were taken and opened, and this came of the replay. Nothing is written to them, and they are handed back as they were opened.
  pub record ReplayOver (old new : ShelfSight) (values : Bool) (kept : List (Kept M)) (r : Outcome) : Type 0 where
    pub volumes : List (Volumes w)
    pub are : nodes.AreNodes node_at w old new volumes kept
    pub came : Shows values volumes r
