-- The volumes of repositories 1, 2 and so on, taken and opened one after another. Lists of repositories have the last one at the front.
use Rattle.std.specs.Prelude.{◌≡◌, ℕ, suc, List, length, map, Option, Result, Vec}
use Rattle.std.specs.declared.alloc.Global.{Global}
use Rattle.pseudo_time.specs.Nodes.{repository as named}
use Rattle.pseudo_time.specs.declared.nodes.NodeId.{NodeId}
use Rattle.effect_form.specs.declared.effects.Effect.{Effect}
use Rattle.object_history.specs.declared.marks.Mark.{Mark}
use Rattle.watch_command.specs.Archives.{joined_marks}
use Rattle.watch_command.specs.KeptMedium.{Kept}
use Rattle.watch_command.specs.Media.{Media}
use Rattle.watch_command.specs.Outcome.{Outcome}
use Rattle.watch_command.specs.Outcome.TheVariants.{Told, Refused, Fallen, NoMemory}
use Rattle.watch_command.specs.Shelves.{ShelfSight}
use Rattle.snapshot_command.specs.Nodes as nodes
pub use Rattle.snapshot_command.specs.Nodes.{Volumes, all_back, all_logs, all_taken}
use Rattle.snapshot_command.specs.Snapshots.{Gives}

-- the one in this place, from 0 on
abbrev pub in_order : ℕ → NodeId
in_order place = named (suc place)

-- what the archives of these logs say
abbrev pub all_joined : List (List (List Effect)) → List (List Mark)
all_joined logs = map joined_marks logs

module _ {M : Type 0} (w : Media M) where
  abbrev pub AreRepositories : (old new : ShelfSight) → List (Volumes w) → List (Kept M) → Type 0
  AreRepositories = nodes.AreNodes in_order w

  abbrev pub AllOpen : List (Volumes w) → Type 0
  AllOpen = nodes.AllOpen in_order w

  abbrev pub ShowsLastDown : List (Volumes w) → List ℕ → Type 0
  ShowsLastDown = nodes.ShowsLastDown in_order w

  -- all 16 were opened, and their archives give this
  pub record ShowsAll (clock : Option ℕ) (vs : List (Volumes w)) (r : Outcome) : Type 0 where
    pub count : length vs ≡ 16
    pub opened : AllOpen vs
    pub gives : Gives clock (all_joined (all_logs vs)) r

  abbrev pub Shows : Option ℕ → List (Volumes w) → Outcome → Type 0
  Shows clock vs (Told text) = ShowsAll clock vs (Told text)
  Shows clock vs (Refused line) = ShowsAll clock vs (Refused line)
  Shows clock vs (Fallen line) = ShowsLastDown vs line
  Shows clock vs NoMemory = Unit {0}

  -- The volumes of the repositories from 1 on were taken and opened, and this came of a snapshot. Nothing is written to them, and they are handed back as they were opened.
  pub record SnapshotOver (old new : ShelfSight) (clock : Option ℕ) (kept : List (Kept M)) (r : Outcome) : Type 0 where
    pub volumes : List (Volumes w)
    pub are : AreRepositories old new volumes kept
    pub came : Shows clock volumes r

  -- ---- on the way

  abbrev pub Takes : (old new : ShelfSight) (number : ℕ) (front kept : List (Kept M)) → Result (List Mark) Outcome → Type 0
  Takes old new number front kept r = nodes.Takes joined_marks w old new (named number) front kept r

  abbrev pub Gathers : (old new : ShelfSight) (kept : List (Kept M)) → Result (Vec (List Mark) Global) Outcome → Type 0
  Gathers old new kept r = nodes.Gathers joined_marks w in_order 16 old new kept r
