-- The volumes of a plan's nodes in a call: which of them a run is given, and how all are handed back.
use Rattle.std.specs.Prelude.{◌≡◌, ℕ, suc, Bool, true, false, IsTrue, List, [], ◌∷◌, ◌++◌, length, map, get_or, slice_set, if◌then◌else◌, Option, Some, None, Ok}
use Rattle.std.specs.List.{AllZip}
use Rattle.std.specs.Option.{unwrap_or}
use Rattle.pseudo_time.specs.Lists.{Every}
use Rattle.pseudo_time.specs.declared.nodes.NodeId.{NodeId}
use Rattle.medium_port.specs.Image.{Image}
use Rattle.medium_port.specs.declared.shelves.MediumName.{MediumName}
use Rattle.version_store.specs.Storage.{storage}
use Rattle.version_store.specs.StoreWords.{medium_of}
use Rattle.plan_form.specs.declared.plans.Plan.{Plan}
use Rattle.run_volumes.specs.Opening.{Opening}
use Rattle.run_volumes.specs.Opening.TheVariants.{Open, Shut, Wanting}
use Rattle.run_volumes.specs.Media.{Media}
use Rattle.run_volumes.specs.Openings.{HasOpened, IsWanting, medium_in}
use Rattle.run_volumes.specs.Places.{node_at, node_count}
use Rattle.forward_copy.specs.Currents.{current}
use Rattle.run_volumes.specs.Kept.{kept_under}
use Rattle.run_volumes.specs.Shelves.{ShelfSight, WereTaken, first_names}
use Rattle.run_volumes.specs.Volumes.{EndRightly, logs_of}
use Rattle.run_volumes.specs.declared.kept.Kept.{Kept}

-- a node's volumes from 0 on: as they were taken, and what they were opened as
pub record NodeVolumes {M : Type 0} (w : Media M) : Type 0 where
  pub taken : List (Option M)
  pub openings : List (Opening M w)

-- ---- the volume that a run is given

module _ {M : Type 0} {g : _} where
  abbrev pub is_open : Opening M g → Bool
  is_open (Open store effects) = true
  is_open (Shut medium cause) = false
  is_open (Wanting medium) = false

  -- the first of these volumes, from this one on, that couldn't be opened
  abbrev pub unopened_from : ℕ → List (Opening M g) → Option ℕ
  unopened_from v [] = None
  unopened_from v (o ∷ os) = if is_open o then unopened_from (suc v) os else Some v

  -- the volume that a run is given: the first that couldn't be opened, so that its node is down for that; else the current one
  abbrev pub working : List (Opening M g) → ℕ
  working openings = unwrap_or (unopened_from 0 openings) (current (logs_of openings))

module _ {M : Type 0} {w : Media M} where
  -- as it was taken
  abbrev pub work_taken : NodeVolumes w → Option M
  work_taken v = get_or v.taken (working v.openings) None

  -- ---- what is handed back

  -- a node's volumes where this is left of the one that a run was given: each other one is as opening left it
  abbrev pub left_of : NodeVolumes w → Option M → List (Option M)
  left_of v left = slice_set (map medium_in v.openings) (working v.openings) left

  -- the volumes of these nodes, as they were taken
  abbrev pub all_taken : List (NodeVolumes w) → List (Option M)
  all_taken [] = []
  all_taken (v ∷ volumes) = v.taken ++ all_taken volumes

  -- and where these are left of those that a run was given
  abbrev pub all_left : List (NodeVolumes w) → List (Option M) → List (Option M)
  all_left [] left = []
  all_left (v ∷ volumes) [] = []
  all_left (v ∷ volumes) (m ∷ left) = left_of v m ++ all_left volumes left

  -- their names: those of the plan's nodes from this place on
  abbrev pub names_from : Plan → ℕ → List (NodeVolumes w) → List MediumName
  names_from plan place [] = []
  names_from plan place (v ∷ volumes) = first_names (node_at plan place) (length v.taken) ++ names_from plan (suc place) volumes

-- ---- a plan's nodes

module _ {M : Type 0} (w : Media M) where
  -- a crash leaves of a volume that was opened the log that it was opened with
  abbrev pub KeepsLog : Opening M w → Type 0
  KeepsLog (Open store effects) = IsTrue w.tells → (c : Image) → w.may_leave (medium_of store) c → storage c ≡ Ok effects.items
  KeepsLog (Shut medium cause) = Unit {0}
  KeepsLog (Wanting medium) = Unit {0}

  -- these are the node's: each was opened, up to the first behind which none follows, and keeps its log
  pub record IsNodes (n : NodeId) (v : NodeVolumes w) : Type 0 where
    pub opened : AllZip (HasOpened w) v.taken v.openings
    pub ends : EndRightly n.kind v.openings
    pub keep : Every KeepsLog v.openings

  -- these are the plan's nodes', from this place on
  abbrev pub AreNodes : Plan → ℕ → List (NodeVolumes w) → Type 0
  AreNodes plan place [] = Unit {0}
  AreNodes plan place (v ∷ volumes) = IsNodes (node_at plan place) v × AreNodes plan (suc place) volumes

  -- memory didn't run out when any of them was opened
  abbrev pub HadMemory : List (NodeVolumes w) → Type 0
  HadMemory volumes = Every (λ (v : NodeVolumes w). Every (λ (o : Opening M w). IsWanting o → ⊥) v.openings) volumes

-- The volumes of the plan's nodes were taken, node by node and each node's from 0 on, and opened. All are handed back, in this order, where this is left of those that a run was given.
pub record HasVolumes {M : Type 0} (w : Media M) (old new : ShelfSight) (plan : Plan) (volumes : List (NodeVolumes w)) (left : List (Option M)) (kept : List (Kept M)) : Type 0 where
  pub count : length volumes ≡ node_count plan
  pub taken : WereTaken w old new (names_from plan 0 volumes) (all_taken volumes)
  pub are : AreNodes w plan 0 volumes
  pub handed : kept ≡ kept_under (names_from plan 0 volumes) (all_left volumes left)
