-- Volumes that stand aside while a run has one volume of each node.
use Rattle.std.specs.Prelude.{◌≡◌, ◌≤◌, ◌<◌, ◌*◌, ℕ, Bool, false, List, [], length, map, slice_get, slice_set, Option, Some, All, vec_capacity}
use Rattle.std.specs.List.{AllZip}
use Rattle.pseudo_time.specs.Lists.{Every}
use Rattle.pseudo_time.specs.declared.nodes.NodeId.{NodeId}
use Rattle.plan_form.specs.declared.plans.Plan.{Plan}
use Rattle.run_volumes.specs.Opening.{Opening}
use Rattle.run_volumes.specs.Media.{Media}
use Rattle.run_volumes.specs.Openings.{HasOpened, IsWanting, medium_in}
use Rattle.run_volumes.specs.Shelves.{ShelfSight, WereTaken}
use Rattle.run_volumes.specs.Volumes.{AreVolumes}
use Rattle.plan_volumes.specs.Volumes.{AreNodes, HadMemory, NodeVolumes, all_taken, left_of, names_from, work_taken, working}
use Rattle.plan_volumes.specs.declared.asides.Aside.{Aside}
use Rattle.plan_volumes.specs.declared.rooms.Rooms.{Rooms}

-- emptied lists with room for the volumes of so many nodes
pub record HasRoom {M : Type 0} {g : _} (count : ℕ) (r : Rooms M g) : Type 0 where
  pub nodes : length r.nodes.items ≡ count
  pub node : All (λ room. room.items ≡ []) r.nodes.items × All (λ room. 1000 ≤ vec_capacity room) r.nodes.items
  pub openings : (r.openings.items ≡ []) × (count ≤ vec_capacity r.openings)
  pub asides : (r.asides.items ≡ []) × (count ≤ vec_capacity r.asides)
  pub media : (r.media.items ≡ []) × (count ≤ vec_capacity r.media)
  pub kept : (r.kept.items ≡ []) × (1000 * count ≤ vec_capacity r.kept)

-- a node's volumes, but for what stands in the place of the one that a run is given
pub record IsAside {M : Type 0} {w : Media M} (v : NodeVolumes w) (a : Aside M w) : Type 0 where
  pub place : a.working < length a.rest.items
  pub few : length a.rest.items ≤ 1000
  pub count : length a.rest.items ≡ length v.taken
  pub rest : (m : Option M) → slice_set (map medium_in a.rest.items) a.working m ≡ left_of v m

-- a node's volumes, taken and opened: one for a run, and the others aside; and whether memory ran out for one
pub record IsApart {M : Type 0} (w : Media M) (old new : ShelfSight) (n : NodeId) (v : NodeVolumes w) (o : Opening M w) (a : Aside M w) (wanting : Bool) : Type 0 where
  pub volumes : AreVolumes w old new n v.taken v.openings
  pub given : slice_get v.openings (working v.openings) ≡ Some o
  pub aside : IsAside v a
  pub memory : wanting ≡ false → Every (λ (x : Opening M w). IsWanting x → ⊥) v.openings

-- the volumes of the plan's first nodes: one of each for a run, and the others aside; and whether memory ran out for one
pub record AreApart {M : Type 0} (w : Media M) (old new : ShelfSight) (plan : Plan) (volumes : List (NodeVolumes w)) (openings : List (Opening M w)) (asides : List (Aside M w)) (wanting : Bool) : Type 0 where
  pub taken : WereTaken w old new (names_from plan 0 volumes) (all_taken volumes)
  pub are : AreNodes w plan 0 volumes
  pub given : AllZip (HasOpened w) (map work_taken volumes) openings
  pub aside : AllZip IsAside volumes asides
  pub memory : wanting ≡ false → HadMemory w volumes
