-- The volumes of nodes, taken and opened one after another, and what is read of each. Lists of nodes have the last one at the front.
use Rattle.std.specs.Prelude.{◌≡◌, ◌⊎◌, ℕ, List, [], ◌∷◌, ◌++◌, length, map, Option, Result, Ok, Err, Vec}
use Rattle.std.specs.List.{AllZip}
use Rattle.std.specs.declared.alloc.Global.{Global}
use Rattle.pseudo_time.specs.Lists.{Every}
use Rattle.pseudo_time.specs.declared.nodes.NodeId.{NodeId}
use Rattle.pseudo_time.specs.declared.nodes.NodeKind.{NodeKind}
use Rattle.effect_form.specs.declared.effects.Effect.{Effect}
use Rattle.medium_port.specs.declared.shelves.MediumName.{MediumName}
use Rattle.watch_command.specs.Answers.{ShowsDown}
use Rattle.watch_command.specs.Kept.{kept_under}
use Rattle.watch_command.specs.KeptMedium.{Kept}
use Rattle.watch_command.specs.Media.{Media}
use Rattle.watch_command.specs.Opening.{Opening}
use Rattle.watch_command.specs.Openings.{HasOpened, medium_in}
use Rattle.watch_command.specs.Outcome.{Outcome}
use Rattle.watch_command.specs.Outcome.TheVariants.{Told, Refused, Fallen, NoMemory}
use Rattle.watch_command.specs.Shelves.{ShelfSight, WereTaken, first_names}
use Rattle.watch_command.specs.Standings.{WritesNothing}
use Rattle.watch_command.specs.Volumes.{AreOpen, AreVolumes, EndRightly, logs_of}

-- a node's volumes from 0 on: as they were taken, and what they were opened as
pub record Volumes {M : Type 0} (w : Media M) : Type 0 where
  pub taken : List (Option M)
  pub openings : List (Opening M w)

module _ {M : Type 0} {w : Media M} where
  -- as they were taken
  abbrev pub all_taken : List (Volumes w) → List (Option M)
  all_taken [] = []
  all_taken (v ∷ vs) = all_taken vs ++ v.taken

  -- as they are handed back
  abbrev pub all_back : List (Volumes w) → List (Option M)
  all_back [] = []
  all_back (v ∷ vs) = all_back vs ++ map medium_in v.openings

  -- the logs of each, those of the first one at the front
  abbrev pub all_logs : List (Volumes w) → List (List (List Effect))
  all_logs [] = []
  all_logs (v ∷ vs) = all_logs vs ++ logs_of v.openings ∷ []

-- ---- the nodes from place 0 on are these

module _ (node : ℕ → NodeId) where
  module _ {M : Type 0} {w : Media M} where
    -- the names of their volumes
    abbrev pub node_names : List (Volumes w) → List MediumName
    node_names [] = []
    node_names (v ∷ vs) = node_names vs ++ first_names (node (length vs)) (length v.taken)

  module _ {M : Type 0} (w : Media M) where
    -- each was opened, up to the first behind which none follows, and nothing is written to it
    pub record AreOpened (kind : NodeKind) (v : Volumes w) : Type 0 where
      pub opened : AllZip (HasOpened w) v.taken v.openings
      pub ends : EndRightly kind v.openings
      pub keep : WritesNothing w v.openings (map medium_in v.openings)

    -- so of each node
    abbrev pub AllOpened : List (Volumes w) → Type 0
    AllOpened [] = Unit {0}
    AllOpened (v ∷ vs) = AreOpened (node (length vs)).kind v × AllOpened vs

    -- The volumes of these nodes were taken, node after node and each one's from 0 on, and opened. They are handed back as they were opened.
    pub record AreNodes (old new : ShelfSight) (vs : List (Volumes w)) (kept : List (Kept M)) : Type 0 where
      pub taken : WereTaken w old new (node_names vs) (all_taken vs)
      pub opened : AllOpened vs
      pub handed : kept ≡ kept_under (node_names vs) (all_back vs)

    -- each of their volumes could be opened
    abbrev pub AllOpen : List (Volumes w) → Type 0
    AllOpen vs = Every (λ (v : Volumes w). AreOpen v.openings) vs

    -- the line of the last one, which is the first with a volume that can't be opened
    abbrev pub ShowsLastDown : List (Volumes w) → List ℕ → Type 0
    ShowsLastDown [] line = ⊥
    ShowsLastDown (v ∷ vs) line = AllOpen vs × ShowsDown (node (length vs)) v.openings line

-- ---- on the way: of each node's logs this is read

module _ {K : Type 0} (what : List (List Effect) → K) where
  -- What was read of a node with these volumes; or what stopped it.
  abbrev pub Reads : {M : Type 0} {g : _} → NodeId → List (Opening M g) → Result K Outcome → Type 0
  Reads n openings (Ok known) = AreOpen openings × (known ≡ what (logs_of openings))
  Reads n openings (Err (Told text)) = ⊥
  Reads n openings (Err (Refused line)) = ⊥
  Reads n openings (Err (Fallen line)) = ShowsDown n openings line
  Reads n openings (Err NoMemory) = Unit {0}

  module _ {M : Type 0} (w : Media M) where
    -- nothing was taken, since memory ran out
    pub record TakesNone (old new : ShelfSight) (front kept : List (Kept M)) (r : Result K Outcome) : Type 0 where
      pub wanting : r ≡ Err NoMemory
      pub none : WereTaken w old new [] []
      pub handed : kept ≡ front

    -- this node's volumes were taken, and are kept behind others
    pub record TakesAll (old new : ShelfSight) (n : NodeId) (front kept : List (Kept M)) (r : Result K Outcome) : Type 0 where
      pub taken : List (Option M)
      pub openings : List (Opening M w)
      pub volumes : AreVolumes w old new n taken openings
      pub handed : kept ≡ front ++ kept_under (first_names n (length openings)) (map medium_in openings)
      pub read : Reads n openings r

    abbrev pub Takes : (old new : ShelfSight) (n : NodeId) (front kept : List (Kept M)) → Result K Outcome → Type 0
    Takes old new n front kept r = TakesNone old new front kept r ⊎ TakesAll old new n front kept r

    -- these were read
    abbrev pub IsRead : (ℕ → NodeId) → List (Volumes w) → List K → Type 0
    IsRead node vs known = AllOpen node w vs × (known ≡ map what (all_logs vs))

    -- those of so many nodes; or what stopped it
    abbrev pub AreRead : (ℕ → NodeId) → ℕ → List (Volumes w) → Result (Vec K Global) Outcome → Type 0
    AreRead node count vs (Ok known) = (length vs ≡ count) × IsRead node vs known.items
    AreRead node count vs (Err (Told text)) = ⊥
    AreRead node count vs (Err (Refused line)) = ⊥
    AreRead node count vs (Err (Fallen line)) = ShowsLastDown node w vs line
    AreRead node count vs (Err NoMemory) = Unit {0}

    pub record Gathers (node : ℕ → NodeId) (count : ℕ) (old new : ShelfSight) (kept : List (Kept M)) (r : Result (Vec K Global) Outcome) : Type 0 where
      pub volumes : List (Volumes w)
      pub are : AreNodes node w old new volumes kept
      pub read : AreRead node count volumes r
