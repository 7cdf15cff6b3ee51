-- The volumes of a node, opened: how far they go, and which is fresh.
use Rattle.std.specs.Prelude.{◌≡◌, ℕ, zero, suc, ◌+◌, Bool, true, false, List, [], ◌∷◌, ◌++◌, length, map, ◌==◌, ◌&&◌, ◌||◌, not, nat_lt, if◌then◌else◌, Option, Some, None}
use Rattle.std.specs.List.{AllZip}
use Rattle.pseudo_time.specs.Lists.{Every}
use Rattle.pseudo_time.specs.declared.nodes.NodeId.{NodeId}
use Rattle.pseudo_time.specs.declared.nodes.NodeKind.{NodeKind}
use Rattle.pseudo_time.specs.declared.nodes.NodeKind.TheVariants.{Repository, Broker}
use Rattle.effect_form.specs.declared.effects.Effect.{Effect}
use Rattle.run_media.specs.declared.openings.Opening.{Opening}
use Rattle.run_media.specs.declared.openings.Opening.TheVariants.{Open, Shut, Wanting}
use Rattle.run_media.specs.Media.{Media}
use Rattle.run_media.specs.Openings.{HasOpened, IsOpen, log_in}
use Rattle.run_volumes.specs.Shelves.{ShelfSight, WereTaken, first_names}

abbrev pub is_empty_log : List Effect → Bool
is_empty_log [] = true
is_empty_log (f ∷ log) = false

-- behind a volume with this log the next one is taken: behind volume 0, and behind one that isn't empty, up to volume 999; a broker has volume 0 alone
abbrev pub follows : NodeKind → ℕ → List Effect → Bool
follows Broker v log = false
follows Repository v log = (v == 0 || not (is_empty_log log)) && nat_lt v 999

module _ {M : Type 0} {g : _} where
  -- the same of what came of opening the volume: none follows behind one that can't be opened
  abbrev pub goes_on : NodeKind → ℕ → Opening M g → Bool
  goes_on kind v (Open store effects) = follows kind v effects.items
  goes_on kind v (Shut medium cause) = false
  goes_on kind v (Wanting medium) = false

  -- behind each of these, from this volume on, the next one is taken
  abbrev pub GoOn : NodeKind → ℕ → List (Opening M g) → Type 0
  GoOn kind v [] = Unit {0}
  GoOn kind v (o ∷ os) = (goes_on kind v o ≡ true) × GoOn kind (suc v) os

  -- behind each but the last the next one is taken, and behind the last none is
  pub record EndRightly (kind : NodeKind) (openings : List (Opening M g)) : Type 0 where
    pub front : List (Opening M g)
    pub last : Opening M g
    pub is : openings ≡ front ++ last ∷ []
    pub go_on : GoOn kind 0 front
    pub ends : goes_on kind (length front) last ≡ false

  -- the node can be opened: each of its volumes was
  abbrev pub AreOpen : List (Opening M g) → Type 0
  AreOpen openings = Every IsOpen openings

  -- the logs of its volumes
  abbrev pub logs_of : List (Opening M g) → List (List Effect)
  logs_of openings = map log_in openings

-- a node's volumes from 0 on, as they were taken and opened, up to the first behind which none follows
pub record AreVolumes {M : Type 0} (w : Media M) {g : _} (old new : ShelfSight) (n : NodeId) (media : List (Option M)) (openings : List (Opening M g)) : Type 0 where
  pub taken : WereTaken w old new (first_names n (length media)) media
  pub opened : AllZip (HasOpened w) media openings
  pub ends : EndRightly n.kind openings

-- ---- which volume is fresh, by their logs from 0 on

-- the first of these logs, from this volume on, that is that of a volume above 0 and empty
abbrev pub fresh_from : ℕ → List (List Effect) → Option ℕ
fresh_from v [] = None
fresh_from v (log ∷ logs) = if nat_lt 0 v && is_empty_log log then Some v else fresh_from (suc v) logs

-- the fresh volume: the first above 0 that is empty, if one is
abbrev pub fresh : List (List Effect) → Option ℕ
fresh logs = fresh_from 0 logs
