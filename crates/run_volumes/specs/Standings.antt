-- How a node's volumes stand, and what is left of those that aren't written to.
use Rattle.std.specs.Prelude.{◌≡◌, ◌⊎◌, false, IsTrue, List, ◌∷◌, ◌++◌, Option, Some, None, Ok}
use Rattle.std.specs.List.{AllZip}
use Rattle.pseudo_time.specs.declared.down_causes.DownCause.{DownCause}
use Rattle.effect_form.specs.Effects.{AreEffects}
use Rattle.medium_port.specs.Image.{Image}
use Rattle.version_store.specs.Storage.{storage}
use Rattle.version_store.specs.StoreWords.{effects_in, medium_of}
use Rattle.run_media.specs.declared.openings.Opening.{Opening}
use Rattle.run_media.specs.declared.openings.Opening.TheVariants.{Open, Shut, Wanting}
use Rattle.run_media.specs.Media.{Media}
use Rattle.run_volumes.specs.Volumes.{AreOpen}
use Rattle.run_volumes.specs.declared.standings.Standing.{Standing}
use Rattle.run_volumes.specs.declared.standings.Standing.TheVariants as standing

-- ---- which of them was opened

module _ {M : Type 0} {g : _} (openings : List (Opening M g)) where
  -- a volume couldn't be opened, for this cause
  pub record HasShut (cause : DownCause) : Type 0 where
    pub front : List (Opening M g)
    pub medium : Option M
    pub back : List (Opening M g)
    pub is : openings ≡ front ++ Shut medium cause ∷ back

  -- how the volumes stand
  abbrev pub StandsAs : Standing → Type 0
  StandsAs standing.Open = AreOpen openings
  StandsAs (standing.Shut cause) = HasShut cause
  StandsAs standing.Wanting = Unit {0}

-- ---- what is left of them

module _ {M : Type 0} (w : Media M) {g : _} where
  -- the volume holds the log that it was opened with
  abbrev pub Stands : Opening M g → Type 0
  Stands (Open store effects) = (w.is_failed (medium_of store) ≡ false) × AreEffects effects.items × (IsTrue w.tells → effects_in w.reads store ≡ effects.items)
      × (IsTrue w.tells → (c : Image) → w.may_leave (medium_of store) c → storage c ≡ Ok effects.items)
  Stands (Shut medium cause) = Unit {0}
  Stands (Wanting medium) = Unit {0}

  -- A volume that isn't written to: each image of one that was opened has the log that it was opened with; another is handed back as it is.
  abbrev pub KeepsIts : Opening M g → Option M → Type 0
  KeepsIts (Open store effects) None = ⊥
  KeepsIts (Open store effects) (Some m) = IsTrue w.tells → (c : Image) → w.may_leave m c → storage c ≡ Ok effects.items
  KeepsIts (Shut medium cause) left = left ≡ medium
  KeepsIts (Wanting medium) left = left ≡ Some medium

  -- nothing is written
  abbrev pub WritesNothing : List (Opening M g) → List (Option M) → Type 0
  WritesNothing openings left = AllZip KeepsIts openings left
