-- What a watch's totals are of: over a past of runs, retirements and watches of one repository by one rule.
use Rattle.std.specs.Prelude.{◌≡◌, ◌⊎◌, ℕ, true, false, List, [], ◌∷◌, map, Option, Some, None, Ok}
use Rattle.pseudo_time.specs.Lists.{Has}
use Rattle.pseudo_time.specs.Order.{lt}
use Rattle.pseudo_time.specs.TimeParts.{TimeParts}
use Rattle.value_form.specs.declared.objects.ObjectId.{ObjectId}
use Rattle.effect_form.specs.declared.effects.Effect.TheVariants as effect
use Rattle.object_history.specs.declared.marks.Mark.{Mark}
use Rattle.object_history.specs.Settled.{settled_versions}
use Rattle.commit_watch.specs.declared.moved.Moved.{Moved}
use Rattle.commit_watch.specs.declared.versions.Version.{Version}
use Rattle.commit_watch.specs.Folds.{advanced, moved_over, version_of}
use Rattle.serial_law.specs.Earlier.{Earlier}
use Rattle.archive_law.specs.Archives.{EverStood, WasDecided, archive, volumes_left}
use Rattle.archive_law.specs.Audits.{Rises}

-- ---- what a total is of

-- a committed version of the object that ever stood in a durable log of the repository, at or below the cursor
pub record IsCounted (cs : List Earlier) (r : ℕ) (o : ObjectId) (cursor : TimeParts) (v : Version) : Type 0 where
  pub its_object : v.object ≡ o
  pub stood : EverStood cs r (effect.Put o v.start v.value)
  pub committed : WasDecided cs v.start.stamp true
  pub within : lt cursor v.start ≡ false

-- the total is what the rule makes of these, all of them, each once, in rising order, from its first total on; and the cursor is the start of the last
pub record CountsAll {T : Type 0} (first : T) (next : T → Version → Option T) (cs : List Earlier) (r : ℕ) (o : ObjectId) (w : Moved T) : Type 0 where
  pub versions : List Version
  pub rising : Rises versions
  pub all : (v : Version) → IsCounted cs r o w.cursor v → Has v versions
  pub only : (v : Version) → Has v versions → IsCounted cs r o w.cursor v
  pub folded : moved_over first next o None versions ≡ Ok (Some w)

-- ---- a past with watches

-- a run or a retirement; or a watch, which leaves these totals
pub data Event (T : Type 0) : Type 0 where
  Calling : Earlier → Event T
  Watching : (ObjectId → Option (Moved T)) → Event T

-- the last event stands first
abbrev pub calls_of : {T : Type 0} → List (Event T) → List Earlier
calls_of [] = []
calls_of (Calling c ∷ es) = c ∷ calls_of es
calls_of (Watching new ∷ es) = calls_of es

-- the totals that the last watch left
abbrev pub totals_of : {T : Type 0} → List (Event T) → ObjectId → Option (Moved T)
totals_of [] o = None
totals_of (Calling c ∷ es) o = totals_of es o
totals_of (Watching new ∷ es) o = new o

-- the repository's archive then
abbrev pub archive_then : {T : Type 0} → ℕ → List (Event T) → List Mark
archive_then r es = archive (volumes_left (calls_of es) r)

module _ {T : Type 0} (first : T) (next : T → Version → Option T) (r : ℕ) where
  -- Each watch advanced over the archive of its time, from the totals that it found. Where it was stopped an object may have its old total still.
  abbrev pub AreWatches : List (Event T) → Type 0
  AreWatches [] = Unit {0}
  AreWatches (Calling c ∷ es) = AreWatches es
  AreWatches (Watching new ∷ es) =
      AreWatches es × ((o : ObjectId) → (new o ≡ totals_of es o) ⊎ (advanced first next o (archive_then r es) None (totals_of es o) ≡ Ok (new o)))

  -- each total is of all committed versions that ever stood, up to its cursor
  abbrev pub CountEach : List (Event T) → Type 0
  CountEach es = (o : ObjectId) (w : Moved T) → totals_of es o ≡ Some w → CountsAll first next (calls_of es) r o w

  -- what a watch now makes of each is of all stable versions
  abbrev pub CountSettled : List (Event T) → Type 0
  CountSettled es = (o : ObjectId) (u : Option (Moved T)) → advanced first next o (archive_then r es) None (totals_of es o) ≡ Ok u →
      moved_over first next o None (map (version_of o) (settled_versions (archive_then r es) o)) ≡ Ok u
