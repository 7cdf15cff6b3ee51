-- What an audit of an object tells: all its versions that ever stood, and which volume has each.
use Rattle.std.specs.Prelude.{◌≡◌, ◌<◌, ℕ, true, List, [], ◌∷◌, map, slice_get, Some}
use Rattle.pseudo_time.specs.Lists.{Every, Has}
use Rattle.pseudo_time.specs.Order.{lt}
use Rattle.pseudo_time.specs.TimeParts.{TimeParts}
use Rattle.value_form.specs.declared.objects.ObjectId.{ObjectId}
use Rattle.value_form.specs.declared.values.Value.{Value}
use Rattle.effect_form.specs.declared.effects.Effect.{Effect}
use Rattle.effect_form.specs.declared.effects.Effect.TheVariants as effect
use Rattle.object_history.specs.declared.marks.Mark.{Mark}
use Rattle.object_history.specs.Settled.{listed}
use Rattle.repository_log.specs.Logs.{marks}
use Rattle.commit_watch.specs.declared.versions.Version.{Version}
use Rattle.commit_watch.specs.Folds.{version_of}
use Rattle.archive_store.specs.Joined.{holder_of}
use Rattle.serial_law.specs.Earlier.{Earlier}
use Rattle.archive_law.specs.Archives.{EverStood}

-- each version starts below those behind it
abbrev pub Rises : List Version → Type 0
Rises [] = Unit {0}
Rises (v ∷ vs) = Every (λ (u : Version). lt v.start u.start ≡ true) vs × Rises vs

-- these are the versions of the object that ever stood in a durable log of the repository, each once, in rising order
pub record ListsAll (cs : List Earlier) (r : ℕ) (o : ObjectId) (versions : List Version) : Type 0 where
  pub rising : Rises versions
  pub all : (x : TimeParts) (v : Value) → EverStood cs r (effect.Put o x v) → Has (record { object = o; start = x; value = v }) versions
  pub only : (v : Version) → Has v versions → (v.object ≡ o) × EverStood cs r (effect.Put o v.start v.value)

-- those that an archive has, newest mark first, in this order
abbrev pub versions_in : ObjectId → List Mark → List Version
versions_in o m = map (version_of o) (listed (λ x. true) o m)

-- the log at this place has the effect, and none behind it has
pub record HoldsLast (logs : List (List Effect)) (f : Effect) (place : ℕ) : Type 0 where
  pub log : List Effect
  pub there : slice_get logs place ≡ Some log
  pub has : Has f log
  pub none : (behind : ℕ) (other : List Effect) → place < behind → slice_get logs behind ≡ Some other → Has f other → ⊥

-- the last of these volumes that has the version is found, and none behind it has it
abbrev pub HasHolder : List (List Effect) → ObjectId → TimeParts → Value → Type 0
HasHolder volumes o x v = (place : ℕ) × (holder_of o x (map marks volumes) ≡ Some place) × HoldsLast volumes (effect.Put o x v) place
