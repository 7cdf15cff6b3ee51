-- What `snapshot` tells, where a past left the volumes of all repositories. Their logs stand in order, those of repository 1 at the front.
use Rattle.std.specs.Prelude.{◌≡◌, ◌≤◌, ℕ, List, length, Option, Some}
use Rattle.pseudo_time.specs.StampParts.{StampParts}
use Rattle.value_form.specs.declared.objects.ObjectId.{ObjectId}
use Rattle.value_form.specs.declared.values.Value.{Value}
use Rattle.effect_form.specs.declared.effects.Effect.{Effect}
use Rattle.commit_watch.specs.declared.moved.Moved.{Moved}
use Rattle.commit_watch.specs.Lists.{AreRising, moved_at}
use Rattle.world_core.specs.Deeds.{before}
use Rattle.archive_law.specs.Earlier.{Earlier}
use Rattle.archive_law.specs.AsOf.{first_of, idle_run, value_in}
use Rattle.snapshot_command.specs.Outcome.{Outcome}
use Rattle.snapshot_command.specs.Outcome.TheVariants.{Told, Refused, Fallen, NoMemory}
use Rattle.snapshot_command.specs.Repositories.{all_joined}
use Rattle.snapshot_command.specs.Snapshots.{clock_for, list_of, mark_at}
use Rattle.snapshot_command.specs.Texts.{snapshot_text}
use Rattle.archive_promise.specs.Answered.{WereLeft, listed_value}

-- the volumes of each repository have the logs that the calls left of it
abbrev pub WereAllLeft : List Earlier → List (List (List Effect)) → Type 0
WereAllLeft cs all = (r : ℕ) → 1 ≤ r → r ≤ length all → WereLeft cs r (list_of all r)

-- The text lists, of repository after repository and in rising order, what objects have in one plain map: that before the stamp, of a plan of so many repositories
-- without acts.
pub record IsOneMap (cs : List Earlier) (n : ℕ) (s : StampParts) (text : List ℕ) : Type 0 where
  pub lists : List (List (Moved Value))
  pub count : length lists ≡ n
  pub is_text : text ≡ snapshot_text (first_of s) lists
  pub rising : (r : ℕ) → 1 ≤ r → r ≤ n → AreRising (list_of lists r)
  pub values : (r : ℕ) → 1 ≤ r → r ≤ n → (o : ObjectId) → listed_value (moved_at o (list_of lists r)) ≡ value_in r (before (idle_run cs n) s) o

-- over whatever past
abbrev pub TellsOneMap : StampParts → List (List (List Effect)) → List ℕ → Type 0
TellsOneMap s all text = (cs : List Earlier) → WereAllLeft cs all → IsOneMap cs (length all) s text

-- it is that as of the clock that was asked for, or else of the one above them all
abbrev pub TellsAsked : Option ℕ → List (List (List Effect)) → List ℕ → Type 0
TellsAsked clock all text = (c : ℕ) × (clock_for clock (all_joined all) ≡ Some c) × TellsOneMap (mark_at c).stamp all text

-- what came of a snapshot: what is reported is that
abbrev pub IsLawfulSnapshot : Option ℕ → List (List (List Effect)) → Outcome → Type 0
IsLawfulSnapshot clock all (Told text) = TellsAsked clock all text
IsLawfulSnapshot clock all (Refused line) = Unit {0}
IsLawfulSnapshot clock all (Fallen line) = Unit {0}
IsLawfulSnapshot clock all NoMemory = Unit {0}
