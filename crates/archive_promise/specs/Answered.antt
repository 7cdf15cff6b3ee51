-- What `asof` and `audit` tell, where a past left the volumes of the repository.
use Rattle.std.specs.Prelude.{◌≡◌, ◌≤◌, ℕ, Bool, List, ◌++◌, map, Option, Some, None}
use Rattle.std.specs.List.{flat_map}
use Rattle.pseudo_time.specs.Lists.{Has}
use Rattle.pseudo_time.specs.StampParts.{StampParts}
use Rattle.pseudo_time.specs.TimeParts.{TimeParts}
use Rattle.value_form.specs.declared.objects.ObjectId.{ObjectId}
use Rattle.value_form.specs.declared.values.Value.{Value}
use Rattle.value_form.specs.declared.values.Value.TheVariants.{Nothing}
use Rattle.effect_form.specs.declared.effects.Effect.{Effect}
use Rattle.effect_form.specs.declared.effects.Effect.TheVariants as effect
use Rattle.object_history.specs.declared.marks.Mark.{Mark}
use Rattle.commit_watch.specs.declared.moved.Moved.{Moved}
use Rattle.commit_watch.specs.declared.versions.Version.{Version}
use Rattle.commit_watch.specs.Lists.{AreRising, moved_at}
use Rattle.archive_store.specs.Latest.{IsFirstOpen}
use Rattle.report_writer.specs.Lines.{undecided_line}
use Rattle.world_core.specs.Deeds.{before}
use Rattle.archive_law.specs.Earlier.{Earlier}
use Rattle.archive_law.specs.Archives.{IsPast, WasDecided, volumes_left}
use Rattle.archive_law.specs.AsOf.{first_of, idle_run, value_in}
use Rattle.archive_law.specs.Audits.{ListsAll}
use Rattle.snapshot_command.specs.Outcome.{Outcome}
use Rattle.snapshot_command.specs.Outcome.TheVariants.{Told, Refused, Fallen, NoMemory}
use Rattle.snapshot_command.specs.Question.{Question}
use Rattle.snapshot_command.specs.Question.TheVariants.{AsOf, Audit}
use Rattle.snapshot_command.specs.Archives.{Complete, complete, newest_first}
use Rattle.snapshot_command.specs.ArchiveLines.{asof_text, audit_head, version_line}

-- the complete ones among these volumes have the logs that the calls left of the repository
pub record WereLeft (cs : List Earlier) (r : ℕ) (logs : List (List Effect)) : Type 0 where
  pub past : IsPast cs
  pub same : map (λ (c : Complete). c.log) (complete logs) ≡ volumes_left cs r

-- ---- the map as of a stamp

-- the value that is listed, and Nothing where none is
abbrev pub listed_value : Option (Moved Value) → Value
listed_value None = Nothing
listed_value (Some w) = w.total

-- The text lists in rising order what objects have in the plain map before the stamp, cut to the repository's objects: of a plan of so many
-- repositories without acts.
pub record IsPlainMap (cs : List Earlier) (r : ℕ) (s : StampParts) (text : List ℕ) : Type 0 where
  pub list : List (Moved Value)
  pub is_text : text ≡ asof_text r (first_of s) list
  pub rising : AreRising list
  pub values : (n : ℕ) → 1 ≤ r → r ≤ n → (o : ObjectId) → listed_value (moved_at o list) ≡ value_in r (before (idle_run cs n) s) o

-- over whatever past
abbrev pub TellsPlainMap : ℕ → StampParts → List (List Effect) → List ℕ → Type 0
TellsPlainMap r s logs text = (cs : List Earlier) → WereLeft cs r logs → IsPlainMap cs r s text

-- ---- the versions of an object

-- this is a complete volume whose log has the effect
pub record IsHolder (logs : List (List Effect)) (f : Effect) (volume : Option ℕ) : Type 0 where
  pub holder : Complete
  pub among : Has holder (complete logs)
  pub has : Has f holder.log
  pub is : volume ≡ Some holder.volume

-- The text has a line for each version of the object that ever stood, once, in rising order, with how its home decided its attempt and a volume that has it.
pub record IsWholeAudit (cs : List Earlier) (o : ObjectId) (logs : List (List Effect)) (text : List ℕ) : Type 0 where
  pub versions : List Version
  pub lists : ListsAll cs o.repository o versions
  pub state : StampParts → Option Bool
  pub decided : (s : StampParts) (c : Bool) → state s ≡ Some c → WasDecided cs s c
  pub volume : Version → Option ℕ
  pub held : (v : Version) → Has v versions → IsHolder logs (effect.Put v.object v.start v.value) (volume v)
  pub is_text : text ≡ audit_head o ++ flat_map (λ (v : Version). version_line v.start (state v.start.stamp) v.value (volume v)) versions

abbrev pub TellsWholeAudit : ObjectId → List (List Effect) → List ℕ → Type 0
TellsWholeAudit o logs text = (cs : List Earlier) → WereLeft cs o.repository logs → IsWholeAudit cs o logs text

-- ---- what came of a question

-- The line names the undecided version below the mark that stands in the way: of the least object, and of its starts the least.
pub record NamesFirstOpen (at : TimeParts) (m : List Mark) (line : List ℕ) : Type 0 where
  pub object : ObjectId
  pub start : TimeParts
  pub first : IsFirstOpen m at object start
  pub is_line : line ≡ undecided_line object start

-- what is reported is that, over whatever past
abbrev pub IsLawful : Question → List (List Effect) → Outcome → Type 0
IsLawful (AsOf r at) logs (Told text) = TellsPlainMap r at.stamp logs text
IsLawful (Audit o) logs (Told text) = TellsWholeAudit o logs text
IsLawful (AsOf r at) logs (Refused line) = NamesFirstOpen at (newest_first logs) line
IsLawful (Audit o) logs (Refused line) = ⊥
IsLawful q logs (Fallen line) = Unit {0}
IsLawful q logs NoMemory = Unit {0}

-- a question for the map is for it as of the first pseudotime of a stamp
abbrev pub IsOfStamp : Question → Type 0
IsOfStamp (AsOf r at) = at ≡ first_of at.stamp
IsOfStamp (Audit o) = Unit {0}
