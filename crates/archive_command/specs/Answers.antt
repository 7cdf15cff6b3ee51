-- What is asked of a repository's archive, and what comes of it, by its volumes as they were opened.
use Rattle.std.specs.Prelude.{◌≡◌, ◌⊎◌, ℕ, List, [], length, map, reverse, Option, Some, None, Result, Ok, Err}
use Rattle.pseudo_time.specs.Nodes.{repository as named}
use Rattle.pseudo_time.specs.TimeParts.{TimeParts}
use Rattle.pseudo_time.specs.declared.nodes.NodeId.{NodeId}
use Rattle.pseudo_time.specs.declared.down_causes.DownCause.{DownCause}
use Rattle.value_form.specs.declared.objects.ObjectId.{ObjectId}
use Rattle.value_form.specs.declared.values.Value.{Value}
use Rattle.object_history.specs.declared.marks.Mark.{Mark}
use Rattle.medium_port.specs.declared.shelves.MediumName.{MediumName}
use Rattle.commit_watch.specs.declared.moved.Moved.{Moved}
use Rattle.commit_watch.specs.Lists.{AreRising, moved_at}
use Rattle.archive_store.specs.declared.faults.AsOfFault.{AsOfFault}
use Rattle.archive_store.specs.declared.faults.AsOfFault.TheVariants as fault
use Rattle.archive_store.specs.declared.starts.Start.{Start}
use Rattle.archive_store.specs.Joined.{joined}
use Rattle.archive_store.specs.Latest.{entry_of, last_below}
use Rattle.archive_store.specs.Opens.{first_open}
use Rattle.report_writer.specs.Reports.{down_text}
use Rattle.run_volumes.specs.Opening.{Opening}
use Rattle.run_volumes.specs.Media.{Media}
use Rattle.run_volumes.specs.Openings.{medium_in}
use Rattle.run_volumes.specs.Kept.{kept_under}
use Rattle.run_volumes.specs.Shelves.{IsLeft, ShelfSight, first_names}
use Rattle.run_volumes.specs.Standings.{HasShut, WritesNothing}
use Rattle.run_volumes.specs.Volumes.{AreOpen, AreVolumes, logs_of}
use Rattle.run_volumes.specs.declared.kept.Kept.{Kept}
use Rattle.archive_command.specs.declared.questions.Question.{Question}
use Rattle.archive_command.specs.declared.questions.Question.TheVariants.{AsOf, Audit}
use Rattle.archive_command.specs.declared.outcomes.Outcome.{Outcome}
use Rattle.archive_command.specs.declared.outcomes.Outcome.TheVariants.{Told, Refused, Fallen, NoMemory}
use Rattle.archive_command.specs.Archives.{archive_of, volumes_of}
use Rattle.report_writer.specs.Lines.{undecided_line}
use Rattle.archive_command.specs.Lines.{asof_text}
use Rattle.archive_command.specs.Versions.{archive_text}

-- the repository whose archive is asked
abbrev pub asked_of : Question → NodeId
asked_of (AsOf repository at) = named repository
asked_of (Audit object) = named object.repository

-- ---- by the marks of the complete volumes

-- newest first: this version below the mark is undecided, the first by its object, then by its start
pub record IsUndecided (at : TimeParts) (m : List Mark) (line : List ℕ) : Type 0 where
  pub first : Start
  pub is_first : first_open m at ≡ Some first
  pub is_line : line ≡ undecided_line first.object first.start

module _ (repository : ℕ) (at : TimeParts) (m : List Mark) where
  -- no version below the mark is undecided, and of each object the last committed one below it is listed
  pub record IsAsOf (text : List ℕ) : Type 0 where
    pub decided : first_open m at ≡ None
    pub list : List (Moved Value)
    pub rising : AreRising list
    pub values : (o : ObjectId) → moved_at o list ≡ entry_of o (last_below m o at)
    pub is_text : text ≡ asof_text repository at list

  abbrev pub GivesMap : Outcome → Type 0
  GivesMap (Told text) = IsAsOf text
  GivesMap (Refused line) = IsUndecided at m line
  GivesMap (Fallen line) = ⊥
  GivesMap NoMemory = Unit {0}

-- the refusal for this fault, if its line could be made
abbrev pub RefusesFor : AsOfFault → Outcome → Type 0
RefusesFor (fault.Undecided o x) r = (r ≡ NoMemory) ⊎ (r ≡ Refused (undecided_line o x))
RefusesFor fault.NoMemory r = r ≡ NoMemory

module _ (object : ObjectId) (archive : List (List Mark)) (volumes : List ℕ) where
  abbrev pub GivesVersions : Outcome → Type 0
  GivesVersions (Told text) = text ≡ archive_text object archive volumes
  GivesVersions (Refused line) = ⊥
  GivesVersions (Fallen line) = ⊥
  GivesVersions NoMemory = Unit {0}

-- what the archive gives, which has these volumes
abbrev pub Gives : List (List Mark) → List ℕ → Question → Outcome → Type 0
Gives archive volumes (AsOf repository at) r = GivesMap repository at (reverse (joined archive)) r
Gives archive volumes (Audit object) r = GivesVersions object archive volumes r

-- ---- by what came of opening its volumes

module _ {M : Type 0} {g : _} (n : NodeId) (openings : List (Opening M g)) where
  -- the line that says why a volume couldn't be opened
  abbrev pub ShowsDown : List ℕ → Type 0
  ShowsDown line = (cause : DownCause) × HasShut openings cause × (line ≡ down_text (record { node = n; cause = cause }))

module _ {M : Type 0} {g : _} (q : Question) (openings : List (Opening M g)) where
  -- what the complete volumes give, where each volume was opened
  abbrev pub ShowsArchive : Outcome → Type 0
  ShowsArchive r = AreOpen openings × Gives (archive_of (logs_of openings)) (volumes_of (logs_of openings)) q r

  -- what comes of the question
  abbrev pub Answers : Outcome → Type 0
  Answers (Told text) = ShowsArchive (Told text)
  Answers (Refused line) = ShowsArchive (Refused line)
  Answers (Fallen line) = ShowsDown (asked_of q) openings line
  Answers NoMemory = Unit {0}

-- an outcome with a text, if it could be made
abbrev pub IsTold : {E : Type 0} → Result (List ℕ) E → Outcome → Type 0
IsTold (Ok text) r = r ≡ Told text
IsTold (Err e) r = r ≡ NoMemory

abbrev pub IsRefused : {E : Type 0} → Result (List ℕ) E → Outcome → Type 0
IsRefused (Ok line) r = r ≡ Refused line
IsRefused (Err e) r = r ≡ NoMemory

abbrev pub IsFallen : {E : Type 0} → Result (List ℕ) E → Outcome → Type 0
IsFallen (Ok line) r = r ≡ Fallen line
IsFallen (Err e) r = r ≡ NoMemory

-- ---- the whole of it

module _ {M : Type 0} (w : Media M) (old new : ShelfSight) where
  -- Memory ran out before any medium was asked for.
  pub record TookNothing (kept : List (Kept M)) (r : Outcome) : Type 0 where
    pub wanting : r ≡ NoMemory
    pub none : kept ≡ []
    pub unasked : new.asked ≡ old.asked
    pub left : (name : MediumName) → IsLeft w.tells old new name

  -- The repository's volumes were taken and opened, and this came of the question. Nothing is written to them, and they are handed back as they were opened.
  pub record AnswersOver (q : Question) (kept : List (Kept M)) (r : Outcome) : Type 0 where
    pub media : List (Option M)
    pub openings : List (Opening M w)
    pub volumes : AreVolumes w old new (asked_of q) media openings
    pub handed : kept ≡ kept_under (first_names (asked_of q) (length openings)) (map medium_in openings)
    pub keep : WritesNothing w openings (map medium_in openings)
    pub came : Answers q openings r
