-- What the archives of all repositories give as of one mark. The joined marks of each stand oldest first, those of repository 1 at the front.
use Rattle.std.specs.Prelude.{◌≡◌, ◌⊎◌, ◌<◌, ◌≤◌, ◌+◌, ℕ, nat_lt, List, [], ◌∷◌, length, get_or, if◌then◌else◌, Option, Some, None}
use Rattle.pseudo_time.specs.TimeParts.{TimeParts}
use Rattle.value_form.specs.declared.objects.ObjectId.{ObjectId}
use Rattle.value_form.specs.declared.values.Value.{Value}
use Rattle.object_history.specs.declared.marks.Mark.{Mark}
use Rattle.commit_watch.specs.declared.moved.Moved.{Moved}
use Rattle.commit_watch.specs.Lists.{AreRising, moved_at}
use Rattle.archive_store.specs.declared.faults.AsOfFault.{AsOfFault}
use Rattle.archive_store.specs.declared.faults.AsOfFault.TheVariants as fault
use Rattle.archive_store.specs.declared.starts.Start.{Start}
use Rattle.archive_store.specs.Clocks.{top_of_all}
use Rattle.archive_store.specs.Homes.{informed}
use Rattle.archive_store.specs.Latest.{entry_of, last_below}
use Rattle.archive_store.specs.Opens.{first_open}
use Rattle.report_writer.specs.Lines.{undecided_line}
use Rattle.watch_command.specs.Outcome.{Outcome}
use Rattle.watch_command.specs.Outcome.TheVariants.{Told, Refused, Fallen, NoMemory}
use Rattle.snapshot_command.specs.Texts.{last_clock_line, snapshot_text}

-- ---- the mark

-- the mark at a clock: the first pseudotime of the stamp with it that broker 1 and repository 1 have
abbrev pub mark_at : ℕ → TimeParts
mark_at clock = record { stamp = record { clock = clock; broker = 1; home = 1 }; step = 1 }

-- the clock that is asked for, or else the one above all archives, where one is
abbrev pub clock_for : Option ℕ → List (List Mark) → Option ℕ
clock_for (Some clock) joined = Some clock
clock_for None joined = if nat_lt (top_of_all joined) 1099511627775 then Some (top_of_all joined + 1) else None

-- ---- the map

-- the list of this repository, among those from repository 1 on
abbrev pub list_of : {A : Type 0} → List (List A) → ℕ → List A
list_of lists r = get_or ([] ∷ lists) r []

module _ (joined : List (List Mark)) (at : TimeParts) where
  -- Of the repository no version below the mark is undecided, by its archive and the homes, and of each object the last committed one below it is listed.
  pub record IsPart (r : ℕ) (list : List (Moved Value)) : Type 0 where
    pub decided : first_open (informed joined r) at ≡ None
    pub rising : AreRising list
    pub values : (o : ObjectId) → moved_at o list ≡ entry_of o (last_below (informed joined r) o at)

  -- so it is of each of the first repositories, as many as there are lists
  abbrev pub AreParts : List (List (Moved Value)) → Type 0
  AreParts lists = (r : ℕ) → 1 ≤ r → r ≤ length lists → IsPart r (list_of lists r)

  -- the text has the list of each repository
  pub record IsSnapshot (text : List ℕ) : Type 0 where
    pub lists : List (List (Moved Value))
    pub count : length lists ≡ length joined
    pub parts : AreParts lists
    pub is_text : text ≡ snapshot_text at lists

  -- Of a repository this version below the mark is undecided, by its archive and the homes: the first by its object, then by its start. Of those before none is.
  pub record IsFirstOpen (s : Start) : Type 0 where
    pub repository : ℕ
    pub low : 1 ≤ repository
    pub high : repository ≤ length joined
    pub before : (r : ℕ) → 1 ≤ r → r < repository → first_open (informed joined r) at ≡ None
    pub is_first : first_open (informed joined repository) at ≡ Some s

  -- why there is no text: memory ran out, or a version is undecided
  abbrev pub IsRefusal : AsOfFault → Type 0
  IsRefusal e = (e ≡ fault.NoMemory) ⊎ ((s : Start) × IsFirstOpen s × (e ≡ fault.Undecided s.object s.start))

-- ---- what comes of it

-- as of this clock
abbrev pub GivesAt : List (List Mark) → Option ℕ → Outcome → Type 0
GivesAt joined (Some clock) (Told text) = IsSnapshot joined (mark_at clock) text
GivesAt joined (Some clock) (Refused line) = (s : Start) × IsFirstOpen joined (mark_at clock) s × (line ≡ undecided_line s.object s.start)
GivesAt joined (Some clock) (Fallen line) = ⊥
GivesAt joined (Some clock) NoMemory = Unit {0}
GivesAt joined None (Told text) = ⊥
GivesAt joined None (Refused line) = line ≡ last_clock_line
GivesAt joined None (Fallen line) = ⊥
GivesAt joined None NoMemory = Unit {0}

-- as of the clock that is asked for
abbrev pub Gives : Option ℕ → List (List Mark) → Outcome → Type 0
Gives clock joined r = GivesAt joined (clock_for clock joined) r
