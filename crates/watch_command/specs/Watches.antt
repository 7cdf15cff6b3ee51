-- What comes of a watch of a repository, over its volumes and that of its totals.
use Rattle.std.specs.Prelude.{◌≡◌, ◌⊎◌, ℕ, ℤ, ◌<◌, IsTrue, List, [], ◌∷◌, ◌++◌, length, map, Option, Some, None, Ok}
use Rattle.std.specs.List.{AllZip}
use Rattle.pseudo_time.specs.TimeParts.{TimeParts}
use Rattle.pseudo_time.specs.Nodes.{repository as named}
use Rattle.pseudo_time.specs.declared.nodes.NodeKind.TheVariants.{Repository}
use Rattle.pseudo_time.specs.declared.down_causes.DownCause.{DownCause}
use Rattle.pseudo_time.specs.declared.down_causes.DownCause.TheVariants as down
use Rattle.stream_port.specs.Causes.{Rose}
use Rattle.value_form.specs.declared.objects.ObjectId.{ObjectId}
use Rattle.effect_form.specs.declared.effects.Effect.{Effect}
use Rattle.effect_form.specs.Effects.{AreEffects}
use Rattle.object_history.specs.declared.marks.Mark.{Mark}
use Rattle.medium_port.specs.Image.{Image}
use Rattle.version_store.specs.declared.stores.Store.{Store}
use Rattle.version_store.specs.Filling.{HasPrefix, filling}
use Rattle.version_store.specs.Storage.{storage}
use Rattle.version_store.specs.StoreWords.{left_in, medium_of}
use Rattle.commit_watch.specs.declared.faults.WatchFault.{WatchFault}
use Rattle.commit_watch.specs.declared.faults.WatchFault.TheVariants as fault
use Rattle.commit_watch.specs.declared.moved.Moved.{Moved}
use Rattle.commit_watch.specs.Refusals.{IsRefusal}
use Rattle.run_volumes.specs.Opening.{Opening}
use Rattle.run_volumes.specs.Opening.TheVariants.{Open, Shut, Wanting}
use Rattle.run_volumes.specs.Media.{Media}
use Rattle.run_volumes.specs.Openings.{HasOpened, medium_in}
use Rattle.run_volumes.specs.Kept.{kept_as, kept_under}
use Rattle.run_volumes.specs.Shelves.{ShelfSight, TakesOne, WereTaken, first_names, volume_name}
use Rattle.run_volumes.specs.Standings.{WritesNothing}
use Rattle.run_volumes.specs.Volumes.{AreOpen, AreVolumes, EndRightly, logs_of}
use Rattle.run_volumes.specs.declared.kept.Kept.{Kept}
use Rattle.archive_command.specs.declared.outcomes.Outcome.{Outcome}
use Rattle.archive_command.specs.declared.outcomes.Outcome.TheVariants.{Told, Refused, Fallen, NoMemory}
use Rattle.archive_command.specs.Answers.{ShowsDown}
use Rattle.archive_command.specs.Archives.{newest_first}
use Rattle.command_words.specs.declared.rules.Rule.{Rule}
use Rattle.watch_command.specs.Lines.{down_watch_line, overflow_line, watch_text}
use Rattle.watch_command.specs.Totals.{AreTotals, new_puts, outcome_of, totals_volume}

-- ---- over the marks of the repository's archive, newest first, and the log of its totals

module _ (repository : ℕ) (rule : Rule) (m : List Mark) (log : List Effect) where
  -- these are the totals now, what is written of them, and the text that tells them
  pub record IsReady (puts : List Effect) (text : List ℕ) : Type 0 where
    pub list : List (Moved ℤ)
    pub totals : AreTotals rule m log list
    pub puts_are : puts ≡ new_puts log list
    pub in_range : AreEffects puts
    pub is_text : text ≡ watch_text repository rule list

  -- a total of the least object that has none now, and the version at which it has none
  pub record IsOverflow (line : List ℕ) : Type 0 where
    pub object : ObjectId
    pub start : TimeParts
    pub refused : IsRefusal (outcome_of rule m log) (fault.Overflow object start)
    pub is_line : line ≡ overflow_line object start

  -- why nothing is written, where nothing is
  abbrev pub Stops : Outcome → Type 0
  Stops (Told text) = ⊥
  Stops (Refused line) = IsOverflow line
  Stops (Fallen line) = ⊥
  Stops NoMemory = Unit {0}

-- why the totals don't go on, where the archive has no floor
abbrev pub IsPlain : WatchFault → Type 0
IsPlain (fault.Retired o e) = ⊥
IsPlain (fault.Overflow o x) = Unit {0}
IsPlain fault.NoMemory = Unit {0}

abbrev pub RefusesFor : WatchFault → Outcome → Type 0
RefusesFor (fault.Retired o e) r = ⊥
RefusesFor (fault.Overflow o x) r = (r ≡ NoMemory) ⊎ (r ≡ Refused (overflow_line o x))
RefusesFor fault.NoMemory r = r ≡ NoMemory

-- ---- what is written into the volume of totals

-- why it doesn't take these effects: its medium failed, or they need more pages than are blank
abbrev pub StopsFor : {M : Type 0} (w : Media M) {g : _} → List Effect → Store M g → DownCause → M → Type 0
StopsFor w effects store down.Medium new = Rose (w.faults (medium_of store)) (w.faults new)
StopsFor w effects store (down.Damaged page) new = ⊥
StopsFor w effects store (down.Full pages) new = (pages ≡ w.page_count (medium_of store)) × (left_in store < length (filling effects))

-- whatever a crash leaves of the medium, it holds this log
abbrev pub Holds : {M : Type 0} (w : Media M) → List Effect → M → Type 0
Holds w log m = IsTrue w.tells → (c : Image) → w.may_leave m c → storage c ≡ Ok log

module _ {M : Type 0} (w : Media M) {g : _} (repository : ℕ) (log puts : List Effect) (store : Store M g) (text : List ℕ) where
  -- the log stands there with the first of the puts
  abbrev pub HasFront : M → Type 0
  HasFront new = IsTrue w.tells → (c : Image) → w.may_leave new c → HasPrefix log puts c

  -- a medium that stopped it, for a cause
  pub record IsCutOff (new : M) (line : List ℕ) : Type 0 where
    pub front : HasFront new
    pub cause : DownCause
    pub why : StopsFor w puts store cause new
    pub is_line : line ≡ down_watch_line repository cause

  -- what became of the puts
  abbrev pub Adds : Outcome → M → Type 0
  Adds (Told told) new = (told ≡ text) × Holds w (log ++ puts) new
  Adds (Refused line) new = ⊥
  Adds (Fallen line) new = IsCutOff new line
  Adds NoMemory new = HasFront new

-- a fault stops it, with a line if that could be made
abbrev pub CutsOff : ℕ → Option DownCause → Outcome → Type 0
CutsOff repository None r = r ≡ NoMemory
CutsOff repository (Some cause) r = (r ≡ NoMemory) ⊎ (r ≡ Fallen (down_watch_line repository cause))

module _ {M : Type 0} (w : Media M) {g : _} (repository : ℕ) (rule : Rule) (m : List Mark) where
  module _ (log : List Effect) (store : Store M g) where
    -- nothing was written: it is as it was opened, and whatever a crash leaves of it holds the log
    abbrev pub IsUnwritten : M → Type 0
    IsUnwritten new = (new ≡ medium_of store) × Holds w log new

    -- the totals are written and told
    pub record IsWatched (new : M) (text : List ℕ) : Type 0 where
      pub puts : List Effect
      pub ready : IsReady repository rule m log puts text
      pub holds : Holds w (log ++ puts) new

    -- the volume of totals stopped the writing, and each total is the old one or the new one
    pub record IsStopped (new : M) (line : List ℕ) : Type 0 where
      pub puts : List Effect
      pub text : List ℕ
      pub ready : IsReady repository rule m log puts text
      pub cut : IsCutOff w repository log puts store text new line

    -- memory ran out for the line of a medium that stopped it
    pub record IsUntold (new : M) : Type 0 where
      pub puts : List Effect
      pub text : List ℕ
      pub ready : IsReady repository rule m log puts text
      pub front : HasFront w repository log puts store text new

    -- what comes of a volume of totals that was opened with this log
    abbrev pub ComesOf : Outcome → M → Type 0
    ComesOf (Told text) new = IsWatched new text
    ComesOf (Refused line) new = IsOverflow repository rule m log line × IsUnwritten new
    ComesOf (Fallen line) new = IsStopped new line
    ComesOf NoMemory new = IsUnwritten new ⊎ IsUntold new

    abbrev pub ComesToMedium : Outcome → Option M → Type 0
    ComesToMedium r None = ⊥
    ComesToMedium r (Some new) = ComesOf r new

  -- what comes of it, by what came of opening the volume of totals
  abbrev pub ComesTo : Opening M g → Outcome → Option M → Type 0
  ComesTo (Open store effects) r new = ComesToMedium effects.items store r new
  ComesTo (Shut medium cause) r new = (new ≡ medium) × ((r ≡ NoMemory) ⊎ (r ≡ Fallen (down_watch_line repository cause)))
  ComesTo (Wanting medium) r new = (new ≡ Some medium) × (r ≡ NoMemory)

-- ---- the whole of it

module _ {M : Type 0} {g : _} (repository : ℕ) (openings : List (Opening M g)) where
  -- why the volume of totals isn't asked for: a volume couldn't be opened, or memory ran out
  abbrev pub Keeps : Outcome → Type 0
  Keeps (Told text) = ⊥
  Keeps (Refused line) = ⊥
  Keeps (Fallen line) = ShowsDown (named repository) openings line
  Keeps NoMemory = Unit {0}

module _ {M : Type 0} (w : Media M) (old new : ShelfSight) (repository : ℕ) (rule : Rule) where
  -- the volume of totals was taken and opened, and this came of it over these marks
  pub record TotalsOver (m : List Mark) (r : Outcome) (left : Option M) : Type 0 where
    pub taken : Option M
    pub takes : TakesOne w old new (volume_name (named repository) (totals_volume rule)) taken
    pub opening : Opening M w
    pub has : HasOpened w taken opening
    pub came : ComesTo w repository rule m opening r left

  -- Only the repository's volumes were taken, and nothing was written to them. They are handed back.
  pub record StopsBefore (kept : List (Kept M)) (r : Outcome) : Type 0 where
    pub media : List (Option M)
    pub openings : List (Opening M w)
    pub volumes : AreVolumes w old new (named repository) media openings
    pub handed : kept ≡ kept_under (first_names (named repository) (length openings)) (map medium_in openings)
    pub keep : WritesNothing w openings (map medium_in openings)
    pub came : Keeps repository openings r

  -- The repository's volumes were taken and opened, and then that of its totals, and this came of it. Nothing is written to the repository's volumes. All are handed back.
  pub record WatchesOver (kept : List (Kept M)) (r : Outcome) : Type 0 where
    pub media : List (Option M)
    pub taken : Option M
    pub are : WereTaken w old new (first_names (named repository) (length media) ++ volume_name (named repository) (totals_volume rule) ∷ []) (media ++ taken ∷ [])
    pub openings : List (Opening M w)
    pub volumes : AllZip (HasOpened w) media openings
    pub ends : EndRightly Repository openings
    pub opened : AreOpen openings
    pub keep : WritesNothing w openings (map medium_in openings)
    pub opening : Opening M w
    pub has : HasOpened w taken opening
    pub left : Option M
    pub came : ComesTo w repository rule (newest_first (logs_of openings)) opening r left
    pub handed : kept ≡ kept_under (first_names (named repository) (length openings)) (map medium_in openings)
        ++ kept_as (volume_name (named repository) (totals_volume rule)) left
