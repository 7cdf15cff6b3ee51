-- The promise of the laboratory.
use Rattle.std.specs.Prelude.{◌≡◌, ◌⊎◌, ℕ, true, ◌==◌, List, [], ◌∷◌, ◌++◌, Some, replicate, codes}
use Rattle.std.specs.List.{All, slice_split}
use Rattle.std.specs.String.{string_bytes}
use Rattle.medium_port.specs.MemoryMedia.{pages_of, reads_of, leaves, failed_in, faults_in, last_of, stages_of}
use Rattle.medium_port.specs.MemoryShelves.{TakenFrom, asked_for, image_under, LeftUnder, faults_under, shelf_faults}
use Rattle.medium_port.specs.declared.memory_media.MemoryMedium.{MemoryMedium}
use Rattle.medium_port.specs.declared.memory_shelves.MemoryShelf.{MemoryShelf}
use Rattle.swallow_top.specs.Stories.{no_trace}
use Rattle.swallow_top.specs.Media.{Media}
use Rattle.swallow_top.specs.Finishes.{account_of, tellers}
use Rattle.swallow_top.specs.Promise.{Call, Promise}
use Rattle.run_volumes.specs.Shelves.{ShelfSight}
use Rattle.run_command.specs.Written.{Sinking, GotLine}
use Rattle.laboratory.specs.declared.options.Lab.{Lab}
use Rattle.laboratory.specs.Fates.{asked_of, divisor_of}
use Rattle.laboratory.specs.Losses.{IsFated}
use Rattle.laboratory.specs.Options.{AreFor, AreRefused}
use Rattle.laboratory.specs.Runs.{LabRun}
use Rattle.laboratory.specs.Shelves.{IsLabShelf}

-- the line that refuses the laboratory's own words
abbrev pub words_line : List ℕ
words_line = codes "swallow_lab: words" ++ 10 ∷ []

-- a text cut at each space
abbrev pub cut : List ℕ → List (List ℕ)
cut text = slice_split (λ b. b == 32) text

abbrev pub memory_media : Media MemoryMedium
memory_media = record {
  tells = true;
  page_count = pages_of;
  is_failed = failed_in;
  last_page = last_of;
  faults = faults_in;
  reads = reads_of;
  may_leave = leaves;
  stages = stages_of;
}

abbrev pub sight_of : MemoryShelf → ShelfSight
sight_of s = record { holds = image_under s; may_hold = LeftUnder s; medium_faults = faults_under s; is_taken = TakenFrom s; asked = asked_for s; faults = shelf_faults s }

-- the sink got nothing
abbrev pub IsUnwritten : Sinking → Type 0
IsUnwritten s = (s.taken ≡ s.taken_before) × (s.faults ≡ s.faults_before)

module _ (r : LabRun) where
  -- nothing was read, asked or run
  pub record RanNothing (status : ℕ) : Type 0 where
    pub status_is : r.status ≡ status
    pub trace : r.trace ≡ no_trace
    pub media : r.media ≡ []
    pub fates : (asked_of r.fates) ≡ []
    pub clock : r.clock ≡ record { moment = 0; calls = 0 }
    pub votes : r.votes ≡ no_trace
    pub input : (r.left ≡ r.input) × (r.faults ≡ r.faults_before)

  -- the call of the top call that was made: with the words of the text, over a shelf that was the first and is the second
  abbrev pub call_made : Lab → (before after : MemoryShelf) → Call MemoryMedium
  call_made lab before after = record {
    words = cut (string_bytes lab.text);
    status = r.status;
    input = r.input;
    left = r.left;
    faults_before = r.faults_before;
    faults = r.faults;
    sink = r.sink;
    media_are = memory_media;
    shelf_before = sight_of before;
    shelf = sight_of after;
    told = account_of r.trace (tellers [] (asked_of r.fates) (Some []) (Some (replicate r.clock.calls r.clock.moment)));
    media = r.media;
    votes = r.votes;
  }

  -- The top call was called over blank media, and keeps its promise. Messages were lost as was said, and the clock stood at 0.
  pub record RanAs (lab : Lab) : Type 0 where
    pub before : MemoryShelf
    pub after : MemoryShelf
    pub shelf : IsLabShelf lab before
    pub promise : Promise (call_made lab before after)
    pub lose : divisor_of r.fates ≡ lab.lose
    pub fates : All (IsFated lab.lose) (asked_of r.fates)
    pub clock : r.clock.moment ≡ 0

  -- memory ran out before anything was done
  abbrev pub IsStarved : Type 0
  IsStarved = RanNothing 7 × IsUnwritten r.sink

  -- that, or it ran
  abbrev pub MayHaveRun : Lab → Type 0
  MayHaveRun lab = IsStarved ⊎ RanAs lab

  -- The words are refused, and the sink got the line that says so; or memory ran out before anything was done; or so it ran as they say.
  abbrev pub LabPromise : List (List ℕ) → Type 0
  LabPromise words = (AreRefused words × RanNothing 1 × GotLine r.sink words_line)
      ⊎ (IsStarved ⊎ ((lab : Lab) × AreFor words lab × RanAs lab))
