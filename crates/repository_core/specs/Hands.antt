-- What a repository remembers beside its log, and its turn in hand.
use Rattle.std.specs.Prelude.{◌≡◌, ℕ, List}
use Rattle.pseudo_time.specs.TimeParts.{TimeParts}
use Rattle.repository_draft.specs.declared.waits.HeldRead.{HeldRead}
use Rattle.repository_draft.specs.declared.waits.Asker.{Asker}
pub use Rattle.repository_draft.specs.Hands.{Hand, asker_cmp, note, now, send}

-- What a repository remembers beside its log, and loses in a crash. `held` are the reads that wait for a decision, by
-- their pseudotimes, in rising order; `askers` are the repositories that are to be informed of a decision, in the order of
-- their numbers; `moment` is the last moment that it heard, or the run's start.
pub record Mind : Type 0 where
  pub held : List (TimeParts × HeldRead)
  pub askers : List Asker
  pub moment : ℕ

-- the repository is the same, and so is its log as the turn began
abbrev pub HasSameLog : Hand → Hand → Type 0
HasSameLog old new = (new.number ≡ old.number) × (new.past ≡ old.past)
