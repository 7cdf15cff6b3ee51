-- The acts of a book are those of the plan.
use Rattle.std.specs.Prelude.{◌≡◌, ℕ, List, [], ◌∷◌, Some, length, slice_get}
use Rattle.pseudo_time.specs.Lists.{Every}
use Rattle.broker_ledger.specs.Tasks.{Task}
use Rattle.broker_ledger.specs.Book.{Try, Act, Book}

-- each act of the run is the plan's in its place
abbrev pub Started : List Task → List Act → Type 0
Started plan [] = Unit {0}
Started plan (a ∷ done) = Started plan done × (slice_get plan (length done) ≡ Some a.task)

-- the tries of an act are of its run, and of what its effect says
abbrev pub OfAct : Act → Type 0
OfAct a = Every (λ (t : Try). (t.task ≡ a.task) × (t.run ≡ a.run)) a.tries

-- in a book of this run both hold
pub record Sound (run : ℕ) (plan : List Task) (b : Book) : Type 0 where
  pub started : b.run ≡ run → Started plan b.acts
  pub of_acts : b.run ≡ run → Every OfAct b.acts
