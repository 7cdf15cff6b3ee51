-- What counts of a broker's log in its run, also of a log that no calls could have left. Logs stand newest first.
use Rattle.std.specs.Prelude.{ℕ, ◌==◌, Bool, false, List, [], ◌∷◌, if◌then◌else◌}
use Rattle.effect_form.specs.declared.effects.Effect.{Effect}
use Rattle.serial_model.specs.Questions.{Tree}
use Rattle.broker_ledger.specs.Tasks.{Task}
use Rattle.broker_ledger.specs.Book.{Book, Try, book, tries_of}
use Rattle.broker_ledger.specs.Fits.{fits, keep}

-- `me` is the broker's number, and the acts are those that the plan gives it
module _ (script : List ℕ → Tree) (me run : ℕ) (acts : List Task) where
  -- the book of what counts
  abbrev pub counted : List Effect → Book
  counted log = book (keep script me run acts log)

  -- the tries in it of the run that began last, newest first, with their answers
  abbrev pub own_tries : List Effect → List Try
  own_tries log = tries_of (counted log).acts

  -- the effect is of this run, and fits what counts of the log before it
  abbrev pub counts_now : Book → Effect → Bool
  counts_now b f = if b.run == run then fits script me acts b f else false

  -- which effects of the log do so
  unfoldable pub counting : List Effect → List Bool
  counting [] = []
  counting (f ∷ log) = counts_now (counted log) f ∷ counting log
