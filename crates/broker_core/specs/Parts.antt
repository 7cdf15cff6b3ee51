-- A broker, as its callers see it, and what it keeps of its log.
use Rattle.std.specs.Prelude.{◌≡◌, ◌≤◌, ℕ, List, reverse}
use Rattle.broker_ledger.specs.ActSpec.{ActSpec}
use Rattle.broker_ledger.specs.Effect.{Effect}
use Rattle.broker_ledger.specs.Questions.{Tree}
use Rattle.broker_ledger.specs.declared.givens.Given.{Given}
use Rattle.broker_ledger.specs.declared.heards.Heard.{Heard}
use Rattle.broker_ledger.specs.declared.notes.Notes.{Notes}
use Rattle.broker_core.specs.declared.phases.Phase.{Phase}
use Rattle.broker_ledger.specs.Tasks.{Scripted, tasks}
use Rattle.broker_ledger.specs.Book.{Book, book}
use Rattle.broker_ledger.specs.Fits.{keep}
use Rattle.broker_ledger.specs.Heards.{nothing_heard}
use Rattle.broker_ledger.specs.Notes.{Shows}
use Rattle.broker_core.specs.Phases.{phase_at}
use Rattle.broker_ledger.specs.Ledgers.{LedgerParts, kept}
use Rattle.broker_core.specs.Ranges.{Ranged}

-- its number, the run and the acts that the plan gives it, its log, oldest effect first, and what it heard
pub record BrokerParts : Type 0 where
  pub number : ℕ
  pub run : ℕ
  pub acts : List ActSpec
  pub log : List Effect
  pub heard : Heard

-- just opened
abbrev pub opened_broker : ℕ → ℕ → List ActSpec → List Effect → BrokerParts
opened_broker number run acts log = record { number = number; run = run; acts = acts; log = log; heard = nothing_heard }

abbrev pub parts_of : LedgerParts → Heard → List Effect → BrokerParts
parts_of l h log = record { number = l.number; run = l.run; acts = l.acts; log = log; heard = h }

module _ (script : List ℕ → Tree) where
  -- the book of the part of its log that counts for the broker in its run
  abbrev pub book_of : BrokerParts → Book
  book_of b = book (keep script b.number b.run (tasks b.acts) (reverse b.log))

  -- these notes, with the answers of the last try, are those of its log, in which no later run stands
  pub record IsLedTo (b : BrokerParts) (n : Notes) (answers : List Given) : Type 0 where
    pub shows : Shows b.run n answers (book_of b)
    pub not_old : (book_of b).run ≤ b.run

-- The stage is that of the last try, what is kept is in range, and it is what the log has led to, whatever reads the scripts of the acts.
pub record IsBroker (l : LedgerParts) (h : Heard) (p : Phase) (log : List Effect) : Type 0 where
  pub phase_is : p ≡ phase_at l.acts l.run l.notes (kept l.notes l.answers) h
  pub ranged : Ranged l
  pub led : (script : List ℕ → Tree) → Scripted script l.acts → IsLedTo script (parts_of l h log) l.notes (kept l.notes l.answers)
