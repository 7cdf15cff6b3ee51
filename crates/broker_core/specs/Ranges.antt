-- What a broker keeps of its log is in range, so that what it gives can be stored and sent.
use Rattle.std.specs.Prelude.{◌≢◌, ◌≤◌, ◌<◌, ◌^◌, length, List, Option, Some, None}
use Rattle.broker_ledger.specs.Lists.{Every}
use Rattle.broker_ledger.specs.StampParts.{IsStamp}
use Rattle.broker_ledger.specs.ValueBytes.{IsValue}
use Rattle.broker_ledger.specs.Effect.{Effect}
use Rattle.broker_ledger.specs.Effect.TheVariants as effect
use Rattle.message_form.specs.Ranges.{IsEffect}
use Rattle.broker_ledger.specs.declared.givens.Given.{Given}
use Rattle.broker_ledger.specs.declared.givens.Given.TheVariants as given
use Rattle.broker_ledger.specs.declared.notes.Last.{Last}
use Rattle.broker_ledger.specs.declared.notes.Notes.{Notes}
use Rattle.broker_ledger.specs.Ledgers.{AreBrokerActs, LedgerParts, kept}

-- an answer to a read has bytes
abbrev pub GivenInRange : Given → Type 0
GivenInRange (given.Got v) = IsValue v
GivenInRange given.Stored = Unit {0}

-- the stamp of the last try is in range
abbrev pub HasStamp : Option Last → Type 0
HasStamp None = Unit {0}
HasStamp (Some l) = IsStamp l.stamp

-- a message adds an answer of the open try, or its end
abbrev pub IsHeard : Effect → Type 0
IsHeard (effect.Got k v) = Unit {0}
IsHeard (effect.Acked k) = Unit {0}
IsHeard (effect.End i o) = Unit {0}
IsHeard _ = ⊥

-- the effect that a message adds, if there is one, has bytes
abbrev pub FirstInRange : Option Effect → Type 0
FirstInRange None = Unit {0}
FirstInRange (Some f) = IsEffect f × IsHeard f

-- a try is one of an act that was begun, no clock was shown that is no clock, and the last try's stamp and answers are in range
pub record AreInRange (n : Notes) (answers : List Given) : Type 0 where
  pub begun : n.tries ≢ 0 → n.started ≢ 0
  pub shown : n.shown ≤ 1099511627775
  pub stamp : HasStamp n.last
  pub answers_fit : Every GivenInRange (kept n answers)

-- the ledger of a broker of 1 to 16 in a run of a plan, with what is kept in range
pub record Ranged (l : LedgerParts) : Type 0 where
  pub are_acts : AreBrokerActs l.acts
  pub number_low : 1 ≤ l.number
  pub number_high : l.number ≤ 16
  pub run_low : 1 ≤ l.run
  pub run_high : l.run < 2 ^ 32
  pub started : l.notes.started ≤ length l.acts
  pub clock : l.notes.clock ≤ 1099511627775
  pub in_range : AreInRange l.notes l.answers
