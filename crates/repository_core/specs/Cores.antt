-- A repository's core, as callers see it.
use Rattle.std.specs.Prelude.{◌≡◌, ℕ, Bool, IsTrue, List, ◌++◌, Result, IfOk, OnOk, IfErr, is_err}
use Rattle.repository_draft.specs.Effect.{Effect}
use Rattle.repository_draft.specs.Mark.{Mark}
use Rattle.repository_draft.specs.HistoryFault.{HistoryFault}
use Rattle.repository_draft.specs.Causes.{HasHistoryCause, IsNotDamage}
use Rattle.repository_draft.specs.Turn.{Turn}
use Rattle.repository_draft.specs.TurnRanges.{AreEffects, AreOuts}
use Rattle.repository_core.specs.Hands.{Mind}
pub use Rattle.repository_log.specs.Logs.{HasMarks}
use Rattle.repository_core.specs.Calls.{Begins}
use Rattle.repository_core.specs.Turns.{Input, Given, gives}

-- What a core is without its histories: the repository's number, its log, oldest first, what it remembers, and whether a call
-- has failed.
pub record CoreState : Type 0 where
  pub number : ℕ
  pub log : List Effect
  pub mind : Mind
  pub is_failed : Bool

-- a core, with its histories
pub record Core (H : Type 0) : Type 0 where
  pub number : ℕ
  pub log : List Effect
  pub mind : Mind
  pub is_failed : Bool
  pub histories : H

-- what a call gave, with what the core then remembers
abbrev pub given : Turn → Mind → Given
given t mind = record { effects = t.effects; outs = t.outs; mind = mind }

-- the turn, and what the core then remembers, are those of the rules
abbrev pub IsByRules : {H E : Type 0} → Input → Core H → Core H → Result Turn E → Type 0
IsByRules input old new result = IfOk result (λ t. given t new.mind ≡ gives old.number old.log old.mind input)

-- What each call leaves. Where it gave a turn, the log grew by its effects, all of it is in range, and the histories have the
-- marks of the log; else the core has failed. The histories went on from what they were, what lies below them stayed,
-- and a fault has its cause in this call; histories that tell have no damage.
pub record IsCalled {H B : Type 0} (tells : Bool) (content : H → List Mark) (below : H → B) (faults damage : H → ℕ) (old new : Core H) (result : Result Turn HistoryFault) : Type 0 where
  pub log : IfOk result (λ t. new.log ≡ old.log ++ t.effects)
  pub in_range : IfOk result (λ t. AreEffects t.effects × AreOuts t.outs)
  pub number : OnOk result (new.number ≡ old.number)
  pub marks : OnOk result (HasMarks (content new.histories) new.log)
  pub failed : new.is_failed ≡ is_err result
  pub begins : Begins (content old.histories) (content new.histories)
  pub stays : below new.histories ≡ below old.histories
  pub cause : HasHistoryCause (faults old.histories) (faults new.histories) (damage old.histories) (damage new.histories) result
  pub sound : IsTrue tells → IfErr result IsNotDamage
