-- What the calls of a broker give.
use Rattle.std.specs.Prelude.{◌≡◌, ℕ, List, ◌++◌, Bool, true, Option, Some, None, Result, Ok, Err, reverse}
use Rattle.broker_ledger.specs.ActSpec.{ActSpec}
use Rattle.broker_ledger.specs.Effect.{Effect}
use Rattle.broker_ledger.specs.Effect.TheVariants as effect
use Rattle.message_form.specs.declared.turns.Turn.{Turn}
use Rattle.broker_ledger.specs.Questions.{Tree}
use Rattle.broker_ledger.specs.declared.heards.Heard.{Heard}
use Rattle.broker_ledger.specs.declared.resume_faults.ResumeFault.{ResumeFault}
use Rattle.broker_ledger.specs.declared.resume_faults.ResumeFault.TheVariants as fault
use Rattle.broker_ledger.specs.Tasks.{tasks}
use Rattle.broker_ledger.specs.Fits.{fits, resume_fault}
use Rattle.broker_core.specs.Owed.{done}
use Rattle.broker_core.specs.Turns.{Desk, Input, desk_at, desk_turn, note, hears, say, settle_up, fuel}
pub use Rattle.broker_core.specs.Parts.{BrokerParts, opened_broker, book_of}

-- the turn has the effects and the messages of the desk, and the broker resumes from there
pub record Gives (desk : Desk) (turn : Turn) (old new : BrokerParts) : Type 0 where
  pub effects : turn.effects ≡ reverse desk.added
  pub outs : turn.outs ≡ desk.outs
  pub broker : new ≡ record old { log = old.log ++ turn.effects; heard = desk.heard }

-- the effect begins no run
abbrev pub NoRun : Effect → Type 0
NoRun (effect.Run n) = ⊥
NoRun _ = Unit {0}

module _ (script : List ℕ → Tree) where
  -- what the rules give for an input
  abbrev pub turn_of : BrokerParts → Input → Desk
  turn_of b input = desk_turn script b.number b.run (tasks b.acts) (desk_at (reverse b.log) b.heard) input

  -- whether the rules say that the broker is done
  abbrev pub is_done : BrokerParts → Bool
  is_done b = done script b.run (tasks b.acts) (book_of script b) b.heard

  -- what opening a log, oldest effect first, comes to
  abbrev pub Opens : ℕ → ℕ → List ActSpec → List Effect → Result BrokerParts ResumeFault → Type 0
  Opens number run acts log (Ok b) = resume_fault script number run (tasks acts) (reverse log) ≡ None
  Opens number run acts log (Err fault.NoMemory) = Unit {0}
  Opens number run acts log (Err (fault.OldRun n)) = resume_fault script number run (tasks acts) (reverse log) ≡ Some (fault.OldRun n)
  Opens number run acts log (Err (fault.OtherPlan i)) = resume_fault script number run (tasks acts) (reverse log) ≡ Some (fault.OtherPlan i)

  -- ---- a turn that begins with an effect, or with none

  abbrev pub with_first : Option Effect → Desk → Desk
  with_first None d = d
  with_first (Some f) d = note f d

  -- what follows once this was heard
  abbrev pub follows : BrokerParts → Option Effect → Heard → Desk
  follows b first h =
      say script b.number b.run (tasks b.acts) (settle_up script b.number b.run (tasks b.acts) (fuel (tasks b.acts)) (with_first first (hears h (desk_at (reverse b.log) b.heard))))

  -- the effect fits, in this run, and begins no run
  abbrev pub FirstFits : BrokerParts → Option Effect → Type 0
  FirstFits b None = Unit {0}
  FirstFits b (Some f) = NoRun f × ((book_of script b).run ≡ b.run) × (fits script b.number (tasks b.acts) (book_of script b) f ≡ true)
