-- What an input leads to, from the notes.
use Rattle.std.specs.Prelude.{ℕ, ◌==◌, ◌&&◌, nat_lt, Bool, length, List, [], ◌∷◌, Option, Some, None, if◌then◌else◌}
use Rattle.broker_ledger.specs.ActSpec.{ActSpec}
use Rattle.broker_ledger.specs.declared.resume_faults.ResumeFault.{ResumeFault}
use Rattle.broker_ledger.specs.declared.resume_faults.ResumeFault.TheVariants as fault
use Rattle.broker_ledger.specs.Fits.{plan_fault}
use Rattle.broker_ledger.specs.Notes.{act_at, most_of, over_at}
use Rattle.broker_ledger.specs.Effect.{Effect}
use Rattle.message_form.specs.declared.turns.Out.{Out}
use Rattle.broker_ledger.specs.declared.givens.Given.{Given}
use Rattle.broker_ledger.specs.declared.heards.Heard.{Heard}
use Rattle.broker_ledger.specs.declared.notes.Notes.{Notes}
use Rattle.broker_core.specs.declared.phases.Phase.{Phase}
use Rattle.broker_core.specs.Phases.{phase_at}
use Rattle.broker_ledger.specs.Ledgers.{LedgerParts, MayAdd, kept}
use Rattle.broker_core.specs.Settling.{Settled, settled, most_steps}
use Rattle.broker_ledger.specs.TakenUp.{added}

abbrev pub listed : Option Out → List Out
listed None = []
listed (Some o) = o ∷ []

-- a message may add this effect
abbrev pub MayBegin : List ActSpec → Notes → List Given → Option Effect → Type 0
MayBegin acts n answers None = Unit {0}
MayBegin acts n answers (Some f) = MayAdd acts n answers f

-- with the effect that a message adds
abbrev pub begun : LedgerParts → Option Effect → LedgerParts
begun l None = l
begun l (Some f) = added l f

abbrev pub firsts : Option Effect → List Effect
firsts None = []
firsts (Some f) = f ∷ []

-- the effects that are owed then, newest first, and the notes
abbrev pub settled_from : LedgerParts → Heard → List Effect → Settled
settled_from l h fresh = settled l.number l.run l.acts l.answers h (most_steps l.acts) fresh l.notes

-- the ledger with other notes
abbrev pub with_notes : LedgerParts → Notes → LedgerParts
with_notes l n = record l { notes = n }

-- the stage of a ledger
abbrev pub phase_in : LedgerParts → Heard → Phase
phase_in l h = phase_at l.acts l.run l.notes (kept l.notes l.answers) h

-- the effects, newest first, and the ledger after them
abbrev pub effects_from : LedgerParts → Option Effect → Heard → List Effect
effects_from l first h = (settled_from (begun l first) h (firsts first)).0

abbrev pub ledger_from : LedgerParts → Option Effect → Heard → LedgerParts
ledger_from l first h = with_notes (begun l first) (settled_from (begun l first) h (firsts first)).1

-- why a broker can't go on, where this is the index of the first act that isn't the plan's
abbrev pub fault_of : LedgerParts → Option ℕ → Option ResumeFault
fault_of l other = if nat_lt l.run l.notes.run then Some (fault.OldRun l.notes.run) else (if l.notes.run == l.run then plan_fault other else None)

-- each act of the plan has its outcome
abbrev pub over_by : ℕ → List ActSpec → Notes → Bool
over_by run acts n = if n.run == run then (n.started == length acts) && over_at (most_of (act_at acts n)) n else length acts == 0
