-- The effects that are owed follow one after another.
use Rattle.std.specs.Prelude.{ℕ, ◌+◌, ◌*◌, zero, suc, length, List, ◌∷◌, Option, Some, None}
use Rattle.broker_ledger.specs.ActSpec.{ActSpec}
use Rattle.broker_ledger.specs.Effect.{Effect}
use Rattle.broker_ledger.specs.declared.givens.Given.{Given}
use Rattle.broker_ledger.specs.declared.heards.Heard.{Heard}
use Rattle.broker_ledger.specs.declared.notes.Notes.{Notes}
use Rattle.broker_ledger.specs.Notes.{changed}
use Rattle.broker_ledger.specs.Ledgers.{kept}
use Rattle.broker_core.specs.Phases.{phase_at, owed_at}

abbrev pub most_steps : List ActSpec → ℕ
most_steps acts = 3 * length acts + 3

-- notes, and the effects that led to them, newest first
abbrev pub Settled : Type 0
Settled = List Effect × Notes

module _ (me run : ℕ) (acts : List ActSpec) (answers : List Given) (h : Heard) where
  abbrev pub owed_now : Notes → Option Effect
  owed_now n = owed_at me acts run n h (phase_at acts run n (kept n answers) h)

  abbrev pub settle_on : (List Effect → Notes → Settled) → Option Effect → List Effect → Notes → Settled
  settle_on next None fresh n = (fresh, n)
  settle_on next (Some f) fresh n = next (f ∷ fresh) (changed acts f n)

  -- the effects that are owed, one after another, at most so many
  unfoldable pub settled : ℕ → List Effect → Notes → Settled
  settled zero fresh n = (fresh, n)
  settled (suc k) fresh n = settle_on (settled k) (owed_now n) fresh n
