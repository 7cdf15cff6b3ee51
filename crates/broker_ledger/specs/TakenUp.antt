-- How a log is taken up again, effect by effect.
use Rattle.std.specs.Prelude.{ℕ, ◌==◌, Bool, false, List, [], ◌∷◌, Option, Some, None, if◌then◌else◌}
use Rattle.value_form.specs.declared.acts.ActSpec.{ActSpec}
use Rattle.effect_form.specs.declared.effects.Effect.{Effect}
use Rattle.effect_form.specs.declared.effects.Effect.TheVariants as effect
use Rattle.broker_ledger.specs.Fits.{first_some}
use Rattle.broker_ledger.specs.Notes.{fits_at, noted, passed, blank_notes}
use Rattle.broker_ledger.specs.Ledgers.{LedgerParts, kept, answers_noted}

-- nothing is known of a log yet
abbrev pub fresh_ledger : ℕ → ℕ → List ActSpec → LedgerParts
fresh_ledger number run acts = record { number = number; run = run; acts = acts; notes = blank_notes; answers = [] }

abbrev pub fits_now : LedgerParts → Effect → Bool
fits_now l f = fits_at l.number l.acts l.notes (kept l.notes l.answers) f

abbrev pub added : LedgerParts → Effect → LedgerParts
added l f = record l { notes = noted l.acts f l.notes; answers = answers_noted f l.notes l.answers }

-- Of this run the effects that fit are added. Of another run the last Run and the greatest clock are kept.
abbrev pub logged : LedgerParts → Effect → LedgerParts
logged l f = if l.notes.run == l.run then (if fits_now l f then added l f else l) else record l { notes = passed f l.notes }

abbrev pub unfit_index : Bool → Effect → Option ℕ
unfit_index fits (effect.Act i h t k c x) = if fits then None else Some i
unfit_index fits (effect.Run m) = None
unfit_index fits (effect.Try i s) = None
unfit_index fits (effect.Got k v) = None
unfit_index fits (effect.Acked k) = None
unfit_index fits (effect.End i o) = None
unfit_index fits (effect.Mark at) = None
unfit_index fits effect.Whole = None
unfit_index fits (effect.Put o x v) = None
unfit_index fits (effect.Stretch o x) = None
unfit_index fits (effect.Begin s d) = None
unfit_index fits (effect.Decide s d) = None
unfit_index fits (effect.Learn s c) = None

-- the index of an act of this run that doesn't fit
abbrev pub unfit_at : LedgerParts → Effect → Option ℕ
unfit_at l f = if l.notes.run == l.run then unfit_index (fits_now l f) f else None

-- a log, newest first
abbrev pub led : LedgerParts → List Effect → LedgerParts
led l [] = l
led l (f ∷ log) = logged (led l log) f

abbrev pub other_at : LedgerParts → List Effect → Option ℕ
other_at l [] = None
other_at l (f ∷ log) = first_some (other_at l log) (unfit_at (led l log) f)

-- an effect of this run that fits
abbrev pub counts_at : LedgerParts → Effect → Bool
counts_at l f = if l.notes.run == l.run then fits_now l f else false

abbrev pub counts_led : LedgerParts → List Effect → List Bool
counts_led l [] = []
counts_led l (f ∷ log) = counts_at (led l log) f ∷ counts_led l log
