-- Decisions, as bytes.
use Rattle.std.specs.Prelude.{ℕ, ◌<◌, ◌^◌, ◌==◌, List, [], ◌∷◌, ◌++◌, Option, Some, None, if◌then◌else◌}
use Rattle.std.specs.Int.{w64, to_be_bytes}
use Rattle.pseudo_time.specs.declared.decisions.Decision.{Decision}
use Rattle.pseudo_time.specs.declared.decisions.Decision.TheVariants.{Committed, Withdrawn, Expired}
use Rattle.field_form.specs.Forms.{◌>>=◌}
use Rattle.field_form.specs.Numbers.{byte_at, number_at}

-- a tag, and for an expiry the deadline and the moment
abbrev pub decision_text : Decision → List ℕ
decision_text Committed = 1 ∷ []
decision_text Withdrawn = 2 ∷ []
decision_text (Expired deadline moment) = 3 ∷ (to_be_bytes w64 deadline ++ to_be_bytes w64 moment)

abbrev pub IsDecision : Decision → Type 0
IsDecision Committed = Unit {0}
IsDecision Withdrawn = Unit {0}
IsDecision (Expired deadline moment) = (deadline < 2 ^ 64) × (moment < 2 ^ 64)

abbrev pub expiry_at : List ℕ → Option (Decision × List ℕ)
expiry_at bytes = do
  deadline ← number_at w64 bytes
  moment ← number_at w64 deadline.1
  Some (Expired deadline.0 moment.0, moment.1)

unfoldable pub decision_at : List ℕ → Option (Decision × List ℕ)
decision_at bytes = do
  tag ← byte_at bytes
  if tag.0 == 1 then Some (Committed, tag.1)
      else if tag.0 == 2 then Some (Withdrawn, tag.1)
      else if tag.0 == 3 then expiry_at tag.1
      else None
