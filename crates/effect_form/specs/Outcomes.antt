-- The bytes of an outcome.
use Rattle.std.specs.Prelude.{ℕ, ◌≤◌, ◌<◌, ◌^◌, ◌==◌, List, [], ◌∷◌, ◌++◌, Option, Some, None, if◌then◌else◌}
use Rattle.std.specs.Int.{w16, w64, to_be_bytes}
use Rattle.pseudo_time.specs.TimeParts.{TimeParts, IsTime, time_bytes}
use Rattle.field_form.specs.Forms as form
use Rattle.field_form.specs.Numbers.{byte_at, number_at, between}
use Rattle.field_form.specs.Times.{time_at}
use Rattle.value_form.specs.declared.fail_kinds.FailKind.{FailKind}
use Rattle.value_form.specs.declared.fail_kinds.FailKind.TheVariants as kind
use Rattle.value_form.specs.declared.objects.ObjectId.{ObjectId}
use Rattle.value_form.specs.ObjectBytes.{IsObject, object_bytes, object_bytes_at}
use Rattle.effect_form.specs.declared.outcomes.Outcome.{Outcome}
use Rattle.effect_form.specs.declared.outcomes.Outcome.TheVariants.{Committed, Withdrawn, Failed, LaterRead, LaterVersion, Expired, Spent}
use Rattle.effect_form.specs.Sequences.{part_one, part_two}

-- the number of a kind of failure
abbrev pub fail_number : FailKind → ℕ
fail_number kind.Overflow = 1
fail_number kind.Division = 2
fail_number kind.Kind = 3
fail_number kind.Long = 4
fail_number kind.Object = 5
fail_number kind.Count = 6
fail_number kind.Budget = 7

abbrev pub fail_from : ℕ → Option FailKind
fail_from n =
    if n == 1 then Some kind.Overflow
    else if n == 2 then Some kind.Division
    else if n == 3 then Some kind.Kind
    else if n == 4 then Some kind.Long
    else if n == 5 then Some kind.Object
    else if n == 6 then Some kind.Count
    else if n == 7 then Some kind.Budget
    else None

abbrev pub fail_at : List ℕ → Option (FailKind × List ℕ)
fail_at bytes = form.◌>>=◌ (byte_at bytes) (λ b. form.◌>>=◌ (fail_from b.0) (λ k. Some (k, b.1)))

-- lines are 1 to 200
abbrev pub line_at : List ℕ → Option (ℕ × List ℕ)
line_at bytes = between 1 200 (number_at w16 bytes)

-- clocks are 1 to 2^40 - 1
abbrev pub clock_at : List ℕ → Option (ℕ × List ℕ)
clock_at bytes = between 1 1099511627775 (number_at w64 bytes)

-- a tag, then the fields
abbrev pub outcome_bytes : Outcome → List ℕ
outcome_bytes Committed = 1 ∷ []
outcome_bytes (Withdrawn line) = 2 ∷ to_be_bytes w16 line
outcome_bytes (Failed line k) = 3 ∷ (to_be_bytes w16 line ++ fail_number k ∷ [])
outcome_bytes (LaterRead object end) = 4 ∷ (object_bytes object ++ time_bytes end)
outcome_bytes (LaterVersion object start) = 5 ∷ (object_bytes object ++ time_bytes start)
outcome_bytes (Expired deadline moment) = 6 ∷ (to_be_bytes w64 deadline ++ to_be_bytes w64 moment)
outcome_bytes (Spent clock) = 7 ∷ to_be_bytes w64 clock

-- which outcomes have bytes
abbrev pub IsOutcome : Outcome → Type 0
IsOutcome Committed = Unit {0}
IsOutcome (Withdrawn line) = (line < 2 ^ 16) × (1 ≤ line) × (line ≤ 200)
IsOutcome (Failed line k) = ((line < 2 ^ 16) × (1 ≤ line) × (line ≤ 200)) × Unit {0}
IsOutcome (LaterRead object end) = IsObject object × IsTime end
IsOutcome (LaterVersion object start) = IsObject object × IsTime start
IsOutcome (Expired deadline moment) = (deadline < 2 ^ 64) × (moment < 2 ^ 64)
IsOutcome (Spent clock) = (clock < 2 ^ 64) × (1 ≤ clock) × (clock ≤ 1099511627775)

unfoldable pub outcome_of_tag : ℕ → List ℕ → Option (Outcome × List ℕ)
outcome_of_tag tag rest =
    if tag == 1 then Some (Committed, rest)
    else if tag == 2 then part_one Withdrawn line_at rest
    else if tag == 3 then part_two Failed line_at fail_at rest
    else if tag == 4 then part_two LaterRead object_bytes_at time_at rest
    else if tag == 5 then part_two LaterVersion object_bytes_at time_at rest
    else if tag == 6 then part_two Expired (number_at w64) (number_at w64) rest
    else if tag == 7 then part_one Spent clock_at rest
    else None

-- the outcome at the front, and what follows it
unfoldable pub outcome_at : List ℕ → Option (Outcome × List ℕ)
outcome_at bytes = form.◌>>=◌ (byte_at bytes) (λ tag. outcome_of_tag tag.0 tag.1)
