-- Which messages of a run are lost.
use Rattle.std.specs.Prelude.{◌≡◌, ℕ, Bool, not, ◌==◌, ◌&&◌, ◌/◌, ◌%◌, ◌^◌, if◌then◌else◌}
use Rattle.stream_port.specs.Fates.{plain}
use Rattle.stream_port.specs.declared.fates.Asked.{Asked}
use Rattle.stream_port.specs.declared.fates.Fate.{Fate}
use Rattle.plan_form.specs.Making.{step}

-- what the number of a message draws
abbrev pub draw : ℕ → ℕ
draw number = step number / 2 ^ 33

-- the message is lost: none is where the divisor is 0, and else one in so many
abbrev pub is_lost : (lose number : ℕ) → Bool
is_lost lose number = not (lose == 0) && (draw number % lose == 0)

-- a lost message has no copy, and each other one, which comes at once and behind all others
abbrev pub fate_by : (lose number : ℕ) → Fate
fate_by lose number = if is_lost lose number then record plain { copies = 0 } else plain

-- the message got that fate
abbrev pub IsFated : ℕ → Asked → Type 0
IsFated lose a = a.fate ≡ fate_by lose a.number
