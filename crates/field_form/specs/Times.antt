-- Stamps and pseudotimes, read off the front of some bytes.
use Rattle.std.specs.Prelude.{ℕ, ◌^◌, Bool, ◌&&◌, List, Option, Some, None, nat_lt, nat_le, if◌then◌else◌}
use Rattle.std.specs.Int.{w32, w64}
use Rattle.pseudo_time.specs.StampParts.{StampParts}
use Rattle.pseudo_time.specs.TimeParts.{TimeParts}
use Rattle.field_form.specs.Forms.{◌>>=◌}
use Rattle.field_form.specs.Numbers.{byte_at, number_at}

-- clocks are 1 to 2^40 - 1, brokers and repositories 1 to 16
abbrev pub stamp_in_range : ℕ → ℕ → ℕ → Bool
stamp_in_range clock broker home = (nat_le 1 clock && nat_lt clock (2 ^ 40)) && ((nat_le 1 broker && nat_le broker 16) && (nat_le 1 home && nat_le home 16))

-- a clock, a broker and a home
unfoldable pub stamp_at : List ℕ → Option (StampParts × List ℕ)
stamp_at bytes = do
  clock ← number_at w64 bytes
  broker ← byte_at clock.1
  home ← byte_at broker.1
  if stamp_in_range clock.0 broker.0 home.0 then Some (record { clock = clock.0; broker = broker.0; home = home.0 }, home.1) else None

-- a stamp and a step, which isn't 0
unfoldable pub time_at : List ℕ → Option (TimeParts × List ℕ)
time_at bytes = do
  stamp ← stamp_at bytes
  step ← number_at w32 stamp.1
  if nat_le 1 step.0 then Some (record { stamp = stamp.0; step = step.0 }, step.1) else None
