-- The bytes of a message.
use Rattle.std.specs.Prelude.{ℕ, ◌-◌, ◌≤◌, ◌<◌, ◌^◌, ◌==◌, List, [], ◌∷◌, ◌++◌, length, slice_get, Result, Ok, Err, if◌then◌else◌}
use Rattle.std.specs.Option.{unwrap_or}
use Rattle.std.specs.Int.{w32, to_be_bytes}
use Rattle.pseudo_time.specs.StampParts.{IsStamp, stamp_bytes}
use Rattle.pseudo_time.specs.TimeParts.{IsTime, time_bytes}
use Rattle.field_form.specs.Decisions.{IsDecision, decision_text, decision_at}
use Rattle.field_form.specs.Numbers.{byte_at}
use Rattle.field_form.specs.Times.{stamp_at, time_at}
use Rattle.value_form.specs.ObjectBytes.{IsObject, object_bytes, object_bytes_at}
use Rattle.value_form.specs.ValueBytes.{IsValue, value_bytes, value_at, found, ◌>>=◌, field}
use Rattle.effect_form.specs.Effects.{learned_byte, learned_at, timeout_at}
use Rattle.effect_form.specs.Sequences.{whole_one, whole_two}
use Rattle.message_form.specs.declared.messages.Message.{Message}
use Rattle.message_form.specs.declared.messages.Message.TheVariants as m

-- moments that a Begin leaves
abbrev pub IsTimeout : ℕ → Type 0
IsTimeout n = (n < 2 ^ 32) × (1 ≤ n) × (n ≤ 1000000)

-- a tag, then the fields
abbrev pub message_bytes : Message → List ℕ
message_bytes (m.Begin stamp timeout) = 1 ∷ (stamp_bytes stamp ++ to_be_bytes w32 timeout)
message_bytes (m.Begun stamp) = 2 ∷ stamp_bytes stamp
message_bytes (m.Read at object) = 3 ∷ (time_bytes at ++ object_bytes object)
message_bytes (m.Value at v) = 4 ∷ (time_bytes at ++ value_bytes v)
message_bytes (m.Write at object v) = 5 ∷ (time_bytes at ++ (object_bytes object ++ value_bytes v))
message_bytes (m.Stored at) = 6 ∷ time_bytes at
message_bytes (m.LaterRead at end) = 7 ∷ (time_bytes at ++ time_bytes end)
message_bytes (m.LaterVersion at start) = 8 ∷ (time_bytes at ++ time_bytes start)
message_bytes (m.Ended at) = 9 ∷ time_bytes at
message_bytes (m.Commit stamp) = 10 ∷ stamp_bytes stamp
message_bytes (m.Withdraw stamp) = 11 ∷ stamp_bytes stamp
message_bytes (m.Decided stamp decision) = 12 ∷ (stamp_bytes stamp ++ decision_text decision)
message_bytes (m.Ask stamp) = 13 ∷ stamp_bytes stamp
message_bytes (m.Tell stamp committed) = 14 ∷ (stamp_bytes stamp ++ learned_byte committed ∷ [])

-- the byte that its text begins with
abbrev pub tag_of : Message → ℕ
tag_of m = unwrap_or (slice_get (message_bytes m) 0) 0

-- which messages have bytes: their fields are in their ranges
abbrev pub IsMessage : Message → Type 0
IsMessage (m.Begin stamp timeout) = IsStamp stamp × IsTimeout timeout
IsMessage (m.Begun stamp) = IsStamp stamp
IsMessage (m.Read at object) = IsTime at × IsObject object
IsMessage (m.Value at v) = IsTime at × IsValue v
IsMessage (m.Write at object v) = IsTime at × IsObject object × IsValue v
IsMessage (m.Stored at) = IsTime at
IsMessage (m.LaterRead at end) = IsTime at × IsTime end
IsMessage (m.LaterVersion at start) = IsTime at × IsTime start
IsMessage (m.Ended at) = IsTime at
IsMessage (m.Commit stamp) = IsStamp stamp
IsMessage (m.Withdraw stamp) = IsStamp stamp
IsMessage (m.Decided stamp decision) = IsStamp stamp × IsDecision decision
IsMessage (m.Ask stamp) = IsStamp stamp
IsMessage (m.Tell stamp committed) = IsStamp stamp × Unit {0}

-- ---- reading: each field in turn, and else the place of the first that is missing, cut short or out of range

unfoldable pub write_at : List ℕ → Result (Message × List ℕ) ℕ
write_at bytes = do
  at ← field 1 (time_at bytes)
  object ← field 15 (object_bytes_at at.1)
  v ← field 20 (found (value_at object.1))
  Ok (m.Write at.0 object.0 v.0, v.1)

unfoldable pub message_of_tag : ℕ → List ℕ → Result (Message × List ℕ) ℕ
message_of_tag tag rest =
    if tag == 1 then whole_two 1 11 m.Begin stamp_at timeout_at rest
    else if tag == 2 then whole_one 1 m.Begun stamp_at rest
    else if tag == 3 then whole_two 1 15 m.Read time_at object_bytes_at rest
    else if tag == 4 then whole_two 1 15 m.Value time_at (λ bytes. found (value_at bytes)) rest
    else if tag == 5 then write_at rest
    else if tag == 6 then whole_one 1 m.Stored time_at rest
    else if tag == 7 then whole_two 1 15 m.LaterRead time_at time_at rest
    else if tag == 8 then whole_two 1 15 m.LaterVersion time_at time_at rest
    else if tag == 9 then whole_one 1 m.Ended time_at rest
    else if tag == 10 then whole_one 1 m.Commit stamp_at rest
    else if tag == 11 then whole_one 1 m.Withdraw stamp_at rest
    else if tag == 12 then whole_two 1 11 m.Decided stamp_at decision_at rest
    else if tag == 13 then whole_one 1 m.Ask stamp_at rest
    else if tag == 14 then whole_two 1 11 m.Tell stamp_at learned_at rest
    else Err 0

-- the message at the front, and what follows it
unfoldable pub message_at : List ℕ → Result (Message × List ℕ) ℕ
message_at bytes = do
  tag ← field 0 (byte_at bytes)
  message_of_tag tag.0 tag.1

-- nothing may follow a message of so many bytes
abbrev pub alone : ℕ → Message × List ℕ → Result Message ℕ
alone size p = if length p.1 == 0 then Ok p.0 else Err (size - length p.1)

-- the message that all of the bytes are
abbrev pub whole_message : List ℕ → Result Message ℕ
whole_message bytes = message_at bytes >>= alone (length bytes)
