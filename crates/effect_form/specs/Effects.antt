-- The bytes of an effect, with the back place of a Put.
use Rattle.std.specs.Prelude.{ℕ, ◌+◌, ◌-◌, ◌≤◌, ◌<◌, ◌^◌, ◌==◌, ◌&&◌, ◌≡◌, Bool, true, false, List, [], ◌∷◌, ◌++◌, length, nat_lt, nat_le, Option, Some, None, Result, Ok, Err, if◌then◌else◌}
use Rattle.std.specs.Int.{w16, w32, w64, to_be_bytes}
use Rattle.pseudo_time.specs.Lists.{Every}
use Rattle.pseudo_time.specs.StampParts.{IsStamp, stamp_bytes}
use Rattle.pseudo_time.specs.TimeParts.{IsTime, time_bytes}
use Rattle.field_form.specs.Decisions.{IsDecision, decision_text, decision_at}
use Rattle.field_form.specs.Forms.{IsBytes}
use Rattle.field_form.specs.Forms as form
use Rattle.field_form.specs.Numbers.{byte_at, number_at, between, front_at}
use Rattle.field_form.specs.Times.{stamp_at, time_at}
use Rattle.value_form.specs.ObjectBytes.{IsObject, object_bytes, object_bytes_at}
use Rattle.value_form.specs.ValueBytes.{IsValue, value_bytes, value_at, found, ◌>>=◌, field}
use Rattle.effect_form.specs.declared.effects.Effect.{Effect}
use Rattle.effect_form.specs.declared.effects.Effect.TheVariants.{Put, Stretch, Begin, Decide, Learn, Run, Act, Try, Got, Acked, End, Mark, Whole}
use Rattle.effect_form.specs.declared.effects.Place.{Place}
use Rattle.effect_form.specs.Outcomes.{IsOutcome, outcome_bytes, outcome_at, clock_at}
use Rattle.effect_form.specs.Sequences.{whole_one, whole_two}

-- an effect, and the back place that a Put may have
abbrev pub Written : Type 0
Written = Effect × Option Place

-- ---- back places

-- pages are below 1,048,576, offsets 4 to 4,095
pub record IsPlace (p : Place) : Type 0 where
  pub page : p.page < 1048576
  pub offset_low : 4 ≤ p.offset
  pub offset_high : p.offset ≤ 4095

abbrev pub IsBack : Option Place → Type 0
IsBack None = Unit {0}
IsBack (Some p) = IsPlace p

-- page and offset; six bytes FF where there is none
abbrev pub back_bytes : Option Place → List ℕ
back_bytes None = 255 ∷ 255 ∷ 255 ∷ 255 ∷ 255 ∷ 255 ∷ []
back_bytes (Some p) = to_be_bytes w32 p.page ++ to_be_bytes w16 p.offset

abbrev pub back_from : ℕ → ℕ → Option (Option Place)
back_from page offset =
    if (page == 4294967295) && (offset == 65535) then Some None
    else if nat_lt page 1048576 && (nat_le 4 offset && nat_le offset 4095) then Some (Some (record { page = page; offset = offset }))
    else None

abbrev pub back_at : List ℕ → Option (Option Place × List ℕ)
back_at bytes = form.◌>>=◌ (number_at w32 bytes) (λ page. form.◌>>=◌ (number_at w16 page.1) (λ offset. form.◌>>=◌ (back_from page.0 offset.0) (λ back. Some (back, offset.1))))

-- ---- numbers in their ranges

abbrev pub index_at : List ℕ → Option (ℕ × List ℕ)
index_at bytes = between 1 10000 (number_at w32 bytes)

-- the number of a run, and a step
abbrev pub positive_at : List ℕ → Option (ℕ × List ℕ)
positive_at bytes = between 1 4294967295 (number_at w32 bytes)

-- 1 committed, 2 aborted
abbrev pub learned_byte : Bool → ℕ
learned_byte true = 1
learned_byte false = 2

abbrev pub learned_at : List ℕ → Option (Bool × List ℕ)
learned_at bytes = form.◌>>=◌ (between 1 2 (byte_at bytes)) (λ n. Some (n.0 == 1, n.1))

abbrev pub home_at : List ℕ → Option (ℕ × List ℕ)
home_at bytes = between 1 16 (byte_at bytes)

abbrev pub timeout_at : List ℕ → Option (ℕ × List ℕ)
timeout_at bytes = between 1 1000000 (number_at w32 bytes)

abbrev pub tries_at : List ℕ → Option (ℕ × List ℕ)
tries_at bytes = between 1 100 (byte_at bytes)

-- the length of a script
abbrev pub length_at : List ℕ → Option (ℕ × List ℕ)
length_at bytes = between 0 3900 (number_at w16 bytes)

abbrev pub IsIndex : ℕ → Type 0
IsIndex n = (n < 2 ^ 32) × (1 ≤ n) × (n ≤ 10000)

abbrev pub IsPositive : ℕ → Type 0
IsPositive n = (n < 2 ^ 32) × (1 ≤ n) × (n ≤ 4294967295)

-- ---- effects

-- a tag, then the fields
abbrev pub effect_bytes : Written → List ℕ
effect_bytes (Put object start v, back) = 1 ∷ (object_bytes object ++ (time_bytes start ++ (value_bytes v ++ back_bytes back)))
effect_bytes (Stretch object at, back) = 2 ∷ (object_bytes object ++ time_bytes at)
effect_bytes (Begin stamp deadline, back) = 3 ∷ (stamp_bytes stamp ++ to_be_bytes w64 deadline)
effect_bytes (Decide stamp decision, back) = 4 ∷ (stamp_bytes stamp ++ decision_text decision)
effect_bytes (Learn stamp committed, back) = 5 ∷ (stamp_bytes stamp ++ learned_byte committed ∷ [])
effect_bytes (Run number, back) = 6 ∷ to_be_bytes w32 number
effect_bytes (Act index home timeout tries clock script, back) =
    7 ∷ (to_be_bytes w32 index ++ (home ∷ [] ++ (to_be_bytes w32 timeout ++ (tries ∷ [] ++ (to_be_bytes w64 clock ++ (to_be_bytes w16 (length script) ++ script))))))
effect_bytes (Try index stamp, back) = 8 ∷ (to_be_bytes w32 index ++ stamp_bytes stamp)
effect_bytes (Got step v, back) = 9 ∷ (to_be_bytes w32 step ++ value_bytes v)
effect_bytes (Acked step, back) = 10 ∷ to_be_bytes w32 step
effect_bytes (End index outcome, back) = 11 ∷ (to_be_bytes w32 index ++ outcome_bytes outcome)
effect_bytes (Mark at, back) = 12 ∷ time_bytes at
effect_bytes (Whole, back) = 13 ∷ []

-- the ranges of an act's fields
pub record IsActEffect (index home timeout tries clock : ℕ) (script : List ℕ) : Type 0 where
  pub index_in_range : IsIndex index
  pub home_in_range : (home < 256) × (1 ≤ home) × (home ≤ 16)
  pub timeout_in_range : (timeout < 2 ^ 32) × (1 ≤ timeout) × (timeout ≤ 1000000)
  pub tries_in_range : (tries < 256) × (1 ≤ tries) × (tries ≤ 100)
  pub clock_in_range : (clock < 2 ^ 64) × (1 ≤ clock) × (clock ≤ 1099511627775)
  pub size : length script ≤ 3900
  pub script_is_bytes : IsBytes script

-- which effects have bytes: their fields are in their ranges, and only a Put has a back place
abbrev pub IsWritten : Written → Type 0
IsWritten (Put object start v, back) = IsObject object × IsTime start × IsValue v × IsBack back
IsWritten (Stretch object at, back) = (IsObject object × IsTime at) × (back ≡ None)
IsWritten (Begin stamp deadline, back) = (IsStamp stamp × (deadline < 2 ^ 64)) × (back ≡ None)
IsWritten (Decide stamp decision, back) = (IsStamp stamp × IsDecision decision) × (back ≡ None)
IsWritten (Learn stamp committed, back) = (IsStamp stamp × Unit {0}) × (back ≡ None)
IsWritten (Run number, back) = IsPositive number × (back ≡ None)
IsWritten (Act index home timeout tries clock script, back) = IsActEffect index home timeout tries clock script × (back ≡ None)
IsWritten (Try index stamp, back) = (IsIndex index × IsStamp stamp) × (back ≡ None)
IsWritten (Got step v, back) = (IsPositive step × IsValue v) × (back ≡ None)
IsWritten (Acked step, back) = IsPositive step × (back ≡ None)
IsWritten (End index outcome, back) = (IsIndex index × IsOutcome outcome) × (back ≡ None)
IsWritten (Mark at, back) = IsTime at × (back ≡ None)
IsWritten (Whole, back) = Unit {0} × (back ≡ None)

-- an effect that has bytes: its fields are in their ranges
abbrev pub IsEffect : Effect → Type 0
IsEffect e = IsWritten (e, None)

abbrev pub AreEffects : List Effect → Type 0
AreEffects effects = Every IsEffect effects

-- how many bytes an effect takes, whatever its back place is
abbrev pub size_of : Effect → ℕ
size_of e = length (effect_bytes (e, None))

-- ---- reading: each field in turn, and else the place of the first that is missing, cut short or out of range

unfoldable pub put_at : List ℕ → Result (Written × List ℕ) ℕ
put_at bytes = do
  object ← field 1 (object_bytes_at bytes)
  start ← field 6 (time_at object.1)
  v ← field 20 (found (value_at start.1))
  back ← field (20 + (length start.1 - length v.1)) (back_at v.1)
  Ok ((Put object.0 start.0 v.0, back.0), back.1)

unfoldable pub act_at : List ℕ → Result (Written × List ℕ) ℕ
act_at bytes = do
  index ← field 1 (index_at bytes)
  home ← field 5 (home_at index.1)
  timeout ← field 6 (timeout_at home.1)
  tries ← field 10 (tries_at timeout.1)
  clock ← field 11 (clock_at tries.1)
  size ← field 19 (length_at clock.1)
  script ← field 21 (front_at size.0 size.1)
  Ok ((Act index.0 home.0 timeout.0 tries.0 clock.0 script.0, None), script.1)

unfoldable pub effect_of_tag : ℕ → List ℕ → Result (Written × List ℕ) ℕ
effect_of_tag tag rest =
    if tag == 1 then put_at rest
    else if tag == 2 then whole_two 1 6 (λ object at. (Stretch object at, None)) object_bytes_at time_at rest
    else if tag == 3 then whole_two 1 11 (λ stamp deadline. (Begin stamp deadline, None)) stamp_at (number_at w64) rest
    else if tag == 4 then whole_two 1 11 (λ stamp decision. (Decide stamp decision, None)) stamp_at decision_at rest
    else if tag == 5 then whole_two 1 11 (λ stamp committed. (Learn stamp committed, None)) stamp_at learned_at rest
    else if tag == 6 then whole_one 1 (λ number. (Run number, None)) positive_at rest
    else if tag == 7 then act_at rest
    else if tag == 8 then whole_two 1 5 (λ index stamp. (Try index stamp, None)) index_at stamp_at rest
    else if tag == 9 then whole_two 1 5 (λ step v. (Got step v, None)) positive_at (λ bytes. found (value_at bytes)) rest
    else if tag == 10 then whole_one 1 (λ step. (Acked step, None)) positive_at rest
    else if tag == 11 then whole_two 1 5 (λ index outcome. (End index outcome, None)) index_at outcome_at rest
    else if tag == 12 then whole_one 1 (λ at. (Mark at, None)) time_at rest
    else if tag == 13 then Ok ((Whole, None), rest)
    else Err 0

-- the effect at the front with its back place, and what follows it
unfoldable pub effect_at : List ℕ → Result (Written × List ℕ) ℕ
effect_at bytes = do
  tag ← field 0 (byte_at bytes)
  effect_of_tag tag.0 tag.1
