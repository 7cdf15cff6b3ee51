-- The parts of a line, as functions on its bytes.
use Rattle.std.specs.Prelude.{ℕ, ◌^◌, ◌-◌, ◌==◌, Bool, true, false, not, ◌&&◌, List, [], ◌∷◌, length, take, drop, codes, Option, Some, None, nat_le, if◌then◌else◌}
use Rattle.std.specs.Char.{is_ascii_digit}
use Rattle.std.specs.Cmp.Lexicographic.{pointwise}
use Rattle.token_form.specs.Tokens.{number_from}
use Rattle.token_form.specs.Reading.{front_of, rest_of}
use Rattle.plan_form.specs.declared.act_lines.Terms.{Terms}

-- a part that is there is read on
infixl 10 ◌>>=◌
abbrev pub ◌>>=◌ : {A B : Type 0} → Option A → (A → Option B) → Option B
(Some x) >>= f = f x
None >>= f = None

-- what follows a front
abbrev pub after_front : List ℕ → List ℕ → Option (List ℕ)
after_front front bytes = if pointwise ◌==◌ (take (length front) bytes) front then Some (drop (length front) bytes) else None

abbrev pub digits_of : List ℕ → List ℕ
digits_of = front_of is_ascii_digit

abbrev pub behind_digits : List ℕ → List ℕ
behind_digits = rest_of is_ascii_digit

-- one digit at least, and no `0` before another
abbrev pub is_numeral : List ℕ → Bool
is_numeral [] = false
is_numeral (d ∷ []) = true
is_numeral (d ∷ e ∷ ds) = not (d == 48)

-- the number at the front where it is from 1 to the greatest, and what follows it
abbrev pub number_first : ℕ → List ℕ → Option (ℕ × List ℕ)
number_first greatest bytes =
    if is_numeral (digits_of bytes) && nat_le 1 (number_from 0 (digits_of bytes)) && nat_le (number_from 0 (digits_of bytes)) greatest
    then Some (number_from 0 (digits_of bytes), behind_digits bytes) else None

-- the number behind a word
abbrev pub number_behind : List ℕ → ℕ → List ℕ → Option (ℕ × List ℕ)
number_behind word greatest bytes = do
  digits ← after_front word bytes
  number_first greatest digits

-- the number behind a word, and nothing behind the number
abbrev pub number_alone : List ℕ → ℕ → List ℕ → Option ℕ
number_alone word greatest bytes = do
  number ← number_behind word greatest bytes
  if length number.1 == 0 then Some number.0 else None

-- a clock, or nothing
abbrev pub clock_at : List ℕ → Option ℕ
clock_at [] = Some 1
clock_at (b ∷ bs) = number_alone (codes " clock ") (2 ^ 40 - 1) (b ∷ bs)

-- the terms that an act line says
abbrev pub terms_at : (repositories brokers : ℕ) → List ℕ → Option Terms
terms_at repositories brokers line = do
  broker ← number_behind (codes "act broker ") brokers line
  home ← number_behind (codes " home ") repositories broker.1
  timeout ← number_behind (codes " timeout ") 1000000 home.1
  tries ← number_behind (codes " tries ") 100 timeout.1
  clock ← clock_at tries.1
  Some (record { broker = broker.0; home = home.0; timeout = timeout.0; tries = tries.0; clock = clock })
