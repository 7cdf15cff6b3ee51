-- Operations on values that have bytes give values that have bytes.
use Rattle.serial_model.proofs.Names.{◌≡◌, ℕ, zero, suc, ◌+◌, ◌<◌, ◌≤◌, ◌^◌, nat_le, nat_lt, Bool, true, false, not, cond, ◌&&◌, ◌||◌, List, [], ◌∷◌, ◌++◌, length, Result, Ok, Err, refl, arith, ℤ, pos, negsuc, ◌+ℤ◌, ◌-ℤ◌, ◌*ℤ◌, FitsSigned, IfOk, neg_ℤ, int_div, int_rem, unsigned_abs, codes, w64, list_all, nat_tests, IsAscii-signed, length_signed_le, length-append, IsBytes, FailKind, Value, Prefix, Infix, Call, IsObject, IsValue}
use Rattle.std.proofs.lemmas.Int.{rem_below, fits_signed_from_abs}
use Rattle.value_form.specs.declared.fail_kinds.FailKind.TheVariants as fails
use Rattle.value_form.specs.declared.values.Value.TheVariants as v
use Rattle.value_form.specs.declared.expressions.Prefix.TheVariants as sign
use Rattle.value_form.specs.declared.expressions.Infix.TheVariants as op
use Rattle.value_form.specs.declared.expressions.Call.TheVariants as call
use Rattle.script_meaning.specs.Operations.{◌>>=◌, number_in, text_in, fits, fitting, is_zero, truth, sum, difference, product, quotient, remainder, either, both, numbers, same, order, holds, compared, texts_joined, joined, printed, as_text, infix_value, prefix_value, call_value, given_value, object_in}
use Rattle.serial_model.proofs.TestLemmas.{by_test, both_hold}

-- ---- the first failure is that of the whole

pub then-IfOk : {A B : Type 0} (r : Result A FailKind) (f : A → Result B FailKind) (P : A → Type 0) (Q : B → Type 0) → IfOk r P → ((x : A) → P x → IfOk (f x) Q) → IfOk (r >>= f) Q
then-IfOk (Ok x) f P Q h k = k x h
then-IfOk (Err e) f P Q h k = tt

then-any : {A B : Type 0} (r : Result A FailKind) (f : A → Result B FailKind) (Q : B → Type 0) → ((x : A) → IfOk (f x) Q) → IfOk (r >>= f) Q
then-any (Ok x) f Q k = k x
then-any (Err e) f Q k = tt

-- ---- bytes

pub bytes-IsBytes : (bytes : List ℕ) → list_all (λ b. nat_lt b 256) bytes ≡ true → IsBytes bytes
bytes-IsBytes [] e i = omega arith
bytes-IsBytes (b ∷ bytes) e zero = let k = (both_hold (nat_lt b 256) (list_all (λ c. nat_lt c 256) bytes) e).0 in grind (arith, nat_tests)
bytes-IsBytes (b ∷ bytes) e (suc i) = bytes-IsBytes bytes (both_hold (nat_lt b 256) (list_all (λ c. nat_lt c 256) bytes) e).1 i

pub IsBytes-append : (s t : List ℕ) → IsBytes s → IsBytes t → IsBytes (s ++ t)
IsBytes-append [] t h k i = k i
IsBytes-append (b ∷ s) t h k zero = h zero
IsBytes-append (b ∷ s) t h k (suc i) = IsBytes-append s t (λ j. h (suc j)) k i

-- a text of at most 65,536 bytes
abbrev HasRoom : List ℕ → Type 0
HasRoom bytes = (length bytes ≤ 65536) × IsBytes bytes

-- ---- operands of a kind

number_in-fits : (a : Value) → IsValue a → IfOk (number_in a) (FitsSigned w64)
number_in-fits v.Nothing h = tt
number_in-fits (v.Number z) h = h
number_in-fits (v.Text bytes) h = tt

text_in-has_room : (a : Value) → IsValue a → IfOk (text_in a) HasRoom
text_in-has_room v.Nothing h = tt
text_in-has_room (v.Number z) h = tt
text_in-has_room (v.Text bytes) h = h

-- ---- numbers

fits-signed : (z : ℤ) → fits z ≡ true → FitsSigned w64 z
fits-signed (pos n) h = record { sfits = grind (arith, nat_tests) }
fits-signed (negsuc n) h = record { sfits = grind (arith, nat_tests) }

small-signed : (n : ℕ) → n < 2 ^ 63 → FitsSigned w64 (pos n)
small-signed n h = record { sfits = h }

fitting-fits : (z : ℤ) → IfOk (fitting z) (FitsSigned w64)
fitting-fits z = by_test (fits z) (λ p. IfOk (cond p (Ok z) (Err fails.Overflow)) (FitsSigned w64)) (λ e. fits-signed z e) (λ e. tt)

truth-fits : (b : Bool) → FitsSigned w64 (truth b)
truth-fits true = small-signed 1 (omega arith)
truth-fits false = small-signed 0 (omega arith)

quotient-fits : (x y : ℤ) → IfOk (quotient x y) (FitsSigned w64)
quotient-fits x y = by_test (is_zero y) (λ p. IfOk (cond p (Err fails.Division) (fitting (int_div x y))) (FitsSigned w64)) (λ e. tt) (λ e. fitting-fits (int_div x y))

-- a number other than 0 is at least 1 without its sign, and at most 2^63
not_zero-above : (y : ℤ) → is_zero y ≡ false → 0 < unsigned_abs y
not_zero-above (pos zero) e = absurd (cc)
not_zero-above (pos (suc n)) e = omega arith
not_zero-above (negsuc n) e = omega arith

signed-below : (y : ℤ) → FitsSigned w64 y → unsigned_abs y ≤ 2 ^ 63
signed-below (pos n) h = let k = h.sfits in omega arith
signed-below (negsuc n) h = let k = h.sfits in omega arith

remainder-fits : (x y : ℤ) → FitsSigned w64 y → IfOk (remainder x y) (FitsSigned w64)
remainder-fits x y h =
    by_test (is_zero y) (λ p. IfOk (cond p (Err fails.Division) (Ok (int_rem x y))) (FitsSigned w64))
    (λ e. tt)
    (λ e.
    let below = rem_below x y (not_zero-above y e) in
    let high = signed-below y h in
    fits_signed_from_abs w64 (int_rem x y) (omega arith))

numbers-IsValue : (f : ℤ → ℤ → Result ℤ FailKind) (a b : Value) → IsValue a → IsValue b → ((x y : ℤ) → FitsSigned w64 y → IfOk (f x y) (FitsSigned w64)) → IfOk (numbers f a b) IsValue
numbers-IsValue f a b h k fit =
    then-any (number_in a) _ IsValue (λ x.
    then-IfOk (number_in b) _ (FitsSigned w64) IsValue (number_in-fits b k) (λ y y_fits.
    then-IfOk (f x y) _ (FitsSigned w64) IsValue (fit x y y_fits) (λ z z_fits. z_fits)))

compared-IsValue : (c : Infix) (a b : Value) → IfOk (compared c a b) IsValue
compared-IsValue c a b = then-any (order a b) _ IsValue (λ o. truth-fits (holds c o))

-- ---- texts

texts_joined-IsValue : (s t : List ℕ) → IsBytes s → IsBytes t → IfOk (texts_joined s t) IsValue
texts_joined-IsValue s t h k =
    by_test (nat_le (length s + length t) 65536) (λ p. IfOk (cond p (Ok (v.Text (s ++ t))) (Err fails.Long)) IsValue)
    (λ e. (let few = length-append s t in grind (arith, nat_tests), IsBytes-append s t h k))
    (λ e. tt)

joined-IsValue : (a b : Value) → IsValue a → IsValue b → IfOk (joined a b) IsValue
joined-IsValue a b h k =
    then-IfOk (text_in a) _ HasRoom IsValue (text_in-has_room a h) (λ s s_room.
    then-IfOk (text_in b) _ HasRoom IsValue (text_in-has_room b k) (λ t t_room. texts_joined-IsValue s t s_room.1 t_room.1))

-- a number has at most 21 bytes of text
printed-number : (z : ℤ) → FitsSigned w64 z → IsValue (printed (v.Number z))
printed-number z h =
    let small = h.sfits in
    let short = length_signed_le 20 z (omega arith) (omega arith) in
    let plain = IsAscii-signed z (omega arith) in
    (omega arith, λ i. let k = plain i in omega arith)

as_text-IsValue : (a : Value) → IsValue a → IsValue (as_text a)
as_text-IsValue v.Nothing h = (omega arith, bytes-IsBytes (codes "nothing") refl)
as_text-IsValue (v.Number z) h = printed-number z h
as_text-IsValue (v.Text bytes) h = h

-- ---- the operators and functions

pub infix_value-IsValue : (o : Infix) (a b : Value) → IsValue a → IsValue b → IfOk (infix_value o a b) IsValue
infix_value-IsValue op.Or a b h k = numbers-IsValue either a b h k (λ x y y_fits. truth-fits (not (is_zero x) || not (is_zero y)))
infix_value-IsValue op.And a b h k = numbers-IsValue both a b h k (λ x y y_fits. truth-fits (not (is_zero x) && not (is_zero y)))
infix_value-IsValue op.Equal a b h k = truth-fits (same a b)
infix_value-IsValue op.NotEqual a b h k = truth-fits (not (same a b))
infix_value-IsValue op.Less a b h k = compared-IsValue op.Less a b
infix_value-IsValue op.LessEqual a b h k = compared-IsValue op.LessEqual a b
infix_value-IsValue op.Greater a b h k = compared-IsValue op.Greater a b
infix_value-IsValue op.GreaterEqual a b h k = compared-IsValue op.GreaterEqual a b
infix_value-IsValue op.Add a b h k = numbers-IsValue sum a b h k (λ x y y_fits. fitting-fits (x +ℤ y))
infix_value-IsValue op.Subtract a b h k = numbers-IsValue difference a b h k (λ x y y_fits. fitting-fits (x -ℤ y))
infix_value-IsValue op.Join a b h k = joined-IsValue a b h k
infix_value-IsValue op.Multiply a b h k = numbers-IsValue product a b h k (λ x y y_fits. fitting-fits (x *ℤ y))
infix_value-IsValue op.Divide a b h k = numbers-IsValue quotient a b h k (λ x y y_fits. quotient-fits x y)
infix_value-IsValue op.Modulo a b h k = numbers-IsValue remainder a b h k (λ x y y_fits. remainder-fits x y y_fits)

pub prefix_value-IsValue : (o : Prefix) (a : Value) → IsValue a → IfOk (prefix_value o a) IsValue
prefix_value-IsValue sign.Not a h = then-any (number_in a) _ IsValue (λ x. truth-fits (is_zero x))
prefix_value-IsValue sign.Minus a h = then-any (number_in a) _ IsValue (λ x. then-IfOk (fitting (neg_ℤ x)) _ (FitsSigned w64) IsValue (fitting-fits (neg_ℤ x)) (λ z z_fits. z_fits))

pub call_value-IsValue : (f : Call) (a : Value) → IsValue a → IfOk (call_value f a) IsValue
call_value-IsValue call.Len a h = then-IfOk (text_in a) _ HasRoom IsValue (text_in-has_room a h) (λ s room. small-signed (length s) (let few = room.0 in omega arith))
call_value-IsValue call.Text a h = as_text-IsValue a h

pub given_value-IsValue : (a b : Value) → IsValue a → IsValue b → IsValue (given_value a b)
given_value-IsValue v.Nothing b h k = k
given_value-IsValue (v.Number z) b h k = h
given_value-IsValue (v.Text bytes) b h k = h

-- ---- objects

pub object_in-IsObject : (r : ℕ) (a : Value) → 1 ≤ r → r ≤ 16 → IfOk (object_in r a) IsObject
object_in-IsObject r v.Nothing low high = tt
object_in-IsObject r (v.Number (pos n)) low high =
    by_test (nat_lt n (2 ^ 32)) (λ p. IfOk (cond p (Ok (record { repository = r; number = n })) (Err fails.Object)) IsObject)
    (λ e. record { repository_low = low; repository_high = high; number = grind (arith, nat_tests) })
    (λ e. tt)
object_in-IsObject r (v.Number (negsuc n)) low high = tt
object_in-IsObject r (v.Text bytes) low high = tt
