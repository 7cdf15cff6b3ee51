-- What the operations of the language give.
use Rattle.std.specs.Prelude.{ℕ, ◌+◌, ◌^◌, ◌==◌, ℤ, pos, negsuc, ◌+ℤ◌, ◌-ℤ◌, ◌*ℤ◌, neg_ℤ, int_div, int_rem, Bool, true, false, not, ◌&&◌, ◌||◌, nat_lt, nat_le, List, ◌++◌, length, Result, Ok, Err, if◌then◌else◌}
use Rattle.std.specs.Ordering.{nat_cmp, int_cmp, int_eq, is_lt, is_le, is_gt, is_ge}
use Rattle.std.specs.declared.cmp.Ordering.{Ordering}
use Rattle.std.specs.Cmp.Lexicographic.{pointwise, slice_cmp}
use Rattle.value_form.specs.ValueBytes.{most_text}
use Rattle.value_form.specs.declared.objects.ObjectId.{ObjectId}
use Rattle.value_form.specs.declared.values.Value.{Value}
use Rattle.value_form.specs.declared.values.Value.TheVariants as v
use Rattle.value_form.specs.declared.fail_kinds.FailKind.{FailKind}
use Rattle.value_form.specs.declared.fail_kinds.FailKind.TheVariants as fails
use Rattle.value_form.specs.declared.expressions.Prefix.{Prefix}
use Rattle.value_form.specs.declared.expressions.Prefix.TheVariants as sign
use Rattle.value_form.specs.declared.expressions.Infix.{Infix}
use Rattle.value_form.specs.declared.expressions.Infix.TheVariants as op
use Rattle.value_form.specs.declared.expressions.Call.{Call}
use Rattle.value_form.specs.declared.expressions.Call.TheVariants as call
use Rattle.value_form.specs.ValueText.{value_text}

-- the first failure is the failure of the whole
infixl 10 ◌>>=◌
abbrev pub ◌>>=◌ : {A B : Type 0} → Result A FailKind → (A → Result B FailKind) → Result B FailKind
(Ok x) >>= f = f x
(Err k) >>= f = Err k

-- ---- operands of a kind

abbrev pub number_in : Value → Result ℤ FailKind
number_in v.Nothing = Err fails.Kind
number_in (v.Number z) = Ok z
number_in (v.Text bytes) = Err fails.Kind

abbrev pub text_in : Value → Result (List ℕ) FailKind
text_in v.Nothing = Err fails.Kind
text_in (v.Number z) = Err fails.Kind
text_in (v.Text bytes) = Ok bytes

-- ---- numbers

-- from -2^63 to 2^63 - 1
abbrev pub fits : ℤ → Bool
fits (pos n) = nat_lt n (2 ^ 63)
fits (negsuc n) = nat_lt n (2 ^ 63)

abbrev pub fitting : ℤ → Result ℤ FailKind
fitting z = if fits z then Ok z else Err fails.Overflow

abbrev pub is_zero : ℤ → Bool
is_zero z = int_eq z (pos 0)

-- 1 for true, 0 for false
abbrev pub truth : Bool → ℤ
truth b = if b then pos 1 else pos 0

abbrev pub sum : ℤ → ℤ → Result ℤ FailKind
sum x y = fitting (x +ℤ y)

abbrev pub difference : ℤ → ℤ → Result ℤ FailKind
difference x y = fitting (x -ℤ y)

abbrev pub product : ℤ → ℤ → Result ℤ FailKind
product x y = fitting (x *ℤ y)

-- rounded towards 0
abbrev pub quotient : ℤ → ℤ → Result ℤ FailKind
quotient x y = if is_zero y then Err fails.Division else fitting (int_div x y)

-- with the sign of the left side
abbrev pub remainder : ℤ → ℤ → Result ℤ FailKind
remainder x y = if is_zero y then Err fails.Division else Ok (int_rem x y)

-- a number other than 0 is true
abbrev pub either : ℤ → ℤ → Result ℤ FailKind
either x y = Ok (truth (not (is_zero x) || not (is_zero y)))

abbrev pub both : ℤ → ℤ → Result ℤ FailKind
both x y = Ok (truth (not (is_zero x) && not (is_zero y)))

-- an operation of two numbers, on values
abbrev pub numbers : (ℤ → ℤ → Result ℤ FailKind) → Value → Value → Result Value FailKind
numbers f a b = number_in a >>= λ x. number_in b >>= λ y. f x y >>= λ z. Ok (v.Number z)

-- ---- comparisons

-- values of different kinds are unequal
abbrev pub same : Value → Value → Bool
same v.Nothing v.Nothing = true
same (v.Number x) (v.Number y) = int_eq x y
same (v.Text s) (v.Text t) = pointwise ◌==◌ s t
same _ _ = false

-- two numbers by their size, two texts by their bytes
abbrev pub order : Value → Value → Result Ordering FailKind
order (v.Number x) (v.Number y) = Ok (int_cmp x y)
order (v.Text s) (v.Text t) = Ok (slice_cmp nat_cmp s t)
order _ _ = Err fails.Kind

-- whether a comparison by order holds
abbrev pub holds : Infix → Ordering → Bool
holds op.Less o = is_lt o
holds op.LessEqual o = is_le o
holds op.Greater o = is_gt o
holds _ o = is_ge o

abbrev pub compared : Infix → Value → Value → Result Value FailKind
compared c a b = order a b >>= λ o. Ok (v.Number (truth (holds c o)))

-- ---- texts

-- where a text may have so many bytes
abbrev pub texts_joined : List ℕ → List ℕ → Result Value FailKind
texts_joined s t = if nat_le (length s + length t) most_text then Ok (v.Text (s ++ t)) else Err fails.Long

abbrev pub joined : Value → Value → Result Value FailKind
joined a b = text_in a >>= λ s. text_in b >>= λ t. texts_joined s t

abbrev pub printed : Value → Value
printed a = v.Text (value_text a)

-- a text is itself, another value gives its printed text
abbrev pub as_text : Value → Value
as_text v.Nothing = printed v.Nothing
as_text (v.Number z) = printed (v.Number z)
as_text (v.Text bytes) = v.Text bytes

-- ---- the operators and functions

abbrev pub infix_value : Infix → Value → Value → Result Value FailKind
infix_value op.Or a b = numbers either a b
infix_value op.And a b = numbers both a b
infix_value op.Equal a b = Ok (v.Number (truth (same a b)))
infix_value op.NotEqual a b = Ok (v.Number (truth (not (same a b))))
infix_value op.Less a b = compared op.Less a b
infix_value op.LessEqual a b = compared op.LessEqual a b
infix_value op.Greater a b = compared op.Greater a b
infix_value op.GreaterEqual a b = compared op.GreaterEqual a b
infix_value op.Add a b = numbers sum a b
infix_value op.Subtract a b = numbers difference a b
infix_value op.Join a b = joined a b
infix_value op.Multiply a b = numbers product a b
infix_value op.Divide a b = numbers quotient a b
infix_value op.Modulo a b = numbers remainder a b

abbrev pub prefix_value : Prefix → Value → Result Value FailKind
prefix_value sign.Not a = number_in a >>= λ x. Ok (v.Number (truth (is_zero x)))
prefix_value sign.Minus a = number_in a >>= λ x. fitting (neg_ℤ x) >>= λ z. Ok (v.Number z)

abbrev pub call_value : Call → Value → Result Value FailKind
call_value call.Len a = text_in a >>= λ s. Ok (v.Number (pos (length s)))
call_value call.Text a = Ok (as_text a)

-- the first value, or the second where the first is Nothing
abbrev pub given_value : Value → Value → Value
given_value v.Nothing b = b
given_value (v.Number z) b = v.Number z
given_value (v.Text bytes) b = v.Text bytes

-- ---- what statements ask of a value

-- the number of an object
abbrev pub object_in : ℕ → Value → Result ObjectId FailKind
object_in r v.Nothing = Err fails.Object
object_in r (v.Number (pos n)) = if nat_lt n (2 ^ 32) then Ok (record { repository = r; number = n }) else Err fails.Object
object_in r (v.Number (negsuc n)) = Err fails.Object
object_in r (v.Text bytes) = Err fails.Object

-- how often a part is repeated
abbrev pub count_in : Value → Result ℕ FailKind
count_in v.Nothing = Err fails.Count
count_in (v.Number (pos n)) = if nat_le n 1000 then Ok n else Err fails.Count
count_in (v.Number (negsuc n)) = Err fails.Count
count_in (v.Text bytes) = Err fails.Count

-- whether a condition holds: a number other than 0
abbrev pub condition_in : Value → Result Bool FailKind
condition_in a = number_in a >>= λ x. Ok (not (is_zero x))
