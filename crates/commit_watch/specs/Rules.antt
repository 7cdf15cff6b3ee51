-- The rules: a total after one version more, or none where no number holds it.
use Rattle.std.specs.Prelude.{◌^◌, ℤ, pos, negsuc, ◌+ℤ◌, Bool, nat_lt, Option, Some, None, if◌then◌else◌}
use Rattle.value_form.specs.declared.values.Value.{Value}
use Rattle.value_form.specs.declared.values.Value.TheVariants.{Nothing, Number, Text}
use Rattle.commit_watch.specs.declared.versions.Version.{Version}

-- from -2^63 to 2^63 - 1
abbrev pub fits : ℤ → Bool
fits (pos n) = nat_lt n (2 ^ 63)
fits (negsuc n) = nat_lt n (2 ^ 63)

abbrev pub fitting : ℤ → Option ℤ
fitting z = if fits z then Some z else None

-- one more
abbrev pub count_next : ℤ → Version → Option ℤ
count_next total v = fitting (total +ℤ pos 1)

abbrev pub plus : ℤ → Value → Option ℤ
plus total Nothing = Some total
plus total (Number z) = fitting (total +ℤ z)
plus total (Text bytes) = Some total

-- a number more
abbrev pub sum_next : ℤ → Version → Option ℤ
sum_next total v = plus total v.value

abbrev pub number_or : ℤ → Value → ℤ
number_or total Nothing = total
number_or total (Number z) = z
number_or total (Text bytes) = total

-- the number, where it is one
abbrev pub last_next : ℤ → Version → Option ℤ
last_next total v = Some (number_or total v.value)

-- the value
abbrev pub latest_next : Value → Version → Option Value
latest_next total v = Some v.value
