-- The bytes of an object.
use Rattle.std.specs.Prelude.{ℕ, ◌≤◌, ◌<◌, ◌^◌, List, ◌∷◌, Option, Some}
use Rattle.std.specs.Int.{w32, to_be_bytes}
use Rattle.field_form.specs.Forms.{◌>>=◌}
use Rattle.field_form.specs.Numbers.{byte_at, number_at, between}
use Rattle.value_form.specs.declared.objects.ObjectId.{ObjectId}

-- repositories are 1 to 16, numbers below 2^32
pub record IsObject (o : ObjectId) : Type 0 where
  pub repository_low : 1 ≤ o.repository
  pub repository_high : o.repository ≤ 16
  pub number : o.number < 2 ^ 32

-- the repository in one byte, the number in four
abbrev pub object_bytes : ObjectId → List ℕ
object_bytes o = o.repository ∷ to_be_bytes w32 o.number

unfoldable pub object_bytes_at : List ℕ → Option (ObjectId × List ℕ)
object_bytes_at bytes = do
  repository ← between 1 16 (byte_at bytes)
  number ← number_at w32 repository.1
  Some (record { repository = repository.0; number = number.0 }, number.1)
