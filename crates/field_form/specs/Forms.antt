-- What a form of bytes is: texts of values, and how they are read off the front of some bytes.
use Rattle.std.specs.Prelude.{◌≡◌, ℕ, ◌<◌, List, ◌++◌, Option, Some, None, slice_index}

-- each is a byte
abbrev pub IsBytes : List ℕ → Type 0
IsBytes bytes = (i : ℕ) → slice_index bytes i < 256

-- a part that is there is read on
infixl 10 ◌>>=◌
abbrev pub ◌>>=◌ : {A B : Type 0} → Option A → (A → Option B) → Option B
(Some x) >>= f = f x
None >>= f = None

-- a text stands at the front, and this follows it
pub record Begins (bytes text rest : List ℕ) : Type 0 where
  pub parts : bytes ≡ text ++ rest
  pub rest_is_bytes : IsBytes rest

-- What is read is a value in range whose text stands at the front, with what follows it; and a value
-- in range is read again from its text, whatever follows.
pub record IsForm {A : Type 0} (text : A → List ℕ) (InRange : A → Type 0) (reads : List ℕ → Option (A × List ℕ)) : Type 0 where
  pub takes : (bytes : List ℕ) (x : A) (rest : List ℕ) → IsBytes bytes → reads bytes ≡ Some (x, rest) → Begins bytes (text x) rest × InRange x
  pub again : (x : A) (rest : List ℕ) → InRange x → reads (text x ++ rest) ≡ Some (x, rest)
