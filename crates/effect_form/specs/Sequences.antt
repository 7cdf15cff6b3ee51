-- Fields one after another.
use Rattle.std.specs.Prelude.{ℕ, List, Option, Some, Result, Ok}
use Rattle.field_form.specs.Forms as form
use Rattle.value_form.specs.ValueBytes.{◌>>=◌, field}

-- a part of one field
abbrev pub part_one : {A X : Type 0} → (A → X) → (List ℕ → Option (A × List ℕ)) → List ℕ → Option (X × List ℕ)
part_one make f bytes = form.◌>>=◌ (f bytes) (λ a. Some (make a.0, a.1))

-- a part of two fields
abbrev pub part_two : {A B X : Type 0} → (A → B → X) → (List ℕ → Option (A × List ℕ)) → (List ℕ → Option (B × List ℕ)) → List ℕ → Option (X × List ℕ)
part_two make f g bytes = form.◌>>=◌ (f bytes) (λ a. form.◌>>=◌ (g a.1) (λ b. Some (make a.0 b.0, b.1)))

-- a whole of one field, which begins at this place
abbrev pub whole_one : {A X : Type 0} → ℕ → (A → X) → (List ℕ → Option (A × List ℕ)) → List ℕ → Result (X × List ℕ) ℕ
whole_one at make f bytes = field at (f bytes) >>= λ a. Ok (make a.0, a.1)

-- a whole of two fields, which begin at these places
abbrev pub whole_two : {A B X : Type 0} → ℕ → ℕ → (A → B → X) → (List ℕ → Option (A × List ℕ)) → (List ℕ → Option (B × List ℕ)) → List ℕ → Result (X × List ℕ) ℕ
whole_two first second make f g bytes = field first (f bytes) >>= λ a. field second (g a.1) >>= λ b. Ok (make a.0 b.0, b.1)
