-- What a call that reads a value gives.
use Rattle.std.specs.Prelude.{◌≡◌, ℕ, ◌+◌, List, length, Result, Ok, Err}
use Rattle.value_form.specs.declared.values.Value.{Value}
use Rattle.value_form.specs.declared.value_faults.ValueFault.{ValueFault}
use Rattle.value_form.specs.declared.value_faults.ValueFault.TheVariants.{Form, NoMemory}

-- a fault is that of the reading, unless memory ran out
abbrev pub Fails : {A : Type 0} → ValueFault → Result A ℕ → Type 0
Fails (Form at) reading = reading ≡ Err at
Fails NoMemory reading = Unit {0}

-- the answer, seen by view, is what the reading gives, unless memory ran out
abbrev pub Gives : {A B : Type 0} → (A → B) → Result A ValueFault → Result B ℕ → Type 0
Gives view (Ok x) reading = reading ≡ Ok (view x)
Gives view (Err fault) reading = Fails fault reading

-- the same where the answer has the number of bytes taken, of so many, in place of those that follow
abbrev pub GivesCount : Result (Value × ℕ) ValueFault → ℕ → Result (Value × List ℕ) ℕ → Type 0
GivesCount (Ok x) size reading = (rest : List ℕ) × (reading ≡ Ok (x.0, rest)) × (x.1 + length rest ≡ size)
GivesCount (Err fault) size reading = Fails fault reading
