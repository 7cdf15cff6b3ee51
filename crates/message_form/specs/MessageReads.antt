-- What a call that reads a message gives.
use Rattle.std.specs.Prelude.{◌≡◌, ℕ, Result, Ok, Err}
use Rattle.message_form.specs.declared.faults.MessageFault.{MessageFault}
use Rattle.message_form.specs.declared.faults.MessageFault.TheVariants.{Form, NoMemory}

-- a fault is that of the reading, unless memory ran out
abbrev pub Fails : {A : Type 0} → MessageFault → Result A ℕ → Type 0
Fails (Form at) reading = reading ≡ Err at
Fails NoMemory reading = Unit {0}

-- the answer, seen by view, is what the reading gives, unless memory ran out
abbrev pub Gives : {A B : Type 0} → (A → B) → Result A MessageFault → Result B ℕ → Type 0
Gives view (Ok x) reading = reading ≡ Ok (view x)
Gives view (Err fault) reading = Fails fault reading
