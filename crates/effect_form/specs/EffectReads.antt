-- What a call that reads an effect gives.
use Rattle.std.specs.Prelude.{◌≡◌, ℕ, ◌+◌, List, length, Option, Result, Ok, Err}
use Rattle.effect_form.specs.declared.effects.Effect.{Effect}
use Rattle.effect_form.specs.declared.effects.Place.{Place}
use Rattle.effect_form.specs.declared.faults.EffectFault.{EffectFault}
use Rattle.effect_form.specs.declared.faults.EffectFault.TheVariants.{Form, NoMemory}
use Rattle.effect_form.specs.Effects.{Written}

-- a fault is that of the reading, unless memory ran out
abbrev pub Fails : {A : Type 0} → EffectFault → Result A ℕ → Type 0
Fails (Form at) reading = reading ≡ Err at
Fails NoMemory reading = Unit {0}

-- the answer, seen by view, is what the reading gives, unless memory ran out
abbrev pub Gives : {A B : Type 0} → (A → B) → Result A EffectFault → Result B ℕ → Type 0
Gives view (Ok x) reading = reading ≡ Ok (view x)
Gives view (Err fault) reading = Fails fault reading

-- the same where the answer has the number of bytes taken, of so many, in place of those that follow
abbrev pub GivesCount : Result (Effect × Option Place × ℕ) EffectFault → ℕ → Result (Written × List ℕ) ℕ → Type 0
GivesCount (Ok x) size reading = (rest : List ℕ) × (reading ≡ Ok ((x.0, x.1), rest)) × (x.2 + length rest ≡ size)
GivesCount (Err fault) size reading = Fails fault reading
