-- A text that is told, if it could be made.
use Rattle.std.proofs.Common.{◌≡◌, ◌⊎◌, inl, inr, ℕ, List, ap, ◌∙◌}
use Rattle.std.specs.Prelude.{IfOk, Result, Ok, Err}
use Rattle.snapshot_command.specs.Answers.{IsTold}
use Rattle.snapshot_command.specs.Outcome.{Outcome}
use Rattle.snapshot_command.specs.Outcome.TheVariants.{Told, NoMemory}

pub told-one : {E : Type 0} (due : List ℕ) (r : Result (List ℕ) E) (o : Outcome) → IfOk r (λ text. text ≡ due) → IsTold r o → (o ≡ NoMemory) ⊎ (o ≡ Told due)
told-one due (Ok text) o is told = inr (told ∙ ap Told is)
told-one due (Err e) o is told = inl told
