-- What comes of the batches of a session, one after another.
use Rattle.std.specs.Prelude.{◌≡◌, ◌⊎◌, ℕ, ◌+◌, ◌==◌, ◌||◌, max, List, [], ◌∷◌, length, if◌then◌else◌}
use Rattle.medium_port.specs.declared.shelves.Shelf.{Ghosts}
use Rattle.session_form.specs.Sessions.{batch_text, counted}
use Rattle.command_words.specs.declared.commands.Options.{Options}
use Rattle.plan_volumes.specs.Media.{Media}
use Rattle.session_command.specs.Judged.{Judged}
use Rattle.session_command.specs.Standings.{Standing}

-- the session goes on after a batch of this status
abbrev pub GoesOn : ℕ → Type 0
GoesOn status = (status ≡ 0) ⊎ ((status ≡ 2) ⊎ (status ≡ 5))

-- the graver of two statuses after which it goes on: 2, then 5, then 0
abbrev pub graver : ℕ → ℕ → ℕ
graver a b = if (a == 2) || (b == 2) then 2 else max a b

abbrev pub gravest_from : ℕ → List ℕ → ℕ
gravest_from status [] = status
gravest_from status (n ∷ statuses) = gravest_from (graver status n) statuses

abbrev pub gravest : List ℕ → ℕ
gravest statuses = gravest_from 0 statuses

module _ {H M : Type 0} (g : Ghosts H M) (w : Media M) (o : Options) (repositories brokers : List ℕ) where
  -- what came of a batch
  abbrev pub Answered : (before : ℕ) → List (List ℕ) → (status : ℕ) → Standing H → Standing H → Type 0
  Answered before batch status s t = Judged g w o (batch_text repositories brokers batch) before status s t

  -- The batches were answered with these statuses, one after another, each over what the one before left. So many lines were before the first.
  abbrev pub Chain : (before : ℕ) → List (List (List ℕ)) → List ℕ → Standing H → Standing H → Type 0
  Chain before [] [] s t = t ≡ s
  Chain before [] (n ∷ statuses) s t = ⊥
  Chain before (batch ∷ batches) [] s t = ⊥
  Chain before (batch ∷ batches) (n ∷ statuses) s t = (u : Standing H) × Answered (counted before) batch n s u × Chain (before + (length batch + 1)) batches statuses u t
