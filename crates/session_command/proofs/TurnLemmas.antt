-- What a turn comes to.
use Rattle.std.proofs.Common.{◌≡◌, ◌++◌, ◌+◌, ◌∙◌, ℕ, List, [], ◌∷◌, length, ap, inl, inr, refl, subst, sym, ◌⊎◌}
use Rattle.std.specs.Prelude.{Option, codes}
use Rattle.std.specs.Io.KnownBytes.{Consumes, IsAtEnd}
use Rattle.stream_port.specs.Causes.{Rose}
use Rattle.stream_port.specs.declared.fates.Asked.{Asked}
use Rattle.medium_port.specs.declared.shelves.Shelf.{Ghosts}
use Rattle.session_form.specs.Sessions.{IsBatch, batch_text, counted, ended}
use Rattle.command_words.specs.declared.commands.Options.{Options}
use Rattle.plan_volumes.specs.Media.{Media}
use Rattle.run_command.specs.declared.stops.Stop.{Stop}
use Rattle.run_command.specs.declared.stops.Stop.TheVariants as stop
use Rattle.run_command.specs.Written.{EndsIfAny}
use Rattle.session_command.specs.Chains.{Answered, GoesOn}
use Rattle.session_command.specs.Inputs.{HasEnded}
use Rattle.session_command.specs.Judged.{Judged}
use Rattle.session_command.specs.Lines.{cut_line}
use Rattle.session_command.specs.Sessions.{EndsAtSource, EndsInBatch, Stops}
use Rattle.session_command.specs.Standings.{IsStill, Standing, standing, sunk}
use Rattle.session_command.specs.Texts.{own}
use Rattle.session_command.specs.Kept.{AreIdle, IsKept}
use Rattle.session_command.specs.Turns.{IsAfter, StoppedAs, Turned, WentOn}
use Rattle.session_command.specs.declared.turns.Turn.{Turn}
use Rattle.session_command.specs.declared.turns.Turn.TheVariants.{On, Ended, Stopped}
use Rattle.session_command.proofs.InputLemmas.{ended-append}

-- a head with a batch behind it
text-of : (repositories brokers : List ℕ) (batch : List (List ℕ)) (head : List ℕ) → head ≡ batch_text repositories brokers [] → head ++ ended batch ≡ batch_text repositories brokers batch
text-of repositories brokers batch head is = ap (λ (l : List ℕ). l ++ ended batch) is ∙ sym (ended-append (codes "swallow plan 1" ∷ codes "run 1" ∷ repositories ∷ brokers ∷ []) batch)

module _ {H M : Type 0} (g : Ghosts H M) (w : Media M) (o : Options) (repositories brokers : List ℕ) (input left : Option (List ℕ)) (faults_before faults before lines : ℕ) (status : ℕ) (s t : Standing H) where
  -- a batch was read and answered
  pub batch-turned : (head text : List ℕ) → head ≡ batch_text repositories brokers [] → (turn : Turn) → IsAfter status turn
      → ((front : List ℕ) × (batch : List (List ℕ)) × IsBatch front batch × Consumes input left front × IsKept text (head ++ ended batch) × (lines ≡ counted (before + (length batch + 1))))
      → ((whole : List ℕ) → IsKept text whole → Judged g w o whole before status s t) → Turned g w o repositories brokers input left faults_before faults before lines status s t turn
  batch-turned head text is On goes (front, batch, one, read, kept, count) judged =
      record { front = front; batch = batch; is = one; read = read; count = count; answered = judged (batch_text repositories brokers batch) (subst (IsKept text) (text-of repositories brokers batch head is) kept); goes = goes }
  batch-turned head text is Stopped goes (front, batch, one, read, kept, count) judged =
      inr (inr (inl (record { front = front; batch = batch; begins = (left, read); is = one; answered = judged (batch_text repositories brokers batch) (subst (IsKept text) (text-of repositories brokers batch head is) kept); last = goes })))
  batch-turned head text is Ended goes r judged = absurd goes

-- the input ended in a batch
pub cut-turned : {H : Type 0} (s t : Standing H) (old now : Option (List ℕ)) (head : List ℕ) (before lines line status : ℕ)
    → ((ls : List (List ℕ)) × (last : List ℕ) × HasEnded old now head before lines ls last × (AreIdle (ls ++ last ∷ []) → ⊥) × (line ≡ counted (before + (length ls + (own last + 1)))))
    → IsStill s t → EndsIfAny status (sunk s t) 2 (cut_line line) → EndsInBatch s t old before status
cut-turned s t old now head before lines line status (ls, last, ended_so, some, line_is) still told =
    record { rest = ended_so.rest; ls = ls; last = last; all = (now, ended_so.all, ended_so.end); is = ended_so.is; some = some; still = still; line = subst (λ (n : ℕ). EndsIfAny status (sunk s t) 2 (cut_line n)) line_is told }

module _ {H : Type 0} (shelf : H) (taken new_taken : Option (List ℕ)) (faults new_faults : ℕ) (asked : List Asked) (answers : Option (List ℕ)) where
  nothing-changed : new_taken ≡ taken → new_faults ≡ faults → standing shelf new_taken new_faults asked answers ≡ standing shelf taken faults asked answers
  nothing-changed e f = ap (λ (x : Option (List ℕ)). standing shelf x new_faults asked answers) e ∙ ap (λ (n : ℕ). standing shelf taken n asked answers) f

  -- no more is read
  pub stopped : {M : Type 0} (g : Ghosts H M) (w : Media M) (o : Options) (repositories brokers : List ℕ) (input : Option (List ℕ)) (faults_before faults_now before status : ℕ) (why : Stop) → (why ≡ stop.Source → Rose faults_before faults_now)
      → StoppedAs why status (sunk (standing shelf taken faults asked answers) (standing shelf new_taken new_faults asked answers))
      → Stops g w o repositories brokers input faults_before faults_now before status (standing shelf taken faults asked answers) (standing shelf new_taken new_faults asked answers)
  stopped g w o repositories brokers input faults_before faults_now before status stop.Source rose told =
      inr (inl (record { status_is = told.0; rose = rose refl; still = record { shelf = refl; asked = refl; answers = refl }; line = told.1 }))
  stopped g w o repositories brokers input faults_before faults_now before status stop.NoMemory rose told = inr (inr (inr (told.0, nothing-changed told.1.0 told.1.1)))
  stopped g w o repositories brokers input faults_before faults_now before status stop.Words rose told = inr (inr (inr (told.0, nothing-changed told.1.0 told.1.1)))
  stopped g w o repositories brokers input faults_before faults_now before status (stop.Fault line kind) rose told = inr (inr (inr (told.0, nothing-changed told.1.0 told.1.1)))
  stopped g w o repositories brokers input faults_before faults_now before status (stop.Votes line) rose told = inr (inr (inr (told.0, nothing-changed told.1.0 told.1.1)))
  stopped g w o repositories brokers input faults_before faults_now before status stop.Sink rose told = inr (inr (inr (told.0, nothing-changed told.1.0 told.1.1)))
