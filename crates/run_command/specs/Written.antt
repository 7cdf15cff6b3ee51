-- What a sink has got of a text.
use Rattle.std.specs.Prelude.{◌≡◌, ℕ, List, ◌++◌, Option, ◌⊎◌, Result, Ok, Err}
use Rattle.std.specs.Io.KnownBytes.{Appends}
use Rattle.stream_port.specs.Causes.{Rose}

-- it got a prefix of the text
abbrev pub AppendsFront : Option (List ℕ) → Option (List ℕ) → List ℕ → Type 0
AppendsFront old new text = (front rest : List ℕ) × (text ≡ front ++ rest) × Appends old new front

-- what a sink had and has, and how often it had failed and has
pub record Sinking : Type 0 where
  pub taken_before : Option (List ℕ)
  pub taken : Option (List ℕ)
  pub faults_before : ℕ
  pub faults : ℕ

abbrev pub sinking : (taken_before taken : Option (List ℕ)) → (faults_before faults : ℕ) → Sinking
sinking taken_before taken faults_before faults = record { taken_before = taken_before; taken = taken; faults_before = faults_before; faults = faults }

-- it got the text
abbrev pub Got : Sinking → List ℕ → Type 0
Got s text = Appends s.taken_before s.taken text

-- it failed, and got a prefix of the text
abbrev pub GotFront : Sinking → List ℕ → Type 0
GotFront s text = AppendsFront s.taken_before s.taken text × Rose s.faults_before s.faults

-- it got the line, or failed at it
abbrev pub GotLine : Sinking → List ℕ → Type 0
GotLine s text = Got s text ⊎ GotFront s text

-- The sink got the text and this is the status of its run; or it failed and got a prefix of it, and the status is 4.
abbrev pub Ends : ℕ → Sinking → (status_there : ℕ) → List ℕ → Type 0
Ends status s status_there text = ((status ≡ status_there) × Got s text) ⊎ ((status ≡ 4) × GotFront s text)

-- it got nothing, and didn't fail
abbrev pub GotNothing : Sinking → Type 0
GotNothing s = (s.taken ≡ s.taken_before) × (s.faults ≡ s.faults_before)

-- memory ran out before anything was written
abbrev pub HasNoMemory : ℕ → Sinking → Type 0
HasNoMemory status s = (status ≡ 7) × GotNothing s

-- or memory ran out for the text
abbrev pub EndsIfAny : ℕ → Sinking → (status_there : ℕ) → List ℕ → Type 0
EndsIfAny status s status_there text = HasNoMemory status s ⊎ Ends status s status_there text

-- this status tells that a text was written, if it could be made
abbrev pub TellsText : {E : Type 0} → Result (List ℕ) E → ℕ → ℕ → Sinking → Type 0
TellsText (Ok text) written status s = Ends status s written text
TellsText (Err e) written status s = HasNoMemory status s
