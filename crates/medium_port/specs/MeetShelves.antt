-- What a shelf of media that meet one another has.
use Rattle.std.specs.Prelude.{◌≡◌, ℕ, List, []}
use Rattle.medium_port.specs.AskedNames.{names_of}
use Rattle.medium_port.specs.MemoryShelves.{TakenFrom, faults_under}
use Rattle.medium_port.specs.declared.shelves.MediumName.{MediumName}
use Rattle.medium_port.specs.declared.meet_shelves.MeetShelf.{MeetShelf}

abbrev pub TakenThere : MeetShelf → MediumName → Type 0
TakenThere s name = TakenFrom s.inner name

abbrev pub faults_there : MeetShelf → MediumName → ℕ
faults_there s name = faults_under s.inner name

-- the names that were asked for
abbrev pub asked_there : MeetShelf → List MediumName
asked_there s = names_of s.asked

abbrev pub taking_faults : MeetShelf → ℕ
taking_faults s = s.faults

-- no medium was asked for, and none has failed
pub record IsUntouched (s : MeetShelf) : Type 0 where
  pub free : (name : MediumName) → TakenThere s name → ⊥
  pub well : (name : MediumName) → faults_there s name ≡ 0
  pub takings : taking_faults s ≡ 0
  pub asked : asked_there s ≡ []
