-- A repository's histories in a call.
use Rattle.std.specs.Prelude.{◌≡◌, ℕ, ◌≤◌, Bool, IsTrue, List, ◌++◌, Result, IfErr}
use Rattle.stream_port.specs.Causes.{Rose}
use Rattle.repository_draft.specs.Mark.{Mark}
use Rattle.repository_draft.specs.HistoryFault.{HistoryFault}
use Rattle.repository_draft.specs.HistoryFault.TheVariants as fault

-- the content goes on from the old one
pub record Begins (old new : List Mark) : Type 0 where
  pub more : List Mark
  pub grown : new ≡ more ++ old

-- since the call began, the content went on, what lies below stayed, and the counts didn't fall
pub record Since {H B : Type 0} (content : H → List Mark) (below : H → B) (faults damage : H → ℕ) (first now : H) : Type 0 where
  pub begins : Begins (content first) (content now)
  pub stays : below now ≡ below first
  pub faults_stay : faults first ≤ faults now
  pub damage_stays : damage first ≤ damage now

-- a fault of the histories has its cause in this call, and histories that tell have no damage
abbrev pub IsCaused : {H : Type 0} → Bool → (H → ℕ) → (H → ℕ) → H → H → HistoryFault → Type 0
IsCaused tells faults damage first now fault.Medium = Rose (faults first) (faults now)
IsCaused tells faults damage first now (fault.Damaged page) = Rose (damage first) (damage now) × (IsTrue tells → ⊥)
IsCaused tells faults damage first now fault.NoMemory = Unit {0}

-- What a step of a call leaves, where the call began with the histories `first`, as is remembered before the step, and `again`,
-- after it: the histories are what the call may make of them, a fault has its cause in the call, and it is the same call.
pub record WentOn {H B T : Type 0} (tells : Bool) (content : H → List Mark) (below : H → B) (faults damage : H → ℕ)
    (first again now : H) (result : Result T HistoryFault) : Type 0 where
  pub since : Since content below faults damage again now
  pub fault : IfErr result (IsCaused tells faults damage again now)
  pub call : again ≡ first
