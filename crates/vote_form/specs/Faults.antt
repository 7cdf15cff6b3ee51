-- What is wrong with bytes that are no input of votes.
use Rattle.std.specs.Prelude.{◌≡◌, ◌⊎◌, ℕ, ◌+◌, ◌<◌, ◌≤◌, List, [], ◌∷◌, ◌++◌, length, Result, Ok, Err}
use Rattle.std.specs.declared.alloc.Global.{Global}
use Rattle.std.specs.declared.vec.Vec.{Vec}
use Rattle.script_form.specs.Lines.{lines}
use Rattle.vote_form.specs.declared.poll_lines.PollLine.{PollLine}
use Rattle.vote_form.specs.declared.votes_faults.VotesFault.{VotesFault}
use Rattle.vote_form.specs.declared.votes_faults.VotesFault.TheVariants.{Line, NoMemory}
use Rattle.vote_form.specs.Inputs.{title, AreVotes, IsInput}

-- some lines behind them make them an input
abbrev pub BeginVotes : List (List ℕ) → Type 0
BeginVotes ls = (polls : List PollLine) × (more : List (List ℕ)) × AreVotes (ls ++ more) polls

-- the first line with which the lines begin no input
pub record FaultAt (ls : List (List ℕ)) (at : ℕ) : Type 0 where
  pub before : List (List ℕ)
  pub line : List ℕ
  pub rest : List (List ℕ)
  pub are : ls ≡ before ++ line ∷ rest
  pub count : at ≡ length before + 1
  pub begins : BeginVotes before
  pub never : BeginVotes (before ++ line ∷ []) → ⊥

-- Lines that are missing altogether are wrong at the first.
abbrev pub IsLinesFault : List (List ℕ) → ℕ → Type 0
IsLinesFault ls at = ((ls ≡ []) × (at ≡ 1)) ⊎ FaultAt ls at

-- too many bytes, before all else; or a line
abbrev pub IsInputFault : List ℕ → ℕ → Type 0
IsInputFault bytes at = ((4194304 < length bytes) × (at ≡ 0)) ⊎ ((length bytes ≤ 4194304) × IsLinesFault (lines bytes) at)

-- Ok with the polls that the bytes are; else their fault.
abbrev pub Parses : List ℕ → Result (Vec PollLine Global) VotesFault → Type 0
Parses bytes (Ok polls) = IsInput bytes polls.items
Parses bytes (Err (Line at)) = IsInputFault bytes at
Parses bytes (Err NoMemory) = Unit {0}

-- ---- behind the title

-- the polls that the bytes behind the title are; or the fault of the whole
abbrev pub ReadsPolls : List ℕ → Result (Vec PollLine Global) VotesFault → Type 0
ReadsPolls bytes (Ok polls) = AreVotes (title ∷ lines bytes) polls.items
ReadsPolls bytes (Err (Line at)) = FaultAt (title ∷ lines bytes) at
ReadsPolls bytes (Err NoMemory) = Unit {0}
