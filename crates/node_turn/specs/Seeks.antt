-- What the board was tested for with a pass.
use Rattle.std.specs.Prelude.{◌≡◌, ◌⊎◌, ℕ, true, List, [], Option, Some, None}
use Rattle.node_inputs.specs.Lists.{Has}
use Rattle.node_inputs.specs.StampParts.{StampParts}
use Rattle.node_inputs.specs.NodeId.{NodeId}
use Rattle.node_inputs.specs.Effect.{Effect}
use Rattle.node_inputs.specs.Message.TheVariants as message
use Rattle.node_inputs.specs.Out.{Out}
use Rattle.node_inputs.specs.Logs.{knows}
use Rattle.node_inputs.specs.Boards.{place_of, number_of}
use Rattle.node_inputs.specs.Decisions.{Decided, answer_of}
use Rattle.node_inputs.specs.Sights.{Sight}
use Rattle.node_inputs.specs.Trails.{Trail}

-- ---- the board

-- a test of the stamp's word found a number that isn't the stamp's
abbrev pub IsMissed : List (ℕ × ℕ) → StampParts → Type 0
IsMissed tests s = (number : ℕ) × Has (place_of s, number) tests × (answer_of s number ≡ None)

-- a test of the stamp's word found this decision of it
abbrev pub IsFound : List (ℕ × ℕ) → Decided → Type 0
IsFound tests d = Has (place_of d.0, number_of d.0 d.1) tests

-- the log knows the stamp, or a test missed it
abbrev pub IsSought : List Effect → StampParts → List (ℕ × ℕ) → Type 0
IsSought log s tests = (knows log s ≡ true) ⊎ IsMissed tests s

-- the attempt whose decision a message asks for
abbrev pub stamp_asked : Out → Option StampParts
stamp_asked out = elim out.message [ message.Ask s ↦ Some s | _ ↦ None ]

-- so it is of each stamp that these messages ask for
abbrev pub AreSought : List Effect → List Out → List (ℕ × ℕ) → Type 0
AreSought log outs tests = (out : Out) (s : StampParts) → Has out outs → stamp_asked out ≡ Some s → IsSought log s tests

-- ---- what was done

-- Nothing was sent, each decision that was learned was found by a test, and the tests have P.
pub record Seeks (n : NodeId) (old new : Sight) (P : List (ℕ × ℕ) → Type 0) : Type 0 where
  pub learned : List Decided
  pub tested : List (ℕ × ℕ)
  pub trail : Trail n old new [] learned tested 0
  pub found : (d : Decided) → Has d learned → IsFound tested d
  pub says : P tested

-- Each Ask that was sent was missed by a test before, and each decision that was learned was found by one.
pub record HasTested (n : NodeId) (old new : Sight) : Type 0 where
  pub sent : List Out
  pub learned : List Decided
  pub tested : List (ℕ × ℕ)
  pub cost : ℕ
  pub trail : Trail n old new sent learned tested cost
  pub asks : (out : Out) (s : StampParts) → Has out sent → stamp_asked out ≡ Some s → IsMissed tested s
  pub found : (d : Decided) → Has d learned → IsFound tested d
