-- The decisions that a gate opens, and what a word of the board tells of a stamp.
use Rattle.std.specs.Prelude.{ℕ, ◌+◌, ◌==◌, Bool, true, false, List, [], ◌∷◌, map, Option, Some, None, if◌then◌else◌}
use Rattle.std.specs.List.{flat_map}
use Rattle.pseudo_time.specs.StampParts.{StampParts}
use Rattle.pseudo_time.specs.declared.nodes.NodeId.{NodeId}
use Rattle.pseudo_time.specs.Nodes.{repository, same_node}
use Rattle.effect_form.specs.declared.effects.Effect.{Effect}
use Rattle.effect_form.specs.declared.effects.Effect.TheVariants as effect
use Rattle.world_core.specs.Nodes.{is_commit}
use Rattle.wire_core.specs.Boards.{place_of, number_of}

-- a stamp with whether it is committed
abbrev pub Decided : Type 0
Decided = StampParts × Bool

-- the decision that an effect is, where the stamp's home is this node
abbrev pub decision_in : NodeId → Effect → List Decided
decision_in n e = elim e [ effect.Decide s d ↦ if same_node (repository s.home) n then (s, is_commit d) ∷ [] else [] | _ ↦ [] ]

-- the decisions among these effects whose stamp has this node as its home, in order
abbrev pub decided_by : NodeId → List Effect → List Decided
decided_by n es = flat_map (decision_in n) es

-- each decision's word with its number
abbrev pub posted : List Decided → List (ℕ × ℕ)
posted ds = map (λ (d : Decided). (place_of d.0, number_of d.0 d.1)) ds

-- the decision of this stamp that a number tells; None where the number isn't this stamp's
abbrev pub answer_of : StampParts → ℕ → Option Bool
answer_of s number = if number == number_of s true then Some true else if number == number_of s false then Some false else None

-- the stamp 1.1.1, and one with a clock so much later
abbrev pub stamp_after : ℕ → StampParts
stamp_after more = record { clock = more + 1; broker = 1; home = 1 }
