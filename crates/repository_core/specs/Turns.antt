-- A repository's turn: what it gives for what reaches it.
use Rattle.std.specs.Prelude.{ℕ, Bool, List, [], reverse}
use Rattle.pseudo_time.specs.StampParts.{StampParts}
use Rattle.pseudo_time.specs.declared.nodes.NodeId.{NodeId}
use Rattle.repository_draft.specs.Effect.{Effect}
use Rattle.repository_draft.specs.Message.{Message}
use Rattle.repository_draft.specs.Out.{Out}
use Rattle.repository_core.specs.Hands.{Mind, Hand}
use Rattle.repository_core.specs.Rows.{on_message, on_learn}
use Rattle.repository_core.specs.Hearing.{on_moment}

-- what reaches a repository: a message with its sender, a decision that it learns otherwise, or a moment
pub data Input : Type 0 where
  Taking : NodeId → Message → Input
  Learning : StampParts → Bool → Input
  Hearing : ℕ → Input

-- what a repository remembers when it is opened, also after a crash
abbrev pub opened_mind : ℕ → Mind
opened_mind start = record { held = []; askers = []; moment = start }

-- a turn begins with nothing added and nothing owed; here the log stands newest first
abbrev pub hand_at : ℕ → List Effect → Mind → Hand
hand_at n log mind = record { number = n; past = log; added = []; outs = []; held = mind.held; askers = mind.askers; moment = mind.moment }

abbrev pub hand_turn : Hand → Input → Hand
hand_turn h (Taking from m) = on_message h from m
hand_turn h (Learning s c) = on_learn h s c
hand_turn h (Hearing m) = on_moment h m

-- what a turn gives: its effects and the messages that it owes, in order, and what the repository then remembers
pub record Given : Type 0 where
  pub effects : List Effect
  pub outs : List Out
  pub mind : Mind

abbrev pub mind_of : Hand → Mind
mind_of h = record { held = h.held; askers = h.askers; moment = h.moment }

-- THE RULES OF REPOSITORIES: what repository n gives by its whole log, oldest first, by what it remembers, and for what it is told
unfoldable pub gives : ℕ → List Effect → Mind → Input → Given
gives n log mind input =
    let h : Hand = hand_turn (hand_at n (reverse log) mind) input in
    record { effects = reverse h.added; outs = h.outs; mind = mind_of h }
