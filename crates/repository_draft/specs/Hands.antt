-- A repository's turn while it is in hand: what it was given, and what it has added and owes so far.
use Rattle.std.specs.Prelude.{ℕ, List, [], ◌∷◌, ◌++◌}
use Rattle.std.specs.Ordering.{nat_cmp, ordering_then}
use Rattle.std.specs.declared.cmp.Ordering.{Ordering}
use Rattle.pseudo_time.specs.StampParts.{stamp_cmp}
use Rattle.pseudo_time.specs.TimeParts.{TimeParts}
use Rattle.pseudo_time.specs.declared.nodes.NodeId.{NodeId}
use Rattle.effect_form.specs.declared.effects.Effect.{Effect}
use Rattle.message_form.specs.declared.messages.Message.{Message}
use Rattle.message_form.specs.declared.turns.Out.{Out}
use Rattle.repository_draft.specs.declared.waits.HeldRead.{HeldRead}
use Rattle.repository_draft.specs.declared.waits.Asker.{Asker}

-- `past` is the log as the turn began, and `added` the effects of the turn, both newest first; `outs` are the messages
-- of the turn, in the order in which they are sent.
pub record Hand : Type 0 where
  pub number : ℕ
  pub past : List Effect
  pub added : List Effect
  pub outs : List Out
  pub held : List (TimeParts × HeldRead)
  pub askers : List Asker
  pub moment : ℕ

-- the log with the effects of the turn
abbrev pub now : Hand → List Effect
now h = h.added ++ h.past

-- an effect is added
abbrev pub note : Effect → Hand → Hand
note f h = record h { added = f ∷ h.added }

-- a message is owed
abbrev pub send : NodeId → Message → Hand → Hand
send to m h = record h { outs = h.outs ++ record { to = to; message = m } ∷ [] }

-- by the repository's number, then the stamp
abbrev pub asker_cmp : Asker → Asker → Ordering
asker_cmp a b = ordering_then (nat_cmp a.repository b.repository) (stamp_cmp a.stamp b.stamp)
