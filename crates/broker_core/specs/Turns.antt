-- What a broker does with an input.
use Rattle.std.specs.Prelude.{ℕ, zero, suc, ◌+◌, ◌*◌, true, length, List, [], ◌∷◌, ◌++◌, Option, Some, None}
use Rattle.broker_ledger.specs.Effect.{Effect}
use Rattle.message_form.specs.declared.messages.Message.{Message}
use Rattle.broker_ledger.specs.NodeId.{NodeId}
use Rattle.message_form.specs.declared.turns.Out.{Out}
use Rattle.broker_ledger.specs.Questions.{Tree}
use Rattle.broker_ledger.specs.declared.heards.Heard.{Heard}
use Rattle.broker_core.specs.declared.replies.Reply.{Reply}
use Rattle.broker_core.specs.declared.replies.Reply.TheVariants.{Ignored, Hears, Adds}
use Rattle.broker_ledger.specs.Tasks.{Task}
use Rattle.broker_ledger.specs.Book.{Book, book}
use Rattle.broker_ledger.specs.Fits.{keep}
use Rattle.broker_core.specs.Stages.{stage, standing}
use Rattle.broker_core.specs.Rows.{row, news}
use Rattle.broker_core.specs.Owed.{owed}

-- a broker at work: its log, its new effects (newest first), its new messages (oldest first), and what it heard
pub record Desk : Type 0 where
  pub past : List Effect
  pub added : List Effect
  pub outs : List Out
  pub heard : Heard

abbrev pub desk_at : List Effect → Heard → Desk
desk_at log h = record { past = log; added = []; outs = []; heard = h }

abbrev pub all_effects : Desk → List Effect
all_effects d = d.added ++ d.past

abbrev pub note : Effect → Desk → Desk
note f d = record d { added = f ∷ d.added }

abbrev pub hears : Heard → Desk → Desk
hears h d = record d { heard = h }

abbrev pub send : Option Out → Desk → Desk
send None d = d
send (Some o) d = record d { outs = d.outs ++ (o ∷ []) }

-- a go, a moment that is heard, or a message with its sender
pub data Input : Type 0 where
  Go : Input
  Hear : ℕ → Input
  Take : NodeId → Message → Input

abbrev pub note_if : (Desk → Desk) → Option Effect → Desk → Desk
note_if next None d = d
note_if next (Some f) d = next (note f d)

-- so many effects are owed at most, one after another
abbrev pub fuel : List Task → ℕ
fuel acts = 3 * length acts + 3

module _ (script : List ℕ → Tree) (me run : ℕ) (acts : List Task) where
  -- the state of a broker: the book of the part of its log that counts
  abbrev pub state : Desk → Book
  state d = book (keep script me run acts (all_effects d))

  -- the effects that are owed follow, until none is owed
  unfoldable pub settle_up : ℕ → Desk → Desk
  settle_up zero d = d
  settle_up (suc n) d = note_if (settle_up n) (owed script me run acts (state d) d.heard) d

  -- the outstanding request is sent
  abbrev pub say : Desk → Desk
  say d = send (standing (stage script run (state d) d.heard)) d

  -- after each row the effects that are owed follow, and then the request is sent
  abbrev pub reply : Desk → Reply → Desk
  reply d Ignored = d
  reply d (Hears h) = say (settle_up (fuel acts) (hears h d))
  reply d (Adds f) = say (settle_up (fuel acts) (note f d))

  abbrev pub desk_turn : Desk → Input → Desk
  desk_turn d Go = say (settle_up (fuel acts) (hears (record d.heard { gone = true }) d))
  desk_turn d (Hear m) = say d
  desk_turn d (Take from m) = reply d (row script (stage script run (state d) d.heard) d.heard (news m))
