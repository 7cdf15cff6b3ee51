-- Each copy of a flight is one of a message that was sent to its node.
use Rattle.std.specs.Prelude.{◌≡◌, ℕ, ◌-◌, ◌≤◌, List, Some, slice_get}
use Rattle.pseudo_time.specs.declared.nodes.NodeId.{NodeId}
use Rattle.pseudo_time.specs.Lists.{Every}
use Rattle.message_form.specs.declared.messages.Message.{Message}
use Rattle.message_form.specs.Messages.{IsMessage, message_bytes}
use Rattle.message_core.specs.declared.letters.Letter.{Letter}
use Rattle.message_core.specs.declared.letters.HeldCopy.{HeldCopy}
use Rattle.message_core.specs.Flights.{State}

-- the message of this number was sent to this node
pub record WentTo (letters : List Letter) (node : NodeId) (number : ℕ) : Type 0 where
  pub letter : Letter
  pub from_one : 1 ≤ number
  pub there : slice_get letters (number - 1) ≡ Some letter
  pub to : letter.to ≡ node

abbrev pub AllWentTo : List Letter → NodeId → List ℕ → Type 0
AllWentTo letters node = Every (WentTo letters node)

abbrev pub AllWent : List Letter → List HeldCopy → Type 0
AllWent letters = Every (λ (h : HeldCopy). WentTo letters h.to h.number)

-- the text is that of a message
pub record HasText (letter : Letter) : Type 0 where
  pub message : Message
  pub in_range : IsMessage message
  pub text : letter.text ≡ message_bytes message

abbrev pub AllHaveText : List Letter → Type 0
AllHaveText = Every HasText

pub record IsSound (s : State) : Type 0 where
  pub queued : (node : NodeId) (queue : List ℕ) → s.queues node ≡ Some queue → AllWentTo s.letters node queue
  pub held : (due : ℕ) → AllWent s.letters (s.held due)
  pub texts : AllHaveText s.letters
