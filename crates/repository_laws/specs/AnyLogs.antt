-- What the refusal of a request says of its sender's log, whatever that log is. Logs stand newest first.
use Rattle.std.specs.Prelude.{◌≡◌, ℕ, true, false, List}
use Rattle.pseudo_time.specs.Lists.{Every}
use Rattle.pseudo_time.specs.Order.{lt}
use Rattle.pseudo_time.specs.declared.nodes.NodeId.{NodeId}
use Rattle.value_form.specs.declared.objects.ObjectId.{ObjectId}
use Rattle.value_form.specs.declared.values.Value.{Value}
use Rattle.effect_form.specs.declared.effects.Effect.{Effect}
use Rattle.message_form.specs.declared.messages.Message.{Message}
use Rattle.message_form.specs.declared.messages.Message.TheVariants as message
use Rattle.message_form.specs.Posts.{Post}
use Rattle.object_history.specs.declared.steps.WriteStep.TheVariants as write
use Rattle.object_history.specs.Answers.{write_step}
use Rattle.repository_core.specs.Logs.{marks}
use Rattle.repository_core.specs.Hands.{Hand, now}
use Rattle.pseudo_time.specs.Nodes.{broker}
use Rattle.repository_laws.specs.Facts.{Once, WriteSent, WasReadLater, HeldHolds}

-- a request that repository r refuses was sent to it by the broker of its attempt, who is informed; and over its log, as it once was, that is the answer
abbrev pub Refuses : List Post → ℕ → List Effect → NodeId → Message → Type 0
Refuses ever r log to (message.LaterRead t e) = (o : ObjectId) × (to ≡ broker t.stamp.broker) × (lt t e ≡ true) × WasReadLater ever r log o t e
Refuses ever r log to (message.LaterVersion t x) = (o : ObjectId) × (v : Value) × WriteSent ever r t o v × (to ≡ broker t.stamp.broker) × (lt x t ≡ false) × Once (λ k. write_step (marks k) o t v ≡ write.LaterVersion x) log
Refuses ever r log to _ = Unit {0}

-- a turn over this log refuses rightly, and its held reads were sent by those who are to be answered
pub record RefusesRightly (ever : List Post) (r : ℕ) (log : List Effect) (h : Hand) : Type 0 where
  pub number : h.number ≡ r
  pub past : h.past ≡ log
  pub held : Every (HeldHolds ever r) h.held
  pub outs : Every (λ o. Refuses ever r (now h) o.to o.message) h.outs
