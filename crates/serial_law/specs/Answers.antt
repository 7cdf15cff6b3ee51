-- Who answered a request, and what a reader wrote itself before.
use Rattle.std.specs.Prelude.{◌≡◌, ℕ, ◌+◌, true, length, List, ◌∷◌, ◌++◌, Some}
use Rattle.pseudo_time.specs.Order.{lt}
use Rattle.pseudo_time.specs.TimeParts.{TimeParts}
use Rattle.value_form.specs.declared.objects.ObjectId.{ObjectId}
use Rattle.value_form.specs.declared.values.Value.{Value}
use Rattle.effect_form.specs.declared.outcomes.Outcome.TheVariants as outcome
use Rattle.message_form.specs.declared.messages.Message.{Message}
use Rattle.message_form.specs.declared.messages.Message.TheVariants as message
use Rattle.message_form.specs.Posts.{Post, WasSent}
use Rattle.script_meaning.specs.Meaning.{Answer, Got, Stored, Request, Asks}
use Rattle.serial_model.specs.Questions.{Tree, stop}
use Rattle.broker_core.specs.Book.{Try, time_of}
use Rattle.pseudo_time.specs.Nodes.{broker, repository}
use Rattle.broker_laws.specs.Posts.{at}
use Rattle.serial_law.specs.Facts.{asked_of}

-- the message that brings an answer
abbrev pub brings : TimeParts → Answer → Message
brings x (Got v) = message.Value x v
brings x Stored = message.Stored x

-- each answer of the try, and each refusal, was sent by the repository of the object that was asked for
pub record IsAnsweredThere (script : List ℕ → Tree) (b : ℕ) (ever : List Post) (t : Try) : Type 0 where
  pub answers : (pre post : List Answer) (a : Answer) (q : Request) → t.answers ≡ pre ++ (a ∷ post) → stop (script t.task.script) pre ≡ Asks q →
      WasSent ever (repository (asked_of q).repository) (broker b) (brings (at t.stamp (length pre + 1)) a)
  pub read : (o : ObjectId) (e : TimeParts) → t.end ≡ Some (outcome.LaterRead o e) → WasSent ever (repository o.repository) (broker b) (message.LaterRead (time_of t) e)
  pub version : (o : ObjectId) (x : TimeParts) → t.end ≡ Some (outcome.LaterVersion o x) → WasSent ever (repository o.repository) (broker b) (message.LaterVersion (time_of t) x)

-- a write at y of the attempt that reads at x was stored: of this value, to this object, before the read
pub record StoredBefore (ever : List Post) (x : TimeParts) (o : ObjectId) (y : TimeParts) (w : Value) : Type 0 where
  pub same : y.stamp ≡ x.stamp
  pub below : lt y x ≡ true
  pub asked : WasSent ever (broker y.stamp.broker) (repository o.repository) (message.Write y o w)
  pub stored : WasSent ever (repository o.repository) (broker y.stamp.broker) (message.Stored y)
