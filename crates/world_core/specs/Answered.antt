-- A request that a repository took, and how its history answered. Logs stand newest first in what histories say.
use Rattle.std.specs.Prelude.{◌≡◌, ℕ, List, ◌∷◌, ◌++◌, reverse, Some}
use Rattle.pseudo_time.specs.TimeParts.{TimeParts}
use Rattle.value_form.specs.declared.objects.ObjectId.{ObjectId}
use Rattle.value_form.specs.declared.values.Value.{Value}
use Rattle.message_form.specs.declared.messages.Message.TheVariants as message
use Rattle.object_history.specs.declared.steps.ReadStep.TheVariants as read
use Rattle.object_history.specs.declared.steps.WriteStep.{WriteStep}
use Rattle.object_history.specs.Answers.{read_step, write_step}
use Rattle.repository_core.specs.Logs.{marks}
use Rattle.world_core.specs.declared.entries.Entry.{Entry}
use Rattle.world_core.specs.declared.entries.Entry.TheVariants.{Take}
use Rattle.world_core.specs.Nodes.{repository, broker}
use Rattle.world_core.specs.Walks.{Base, Sending, walk, all_effects, numbered}

-- the repository of the object took this write at this place of the entries, and its history answered so
pub record WasAnswered (b : Base) (es : List Entry) (x : TimeParts) (o : ObjectId) (v : Value) (step : WriteStep) : Type 0 where
  pub before : List Entry
  pub number : ℕ
  pub after : List Entry
  pub sending : Sending
  pub here : es ≡ before ++ (Take (repository o.repository) number ∷ after)
  pub sent : numbered (walk b before).sendings number ≡ Some sending
  pub is_write : sending.post ≡ record { from = broker x.stamp.broker; to = repository o.repository; message = message.Write x o v }
  pub answer : write_step (marks (reverse (all_effects ((walk b before).life (repository o.repository))))) o x v ≡ step

-- the repository of the object took this read at this place of the entries, and its history refused it: it lies below the floor, which is this end
pub record WasRefused (b : Base) (es : List Entry) (x : TimeParts) (o : ObjectId) (end : TimeParts) : Type 0 where
  pub before : List Entry
  pub number : ℕ
  pub after : List Entry
  pub sending : Sending
  pub here : es ≡ before ++ (Take (repository o.repository) number ∷ after)
  pub sent : numbered (walk b before).sendings number ≡ Some sending
  pub is_read : sending.post ≡ record { from = broker x.stamp.broker; to = repository o.repository; message = message.Read x o }
  pub answer : read_step (marks (reverse (all_effects ((walk b before).life (repository o.repository))))) o x ≡ read.LaterRead end
