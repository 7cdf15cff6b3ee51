-- What a sender's log has after it sent a message, also where retirements gave up older versions. Logs stand newest first.
use Rattle.std.specs.Prelude.{◌≡◌, ◌⊎◌, true, List, Some}
use Rattle.pseudo_time.specs.Lists.{Has}
use Rattle.pseudo_time.specs.Nodes.{broker}
use Rattle.pseudo_time.specs.Order.{lt}
use Rattle.pseudo_time.specs.TimeParts.{TimeParts}
use Rattle.pseudo_time.specs.declared.decisions.Decision.{Decision}
use Rattle.pseudo_time.specs.declared.nodes.NodeId.{NodeId}
use Rattle.value_form.specs.declared.objects.ObjectId.{ObjectId}
use Rattle.value_form.specs.declared.values.Value.{Value}
use Rattle.effect_form.specs.declared.effects.Effect.{Effect}
use Rattle.effect_form.specs.declared.effects.Effect.TheVariants as effect
use Rattle.message_form.specs.declared.messages.Message.{Message}
use Rattle.message_form.specs.declared.messages.Message.TheVariants as message
use Rattle.message_form.specs.Posts.{Post, WasSent}
use Rattle.object_history.specs.declared.marks.Mark.{Mark}
use Rattle.object_history.specs.History.{alive, floor_of, sees}
use Rattle.object_history.specs.Views.{Firm, IsOnFloor, Viewed, value_of, views}
use Rattle.object_retirement.specs.Older.{Gone}
use Rattle.object_retirement.specs.Stood.{all_stood}
use Rattle.repository_log.specs.Logs.{is_commit, marks}

-- P holds of one of the older logs
abbrev pub Stood : (List Effect → Type 0) → List (List Effect) → Type 0
Stood P olds = (log : List Effect) × Has log olds × P log

-- the floor is above t
abbrev pub IsBelowFloor : List Mark → TimeParts → Type 0
IsBelowFloor m t = (e : TimeParts) × (floor_of m ≡ Some e) × (lt t e ≡ true)

-- The put stands, or a retirement gave it up: then it stands in an older log, it lies below the floor, and its attempt is known as
-- aborted, or a committed put of the object stands between it and the floor.
abbrev pub StandsOrGone : List Effect → List (List Effect) → ObjectId → TimeParts → Value → Type 0
StandsOrGone log olds o x v = Has (effect.Put o x v) log ⊎ (Gone (marks log) o x × Stood (Has (effect.Put o x v)) olds)

-- The reader's view at t has this value still, and is of the origin, or of a version that is committed or the reader's own, and no
-- write between that and t is accepted any more. Or t lies below the floor, where nothing is put any more, and it was so in an older log.
abbrev pub ViewedOrBelow : List Effect → List (List Effect) → ObjectId → TimeParts → Value → Type 0
ViewedOrBelow log olds o t v = Viewed (marks log) o t v ⊎ (IsBelowFloor (marks log) t × Stood (λ old. Viewed (marks old) o t v) olds)

-- What the log of the sender, or its older logs, have after the message; `ever` are all messages that were sent.
abbrev pub Keeps : List Post → NodeId → List Effect → List (List Effect) → Message → Type 0
Keeps ever from log olds (message.Stored t) = (o : ObjectId) × (v : Value) × WasSent ever (broker t.stamp.broker) from (message.Write t o v) × StandsOrGone log olds o t v
Keeps ever from log olds (message.Value t v) = (o : ObjectId) × WasSent ever (broker t.stamp.broker) from (message.Read t o) × ViewedOrBelow log olds o t v
Keeps ever from log olds (message.Decided s d) = Has (effect.Decide s d) log
Keeps ever from log olds (message.Tell s c) = (d : Decision) × Has (effect.Decide s d) log × (c ≡ is_commit d)
Keeps ever from log olds _ = Unit {0}

-- What a read of the object at t sees there has this value, and is the origin, or a version that is decided or the reader's own,
-- unless the log knows the reader as aborted.
abbrev pub SeesStill : List Mark → ObjectId → TimeParts → Value → Type 0
SeesStill m o t v = alive m t ≡ true → (value_of (sees m o t) ≡ v) × Firm m t (sees m o t)

-- the read that was answered was sent, and if it isn't below the floor, what it saw is seen still
abbrev pub SeesAbove : List Post → NodeId → List Effect → TimeParts → Value → Type 0
SeesAbove ever from log t v = (o : ObjectId) × WasSent ever (broker t.stamp.broker) from (message.Read t o) × (IsOnFloor (marks log) t → SeesStill (marks log) o t v)

-- over all versions that ever stood in this history and its older ones, a read of the object at t sees this value, of the origin, or of
-- a version that is committed or the reader's own
abbrev pub SeesOverAll : List (List Mark) → List Mark → ObjectId → TimeParts → Value → Type 0
SeesOverAll olds m o t v = (value_of (views (all_stood olds m) o t) ≡ v) × Firm (all_stood olds m) t (views (all_stood olds m) o t)
