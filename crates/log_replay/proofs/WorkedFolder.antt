-- A worked folder: one attempt of broker 1, which wrote one object of repository 1 and was committed there; and a version of broker 2, whose log
-- was lost.
use Rattle.std.proofs.Common.{◌≡◌, ℕ, true, List, [], ◌∷◌, Some, None, refl}
use Rattle.pseudo_time.specs.Nodes.{broker}
use Rattle.pseudo_time.specs.StampParts.{StampParts}
use Rattle.pseudo_time.specs.TimeParts.{TimeParts}
use Rattle.pseudo_time.specs.declared.decisions.Decision.TheVariants as decision
unfoldable use Rattle.pseudo_time.specs.Order.{lt, same_stamp, stamp_lt}
use Rattle.value_form.specs.declared.objects.ObjectId.{ObjectId}
use Rattle.value_form.specs.declared.values.Value.TheVariants as value
use Rattle.effect_form.specs.declared.effects.Effect.{Effect}
use Rattle.effect_form.specs.declared.effects.Effect.TheVariants as effect
use Rattle.effect_form.specs.declared.outcomes.Outcome.TheVariants as outcome
use Rattle.script_meaning.specs.Meaning.{Stored}
use Rattle.serial_model.specs.Questions.{Tree}
unfoldable use Rattle.serial_model.specs.Deeds.{put_in}
unfoldable use Rattle.repository_core.specs.Logs.{knows}
unfoldable use Rattle.broker_core.specs.Book.{book}
use Rattle.world_core.specs.Deeds.{RunLogs, written}
unfoldable use Rattle.world_core.specs.Deeds.{committed, find, has_commit, puts_of, puts_to}
use Rattle.log_replay.specs.Folders.{run_in}
unfoldable use Rattle.log_replay.specs.Folders.{all_tries}

-- 3.1.1 and 5.2.1
own : StampParts
own = record { clock = 3; broker = 1; home = 1 }

lost : StampParts
lost = record { clock = 5; broker = 2; home = 1 }

first : StampParts → TimeParts
first s = record { stamp = s; step = 1 }

object : ObjectId
object = record { repository = 1; number = 7 }

-- oldest first
repository_log : List Effect
repository_log =
    effect.Begin own 40 ∷ effect.Put object (first own) value.Nothing ∷ effect.Decide own decision.Committed
    ∷ effect.Begin lost 60 ∷ effect.Put object (first lost) (value.Text (104 ∷ 105 ∷ [])) ∷ effect.Decide lost decision.Committed ∷ []

broker_log : List ℕ → List Effect
broker_log text = effect.Run 1 ∷ effect.Act 1 1 50 3 1 text ∷ effect.Try 1 own ∷ effect.Acked 1 ∷ effect.End 1 outcome.Committed ∷ []

module _ (script : List ℕ → Tree) (text : List ℕ) where
  k : RunLogs
  k = run_in script (repository_log ∷ []) (broker_log text ∷ [])

  tries-are : k.tries ≡ record { stamp = own; script = script text; answers = Stored ∷ []; ended = Some outcome.Committed } ∷ []
  unfolding all_tries book k broker_log own
  tries-are = refl

  own-committed : committed k own ≡ true
  unfolding committed has_commit knows same_stamp k repository_log own lost
  own-committed = refl

  lost-committed : committed k lost ≡ true
  unfolding committed has_commit knows same_stamp k repository_log own lost
  lost-committed = refl

  own-written : written k own ≡ record { object = object; start = first own; value = value.Nothing } ∷ []
  unfolding puts_to puts_of put_in same_stamp lt k repository_log own lost object first
  own-written = refl

  lost-written : written k lost ≡ record { object = object; start = first lost; value = value.Text (104 ∷ 105 ∷ []) } ∷ []
  unfolding puts_to puts_of put_in same_stamp lt k repository_log own lost object first
  lost-written = refl

  lost-untried : find lost k.tries ≡ None
  unfolding find all_tries book same_stamp k broker_log own lost
  lost-untried = refl

  lost-log : k.logs (broker lost.broker) ≡ []
  unfolding k broker_log lost
  lost-log = refl
