-- When logs say of every attempt what its script does, carried out again alone, one after another in the order of stamps.
use Rattle.std.specs.Prelude.{◌≡◌, ℕ, Bool, true, Some}
use Rattle.pseudo_time.specs.Lists.{Has}
use Rattle.pseudo_time.specs.StampParts.{StampParts}
use Rattle.pseudo_time.specs.TimeParts.{TimeParts}
use Rattle.pseudo_time.specs.declared.decisions.Decision.{Decision}
use Rattle.pseudo_time.specs.declared.decisions.Decision.TheVariants as decision
use Rattle.value_form.specs.declared.objects.ObjectId.{ObjectId}
use Rattle.value_form.specs.declared.values.Value.{Value}
use Rattle.effect_form.specs.declared.effects.Effect.TheVariants as effect
use Rattle.effect_form.specs.declared.outcomes.Outcome.TheVariants as outcome
use Rattle.plan_form.specs.Plans.{InRange}
use Rattle.script_meaning.specs.Meaning.{ToWrite}
use Rattle.serial_model.specs.Questions.{AnswersOf}
use Rattle.repository_log.specs.Logs.{is_commit}
use Rattle.world_core.specs.Deeds.{RunLogs, Try, before, in_run, log_of}
use Rattle.serial_law.specs.Facts.{Asked}
use Rattle.serial_law.specs.Serial.{Serial}
use Rattle.serial_law.specs.Wholes.{KeepsPuts}

-- The attempt asked for this write at this time.
abbrev pub AskedIt : RunLogs → TimeParts → ObjectId → Value → Type 0
AskedIt k x o v = (try : Try) × Has try k.tries × (try.stamp ≡ x.stamp) × Asked try x (ToWrite o v)

-- `now` are the logs as they stand, and `k` the same with all versions that ever stood
pub record Replays (k now : RunLogs) : Type 0 where
  -- each attempt reads, writes and ends as its script does alone over the map that the committed deeds before its stamp leave, each carried out alone
  pub serial : Serial k
  -- its answers are what that map gives, with its own writes so far
  pub answers : (try : Try) → Has try k.tries → AnswersOf try.script try.answers (before k try.stamp)
  -- each version that stands or stood is a write that its attempt asked for at its step, also where it isn't committed
  pub asked : (r : ℕ) (o : ObjectId) (x : TimeParts) (v : Value) → in_run k r ≡ true → Has (effect.Put o x v) (log_of k r) → (o.repository ≡ r) × AskedIt k x o v
  -- of each committed attempt the puts stand, but for what a retirement gave up
  pub puts : KeepsPuts now
  -- an attempt is decided at its home alone, and once; what was learned of it agrees with that, and so does an End that it expired
  pub home : (r : ℕ) (s : StampParts) (d : Decision) → in_run k r ≡ true → Has (effect.Decide s d) (log_of k r) → r ≡ s.home
  pub once : (s : StampParts) (d e : Decision) → Has (effect.Decide s d) (log_of k s.home) → Has (effect.Decide s e) (log_of k s.home) → is_commit d ≡ is_commit e
  pub learned : (r : ℕ) (s : StampParts) (c : Bool) → in_run k r ≡ true → Has (effect.Learn s c) (log_of k r) → (d : Decision) × Has (effect.Decide s d) (log_of k s.home) × (c ≡ is_commit d)
  pub expired : (try : Try) (d m : ℕ) → Has try k.tries → try.ended ≡ Some (outcome.Expired d m) → Has (effect.Decide try.stamp (decision.Expired d m)) (log_of k try.stamp.home)

-- homes and brokers are such as stamps have in bytes
pub record HaveBytes (k : RunLogs) : Type 0 where
  pub homes : (try : Try) → Has try k.tries → InRange 16 try.stamp.home
  pub brokers : (r : ℕ) (o : ObjectId) (x : TimeParts) (v : Value) → Has (effect.Put o x v) (log_of k r) → InRange 16 x.stamp.broker
