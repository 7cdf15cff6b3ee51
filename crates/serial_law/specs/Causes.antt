-- Why an attempt ended as it did: what stands in the logs of a run as they are, or stood in older ones. Logs stand newest first.
use Rattle.std.specs.Prelude.{◌≡◌, ◌⊎◌, ℕ, ◌≤◌, max, true, false, List, None, Some}
use Rattle.pseudo_time.specs.Lists.{Has}
use Rattle.pseudo_time.specs.TimeParts.{TimeParts}
use Rattle.pseudo_time.specs.Order.{lt}
use Rattle.pseudo_time.specs.declared.decisions.Decision.TheVariants as decision
use Rattle.value_form.specs.declared.endings.Ending.TheVariants as ending
use Rattle.value_form.specs.declared.objects.ObjectId.{ObjectId}
use Rattle.value_form.specs.declared.values.Value.{Value}
use Rattle.pseudo_time.specs.Nodes.{repository}
use Rattle.pseudo_time.specs.declared.nodes.NodeId.{NodeId}
use Rattle.effect_form.specs.declared.effects.Effect.{Effect}
use Rattle.effect_form.specs.declared.effects.Effect.TheVariants as effect
use Rattle.effect_form.specs.declared.outcomes.Outcome.{Outcome}
use Rattle.effect_form.specs.declared.outcomes.Outcome.TheVariants as outcome
use Rattle.object_history.specs.declared.steps.WriteStep.{WriteStep}
use Rattle.object_history.specs.declared.steps.WriteStep.TheVariants as write
use Rattle.script_meaning.specs.Meaning.{ToRead, ToWrite, Over}
use Rattle.broker_core.specs.Book.{Act, Book}
use Rattle.broker_core.specs.Fits.{next_clock, shown_to}
use Rattle.serial_model.specs.Questions.{after, talked}
use Rattle.world_core.specs.Deeds.{Try, RunLogs, log_of}
use Rattle.serial_law.specs.Facts.{asks, at}

-- the pseudotime of the request that the attempt stands at
abbrev pub now : Try → TimeParts
now try = at try.stamp try.answers

-- its script wants to write this there
abbrev pub Writes : Try → ObjectId → Value → Type 0
Writes try o v = asks (after try.script try.answers) ≡ Some (ToWrite o v)

-- or to read it
abbrev pub Reads : Try → ObjectId → Type 0
Reads try o = asks (after try.script try.answers) ≡ Some (ToRead o)

-- The effect stands in the log of the repository, or stood in one of its older logs.
abbrev pub HasStood : RunLogs → (NodeId → List (List Effect)) → ℕ → Effect → Type 0
HasStood k olds r f = Has f (log_of k r) ⊎ ((old : List Effect) × Has old (olds (repository r)) × Has f old)

-- What happened, in this run or before it: a moment was ticked, and the repository of the object took a write at this time, and answered so, or a
-- read, and refused it with this end.
pub record Happened : Type 1 where
  pub Ticked : ℕ → Type 0
  pub Answered : TimeParts → ObjectId → Value → WriteStep → Type 0
  pub Refused : TimeParts → ObjectId → TimeParts → Type 0

-- A committed attempt was decided so at its home. One that was withdrawn or failed came to that end by its script. One that
-- expired was decided so at its home, with the deadline that it began with, and not before, at a moment that was ticked. A write was refused where its
-- repository took it and answered so, and the object was read above it, or a mark lies above it, up to the time that is shown, or it has or had a version
-- that isn't below the write; and a read, where a mark lies above it, which is shown.
abbrev pub HasReason : RunLogs → (NodeId → List (List Effect)) → Happened → Try → Outcome → Type 0
HasReason k olds h try outcome.Committed = Has (effect.Decide try.stamp decision.Committed) (log_of k try.stamp.home)
HasReason k olds h try (outcome.Withdrawn l) = (talked try.script try.answers).stop ≡ Over (ending.Withdrawn l)
HasReason k olds h try (outcome.Failed l kind) = (talked try.script try.answers).stop ≡ Over (ending.Failed l kind)
HasReason k olds h try (outcome.Expired d m) =
    Has (effect.Decide try.stamp (decision.Expired d m)) (log_of k try.stamp.home) × Has (effect.Begin try.stamp d) (log_of k try.stamp.home) × (d ≤ m) × h.Ticked m
HasReason k olds h try (outcome.LaterRead o e) = (lt (now try) e ≡ true) ×
    (((v : Value) × Writes try o v × (HasStood k olds o.repository (effect.Stretch o e) ⊎ HasStood k olds o.repository (effect.Mark e)) × h.Answered (now try) o v (write.LaterRead e))
    ⊎ (Reads try o × HasStood k olds o.repository (effect.Mark e) × h.Refused (now try) o e))
HasReason k olds h try (outcome.LaterVersion o x) =
    (v : Value) × Writes try o v × (lt x (now try) ≡ false) × ((w : Value) × HasStood k olds o.repository (effect.Put o x w)) × h.Answered (now try) o v (write.LaterVersion x)
HasReason k olds h try (outcome.Spent c) = ⊥

-- each End of the run has its cause
abbrev pub Causes : RunLogs → (NodeId → List (List Effect)) → Happened → Type 0
Causes k olds h = (try : Try) (o : Outcome) → Has try k.tries → try.ended ≡ Some o → HasReason k olds h try o

-- no clock is left above those of the broker's attempts and the one that the refusals of the act showed; this is the greater
abbrev pub IsSpent : Book → ℕ → Act → Type 0
IsSpent b c a = (next_clock b.clock (shown_to b a) ≡ None) × (c ≡ max b.clock (shown_to b a))
