-- The effects that a broker owes, and when it is done.
use Rattle.std.specs.Prelude.{ℕ, max, nat_lt, ◌==◌, Bool, ◌&&◌, length, List, [], ◌∷◌, Option, Some, None, if◌then◌else◌, slice_get}
use Rattle.broker_ledger.specs.Effect.{Effect}
use Rattle.broker_ledger.specs.Effect.TheVariants as effect
use Rattle.broker_ledger.specs.Outcome.TheVariants as outcome
use Rattle.broker_ledger.specs.Questions.{Tree}
use Rattle.broker_ledger.specs.declared.heards.Heard.{Heard}
use Rattle.broker_ledger.specs.Tasks.{Task}
use Rattle.broker_ledger.specs.Book.{Try, Act, Book}
use Rattle.broker_ledger.specs.Fits.{another, is_none, act_effect, next_clock, shown_to}
pub use Rattle.broker_ledger.specs.Fits.{all_over}
use Rattle.broker_core.specs.Stages.{Stage, Idle, Refused, Opening, Asking, Finishing, Stopping, Closing, stage, standing, is_closed}

-- the act begins, where the plan has a further one
abbrev pub start : Option Task → Option Effect
start None = None
start (Some a) = Some (act_effect a)

module _ (me : ℕ) where
  abbrev pub by_clock : Book → Act → Option ℕ → Effect
  by_clock b a (Some c) = effect.Try a.task.index (record { clock = c; broker = me; home = a.task.home })
  by_clock b a None = effect.End a.task.index (outcome.Spent (max b.clock (shown_to b a)))

  -- a further try of this act, or that it is spent
  abbrev pub try_or_spent : Book → Act → Effect
  try_or_spent b a = by_clock b a (next_clock b.clock (shown_to b a))

module _ (me : ℕ) (acts : List Task) where
  -- what the newest act owes, by its tries: another try, or the next act
  abbrev pub after_tries : Heard → Book → Act → List Try → ℕ → Option Effect
  after_tries h b a [] n = Some (try_or_spent me b a)
  after_tries h b a (t ∷ ts) n =
      if is_closed h t
      then (if another a.task.tries (t ∷ ts) then Some (try_or_spent me b a) else start (slice_get acts n))
      else None

  abbrev pub after_act : Heard → Book → Act → Option ℕ → ℕ → Option Effect
  after_act h b a None n = after_tries h b a a.tries n
  after_act h b a (Some c) n = start (slice_get acts n)

  abbrev pub due : Heard → Book → List Act → Option Effect
  due h b [] = start (slice_get acts 0)
  due h b (a ∷ done) = after_act h b a a.spent (length (a ∷ done))

  -- the End that the script came to, or what is due
  abbrev pub by_stage : Heard → Book → Stage → Option Effect
  by_stage h b (Stopping t o) = Some (effect.End t.task.index o)
  by_stage h b Idle = due h b b.acts
  by_stage h b (Refused t) = due h b b.acts
  by_stage h b (Opening t) = due h b b.acts
  by_stage h b (Asking t q) = due h b b.acts
  by_stage h b (Finishing t) = due h b b.acts
  by_stage h b (Closing t) = due h b b.acts

module _ (script : List ℕ → Tree) (me run : ℕ) (acts : List Task) where
  -- the next effect that is owed
  abbrev pub owed : Book → Heard → Option Effect
  owed b h = if nat_lt b.run run then Some (effect.Run run) else by_stage me acts h b (stage script run b h)

module _ (script : List ℕ → Tree) (run : ℕ) (acts : List Task) where
  -- each act of the plan has its outcome, and nothing is outstanding
  abbrev pub done : Book → Heard → Bool
  done b h =
      (if b.run == run then (length b.acts == length acts) && all_over b.acts else length acts == 0)
      && is_none (standing (stage script run b h))
