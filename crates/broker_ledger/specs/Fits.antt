-- Which effects of a broker's log count in a run, with the acts that the plan gives the broker. For logs that no calls could have left too.
use Rattle.std.specs.Prelude.{ℕ, max, ◌+◌, ◌-◌, nat_lt, ◌==◌, Bool, true, false, ◌&&◌, length, List, [], ◌∷◌, Option, Some, None, if◌then◌else◌, slice_get}
use Rattle.pseudo_time.specs.StampParts.{StampParts}
use Rattle.broker_ledger.specs.Tasks.{Task, task_with}
use Rattle.effect_form.specs.declared.effects.Effect.{Effect}
use Rattle.effect_form.specs.declared.effects.Effect.TheVariants as effect
use Rattle.effect_form.specs.declared.outcomes.Outcome.{Outcome}
use Rattle.effect_form.specs.declared.outcomes.Outcome.TheVariants as outcome
use Rattle.broker_ledger.specs.Tests.{is_task}
use Rattle.serial_model.specs.Questions.{Tree, stop}
use Rattle.script_meaning.specs.Meaning.{Stop, Asks, Over, ToRead, ToWrite}
use Rattle.broker_ledger.specs.declared.resume_faults.ResumeFault.{ResumeFault}
use Rattle.broker_ledger.specs.declared.resume_faults.ResumeFault.TheVariants as fault
use Rattle.broker_ledger.specs.Book.{Try, Act, Book, book, open_try}

-- an End after which another try may follow
abbrev pub calls_again : Option Outcome → Bool
calls_again None = false
calls_again (Some outcome.Committed) = false
calls_again (Some (outcome.Withdrawn l)) = false
calls_again (Some (outcome.Failed l k)) = false
calls_again (Some (outcome.LaterRead o e)) = true
calls_again (Some (outcome.LaterVersion o x)) = true
calls_again (Some (outcome.Expired d m)) = true
calls_again (Some (outcome.Spent c)) = false

abbrev pub is_none : {A : Type 0} → Option A → Bool
is_none None = true
is_none (Some x) = false

-- the act has no try, or its last one has an End after which another may follow
abbrev pub may_follow : List Try → Bool
may_follow [] = true
may_follow (t ∷ ts) = calls_again t.end

-- the last try has an End
abbrev pub has_ended : List Try → Bool
has_ended [] = false
has_ended (t ∷ ts) = if is_none t.end then false else true

-- the newest act is spent, or its last try has an End
abbrev pub rests : List Act → Bool
rests [] = true
rests (a ∷ acts) = if is_none a.spent then has_ended a.tries else true

-- another try may be made: there is none, or the last one calls for another and fewer than `most` were made
abbrev pub another : ℕ → List Try → Bool
another most [] = true
another most (t ∷ ts) = calls_again t.end && nat_lt (length (t ∷ ts)) most

abbrev pub outcome_by : ℕ → List Try → Bool
outcome_by most [] = false
outcome_by most (t ∷ ts) = if is_none t.end then false else (if another most (t ∷ ts) then false else true)

-- the act has its outcome: it is spent, or its last try has an End and isn't followed by another
abbrev pub has_outcome : Act → Bool
has_outcome a = if is_none a.spent then outcome_by a.task.tries a.tries else true

-- each act has its outcome
abbrev pub all_over : List Act → Bool
all_over [] = true
all_over (a ∷ acts) = has_outcome a && all_over acts

abbrev pub fits_try : ℕ → ℕ → StampParts → ℕ → List Act → Bool
fits_try me i s clock [] = false
fits_try me i s clock (a ∷ acts) =
    (i == a.task.index) && ((s.broker == me) && ((s.home == a.task.home) && (nat_lt clock s.clock && (is_none a.spent && may_follow a.tries))))

abbrev pub fits_spent : ℕ → List Act → Bool
fits_spent i [] = false
fits_spent i (a ∷ acts) = (i == a.task.index) && (is_none a.spent && may_follow a.tries)

abbrev pub reads_now : Stop → Bool
reads_now (Asks (ToRead o)) = true
reads_now (Asks (ToWrite o v)) = false
reads_now (Over e) = false

abbrev pub writes_now : Stop → Bool
writes_now (Asks (ToRead o)) = false
writes_now (Asks (ToWrite o v)) = true
writes_now (Over e) = false

abbrev pub fits_end : ℕ → Option Try → Bool
fits_end i None = false
fits_end i (Some t) = i == t.task.index

abbrev pub fits_outcome : ℕ → Outcome → Book → Bool
fits_outcome i outcome.Committed b = fits_end i (open_try b)
fits_outcome i (outcome.Withdrawn l) b = fits_end i (open_try b)
fits_outcome i (outcome.Failed l k) b = fits_end i (open_try b)
fits_outcome i (outcome.LaterRead o e) b = fits_end i (open_try b)
fits_outcome i (outcome.LaterVersion o x) b = fits_end i (open_try b)
fits_outcome i (outcome.Expired d m) b = fits_end i (open_try b)
fits_outcome i (outcome.Spent c) b = fits_spent i b.acts

-- the effect that starts an act
abbrev pub act_effect : Task → Effect
act_effect a = effect.Act a.index a.home a.timeout a.tries a.clock a.script

-- the clock of a new try; None where there is no greater one
abbrev pub next_clock : ℕ → ℕ → Option ℕ
next_clock last shown = if nat_lt (max last shown) 1099511627775 then Some (max last shown + 1) else None

-- what the broker was shown, for a try of this act
abbrev pub shown_to : Book → Act → ℕ
shown_to b a = max b.shown (a.task.clock - 1)

-- what an Act that isn't the plan's comes to
abbrev pub plan_fault : Option ℕ → Option ResumeFault
plan_fault None = None
plan_fault (Some i) = Some (fault.OtherPlan i)

abbrev pub add_if : Bool → Effect → List Effect → List Effect
add_if true f kept = f ∷ kept
add_if false f kept = kept

abbrev pub first_some : Option ℕ → Option ℕ → Option ℕ
first_some (Some x) y = Some x
first_some None y = y

-- `script` gives the meaning of a script's text
module _ (script : List ℕ → Tree) where
  -- where the script of a try stops, with the answers so far
  abbrev pub stop_of : Try → Stop
  stop_of t = stop (script t.task.script) t.answers

  abbrev pub fits_got : ℕ → Option Try → Bool
  fits_got k None = false
  fits_got k (Some t) = (k == length t.answers + 1) && reads_now (stop_of t)

  abbrev pub fits_acked : ℕ → Option Try → Bool
  fits_acked k None = false
  fits_acked k (Some t) = (k == length t.answers + 1) && writes_now (stop_of t)

-- `me` is the broker's number
module _ (script : List ℕ → Tree) (me : ℕ) where
  -- the effect fits, over the book of the effects that counted before
  abbrev pub fits : List Task → Book → Effect → Bool
  fits acts b (effect.Run n) = nat_lt b.run n
  fits acts b (effect.Act i h t k c x) = is_task (slice_get acts (length b.acts)) (task_with i h t k c x) && rests b.acts
  fits acts b (effect.Try i s) = fits_try me i s b.clock b.acts
  fits acts b (effect.Got k v) = fits_got script k (open_try b)
  fits acts b (effect.Acked k) = fits_acked script k (open_try b)
  fits acts b (effect.End i o) = fits_outcome i o b
  fits acts b (effect.Mark at) = false
  fits acts b effect.Whole = false
  fits acts b (effect.Put o x v) = false
  fits acts b (effect.Stretch o x) = false
  fits acts b (effect.Begin s d) = false
  fits acts b (effect.Decide s d) = false
  fits acts b (effect.Learn s c) = false

  -- of the runs before, each effect is kept (only the Runs and the clocks are looked at); of this run, those that fit
  abbrev pub counts : ℕ → List Task → Book → Effect → Bool
  counts run acts b (effect.Run n) = fits acts b (effect.Run n)
  counts run acts b (effect.Act i h t k c x) = if b.run == run then fits acts b (effect.Act i h t k c x) else true
  counts run acts b (effect.Try i s) = if b.run == run then fits acts b (effect.Try i s) else true
  counts run acts b (effect.Got k v) = if b.run == run then fits acts b (effect.Got k v) else true
  counts run acts b (effect.Acked k) = if b.run == run then fits acts b (effect.Acked k) else true
  counts run acts b (effect.End i o) = if b.run == run then fits acts b (effect.End i o) else true
  counts run acts b (effect.Mark at) = false
  counts run acts b effect.Whole = false
  counts run acts b (effect.Put o x v) = false
  counts run acts b (effect.Stretch o x) = false
  counts run acts b (effect.Begin s d) = false
  counts run acts b (effect.Decide s d) = false
  counts run acts b (effect.Learn s c) = false

  -- the part of the log that counts
  abbrev pub keep_more : ℕ → List Task → Effect → List Effect → List Effect
  keep_more run acts f kept = add_if (counts run acts (book kept) f) f kept

  unfoldable pub keep : ℕ → List Task → List Effect → List Effect
  keep run acts [] = []
  keep run acts (f ∷ log) = keep_more run acts f (keep run acts log)

  abbrev pub unfit_act : ℕ → List Task → Book → Effect → Option ℕ
  unfit_act run acts b (effect.Act i h t k c x) = if (b.run == run) && (if fits acts b (effect.Act i h t k c x) then false else true) then Some i else None
  unfit_act run acts b (effect.Run n) = None
  unfit_act run acts b (effect.Try i s) = None
  unfit_act run acts b (effect.Got k v) = None
  unfit_act run acts b (effect.Acked k) = None
  unfit_act run acts b (effect.End i o) = None
  unfit_act run acts b (effect.Mark at) = None
  unfit_act run acts b effect.Whole = None
  unfit_act run acts b (effect.Put o x v) = None
  unfit_act run acts b (effect.Stretch o x) = None
  unfit_act run acts b (effect.Begin s d) = None
  unfit_act run acts b (effect.Decide s d) = None
  unfit_act run acts b (effect.Learn s c) = None

  -- OtherPlan: the index of the first Act of this run that isn't the plan's in its place, or doesn't fit
  unfoldable pub other_plan : ℕ → List Task → List Effect → Option ℕ
  other_plan run acts [] = None
  other_plan run acts (f ∷ log) = first_some (other_plan run acts log) (unfit_act run acts (book (keep run acts log)) f)

  -- what opening the log gives: OldRun where the last Run is above this one; OtherPlan where it is this one
  abbrev pub resume_fault : ℕ → List Task → List Effect → Option ResumeFault
  resume_fault run acts log =
      if nat_lt run (book (keep run acts log)).run then Some (fault.OldRun (book (keep run acts log)).run)
      else (if (book (keep run acts log)).run == run then plan_fault (other_plan run acts log) else None)
