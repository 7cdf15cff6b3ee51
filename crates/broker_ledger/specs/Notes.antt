-- What a broker keeps of its log: notes, and the answers of the last try of its run.
use Rattle.std.specs.Prelude.{◌≡◌, ℕ, max, ◌+◌, ◌-◌, nat_lt, ◌==◌, Bool, true, false, not, ◌&&◌, length, List, [], ◌∷◌, Option, Some, None, if◌then◌else◌, map, slice_get}
use Rattle.std.specs.Option.{option_map}
use Rattle.value_form.specs.declared.acts.ActSpec.{ActSpec}
use Rattle.value_form.specs.Mirror.{block}
use Rattle.pseudo_time.specs.StampParts.{StampParts}
use Rattle.pseudo_time.specs.TimeParts.{TimeParts}
use Rattle.effect_form.specs.declared.effects.Effect.{Effect}
use Rattle.effect_form.specs.declared.effects.Effect.TheVariants as effect
use Rattle.effect_form.specs.declared.outcomes.Outcome.{Outcome}
use Rattle.effect_form.specs.declared.outcomes.Outcome.TheVariants as outcome
use Rattle.script_meaning.specs.Meaning as meaning
use Rattle.script_meaning.specs.Meaning.{Answer, Stop}
use Rattle.serial_model.specs.Questions.{Tree, Ends, denote, stop}
use Rattle.value_form.specs.declared.endings.Ending.TheVariants as ending
use Rattle.broker_ledger.specs.declared.givens.Given.{Given}
use Rattle.broker_ledger.specs.declared.givens.Given.TheVariants as given
use Rattle.broker_ledger.specs.declared.notes.Last.{Last}
use Rattle.broker_ledger.specs.declared.notes.Notes.{Notes}
use Rattle.broker_ledger.specs.Tasks.{task_of, task_with}
use Rattle.broker_ledger.specs.Tests.{is_task}
use Rattle.broker_ledger.specs.Book.{Try, Act, Book, last_try}
use Rattle.broker_ledger.specs.Fits.{calls_again, is_none, reads_now, writes_now, all_over}

-- ---- what notes say of a book

abbrev pub last_of : Try → Last
last_of t = record { stamp = t.stamp; answered = length t.answers; end = t.end }

abbrev pub over_behind : List Act → Bool
over_behind [] = true
over_behind (a ∷ acts) = all_over acts

abbrev pub spent_in : List Act → Bool
spent_in [] = false
spent_in (a ∷ acts) = if is_none a.spent then false else true

abbrev pub tries_in : List Act → ℕ
tries_in [] = 0
tries_in (a ∷ acts) = length a.tries

-- the notes on a book
abbrev pub notes_of : Book → Notes
notes_of b = record {
  run = b.run;
  clock = b.clock;
  shown = b.shown;
  started = length b.acts;
  over_before = over_behind b.acts;
  spent = spent_in b.acts;
  tries = tries_in b.acts;
  last = option_map last_of (last_try b);
}

abbrev pub answers_of_last : Option Try → List Answer
answers_of_last None = []
answers_of_last (Some t) = t.answers

-- an answer as scripts know it
abbrev pub answer_of : Given → Answer
answer_of (given.Got v) = meaning.Got v
answer_of given.Stored = meaning.Stored

abbrev pub answers_given : List Given → List Answer
answers_given = map answer_of

-- The notes and the answers are those of the book. Of an earlier run the last Run and the clock alone are kept.
pub record Shows (run : ℕ) (notes : Notes) (answers : List Given) (b : Book) : Type 0 where
  pub run_is : notes.run ≡ b.run
  pub clock_is : notes.clock ≡ b.clock
  pub notes_are : b.run ≡ run → notes ≡ notes_of b
  pub answers_are : b.run ≡ run → answers_given answers ≡ answers_of_last (last_try b)

-- ---- the last act and the last try

abbrev pub blank_notes : Notes
blank_notes = record { run = 0; clock = 0; shown = 0; started = 0; over_before = true; spent = false; tries = 0; last = None }

abbrev pub unended : Option Last → Option Last
unended None = None
unended (Some l) = if is_none l.end then Some l else None

-- the last try of the last act, where it has no End
abbrev pub open_last : Notes → Option Last
open_last n = if n.tries == 0 then None else unended n.last

abbrev pub has_end : Option Last → Bool
has_end None = false
has_end (Some l) = if is_none l.end then false else true

abbrev pub calls_on : Option Last → Bool
calls_on None = false
calls_on (Some l) = calls_again l.end

-- how many answers the last try got
abbrev pub answered_in : Option Last → ℕ
answered_in None = 0
answered_in (Some l) = l.answered

abbrev pub time_at : Last → TimeParts
time_at l = record { stamp = l.stamp; step = l.answered + 1 }

-- another try of the last act may be made, of which there may be so many
abbrev pub another_at : ℕ → Notes → Bool
another_at most n = if n.tries == 0 then true else calls_on n.last && nat_lt n.tries most

-- the last act has its outcome
abbrev pub outcome_at : ℕ → Notes → Bool
outcome_at most n = if n.spent then true else (if n.tries == 0 then false else (if has_end n.last then not (another_at most n) else false))

-- each act has its outcome
abbrev pub over_at : ℕ → Notes → Bool
over_at most n = if n.started == 0 then true else outcome_at most n && n.over_before

-- ---- the plan's act in its place

-- the last act that was begun
abbrev pub act_at : List ActSpec → Notes → Option ActSpec
act_at acts n = if n.started == 0 then None else slice_get acts (n.started - 1)

abbrev pub tree_of : Option ActSpec → Tree
tree_of None = Ends ending.Finished
tree_of (Some a) = denote (block a.script.lines)

abbrev pub index_of : Option ActSpec → ℕ
index_of None = 0
index_of (Some a) = a.index

abbrev pub home_of : Option ActSpec → ℕ
home_of None = 0
home_of (Some a) = a.home

abbrev pub timeout_of : Option ActSpec → ℕ
timeout_of None = 0
timeout_of (Some a) = a.timeout

abbrev pub most_of : Option ActSpec → ℕ
most_of None = 0
most_of (Some a) = a.tries

abbrev pub clock_of : Option ActSpec → ℕ
clock_of None = 0
clock_of (Some a) = a.clock

-- where the script of the last act stops, after these answers
abbrev pub stop_at : List ActSpec → Notes → List Given → Stop
stop_at acts n answers = stop (tree_of (act_at acts n)) (answers_given answers)

-- ---- which effects of this run fit

abbrev pub rests_at : Notes → Bool
rests_at n = if n.started == 0 then true else (if n.spent then true else (if n.tries == 0 then false else has_end n.last))

abbrev pub may_follow_at : Notes → Bool
may_follow_at n = if n.tries == 0 then true else calls_on n.last

abbrev pub fits_try_at : ℕ → Option ActSpec → ℕ → StampParts → Notes → Bool
fits_try_at me None i s n = false
fits_try_at me (Some a) i s n =
    (i == a.index) && ((s.broker == me) && ((s.home == a.home) && (nat_lt n.clock s.clock && (not n.spent && may_follow_at n))))

abbrev pub fits_spent_at : Option ActSpec → ℕ → Notes → Bool
fits_spent_at None i n = false
fits_spent_at (Some a) i n = (i == a.index) && (not n.spent && may_follow_at n)

abbrev pub fits_end_at : Option ActSpec → ℕ → Option Last → Bool
fits_end_at None i l = false
fits_end_at (Some a) i None = false
fits_end_at (Some a) i (Some l) = i == a.index

abbrev pub is_spent : Outcome → Bool
is_spent outcome.Committed = false
is_spent (outcome.Withdrawn l) = false
is_spent (outcome.Failed l k) = false
is_spent (outcome.LaterRead o e) = false
is_spent (outcome.LaterVersion o x) = false
is_spent (outcome.Expired d m) = false
is_spent (outcome.Spent c) = true

abbrev pub fits_step_at : ℕ → Option Last → Bool
fits_step_at k None = false
fits_step_at k (Some l) = k == l.answered + 1

module _ (me : ℕ) (acts : List ActSpec) where
  abbrev pub fits_at : Notes → List Given → Effect → Bool
  fits_at n answers (effect.Run m) = nat_lt n.run m
  fits_at n answers (effect.Act i h t k c x) = is_task (option_map task_of (slice_get acts n.started)) (task_with i h t k c x) && rests_at n
  fits_at n answers (effect.Try i s) = fits_try_at me (act_at acts n) i s n
  fits_at n answers (effect.Got k v) = fits_step_at k (open_last n) && reads_now (stop_at acts n answers)
  fits_at n answers (effect.Acked k) = fits_step_at k (open_last n) && writes_now (stop_at acts n answers)
  fits_at n answers (effect.End i o) = if is_spent o then fits_spent_at (act_at acts n) i n else fits_end_at (act_at acts n) i (open_last n)
  fits_at n answers (effect.Mark at) = false
  fits_at n answers effect.Whole = false
  fits_at n answers (effect.Put o x v) = false
  fits_at n answers (effect.Stretch o x) = false
  fits_at n answers (effect.Begin s d) = false
  fits_at n answers (effect.Decide s d) = false
  fits_at n answers (effect.Learn s c) = false

-- ---- how an effect changes the notes

abbrev pub run_begun : ℕ → Notes → Notes
run_begun m n = record { run = m; clock = n.clock; shown = 0; started = 0; over_before = true; spent = false; tries = 0; last = None }

abbrev pub act_begun : ℕ → Notes → Notes
act_begun most n = record n { started = n.started + 1; over_before = over_at most n; spent = false; tries = 0 }

abbrev pub try_begun : StampParts → Notes → Notes
try_begun s n = record n { clock = max n.clock s.clock; tries = n.tries + 1; last = Some (record { stamp = s; answered = 0; end = None }) }

abbrev pub answer_noted : Notes → Notes
answer_noted n = record n { last = option_map (λ (l : Last). record l { answered = l.answered + 1 }) n.last }

-- what a refusal has shown
abbrev pub shown_by : Outcome → ℕ → ℕ
shown_by outcome.Committed n = n
shown_by (outcome.Withdrawn l) n = n
shown_by (outcome.Failed l k) n = n
shown_by (outcome.LaterRead o e) n = max n e.stamp.clock
shown_by (outcome.LaterVersion o x) n = max n x.stamp.clock
shown_by (outcome.Expired d m) n = n
shown_by (outcome.Spent c) n = n

abbrev pub end_noted : Outcome → Notes → Notes
end_noted o n = if is_spent o then record n { spent = true }
    else record n { shown = shown_by o n.shown; last = option_map (λ (l : Last). record l { end = Some o }) n.last }

module _ (acts : List ActSpec) where
  -- an effect of this run that counts and is no answer; answers change nothing
  abbrev pub changed : Effect → Notes → Notes
  changed (effect.Run m) n = run_begun m n
  changed (effect.Act i h t k c x) n = act_begun (most_of (act_at acts n)) n
  changed (effect.Try i s) n = try_begun s n
  changed (effect.Got k v) n = n
  changed (effect.Acked k) n = n
  changed (effect.End i o) n = end_noted o n
  changed (effect.Mark at) n = n
  changed effect.Whole n = n
  changed (effect.Put o x v) n = n
  changed (effect.Stretch o x) n = n
  changed (effect.Begin s d) n = n
  changed (effect.Decide s d) n = n
  changed (effect.Learn s c) n = n

  -- an effect of this run that counts
  abbrev pub noted : Effect → Notes → Notes
  noted (effect.Got k v) n = answer_noted n
  noted (effect.Acked k) n = answer_noted n
  noted f n = changed f n

-- an effect of another run: the last Run and the greatest clock alone are kept
abbrev pub passed : Effect → Notes → Notes
passed (effect.Run m) n = if nat_lt n.run m then run_begun m n else n
passed (effect.Act i h t k c x) n = n
passed (effect.Try i s) n = record n { clock = max n.clock s.clock }
passed (effect.Got k v) n = n
passed (effect.Acked k) n = n
passed (effect.End i o) n = n
passed (effect.Mark at) n = n
passed effect.Whole n = n
passed (effect.Put o x v) n = n
passed (effect.Stretch o x) n = n
passed (effect.Begin s d) n = n
passed (effect.Decide s d) n = n
passed (effect.Learn s c) n = n
