-- The book of a broker's log: its acts and their tries, read off the effects alone. Logs, acts and tries stand newest first, answers oldest first.
use Rattle.std.specs.Prelude.{ℕ, max, List, [], ◌∷◌, ◌++◌, Option, Some, None, if◌then◌else◌, length, ◌+◌}
use Rattle.pseudo_time.specs.StampParts.{StampParts}
use Rattle.pseudo_time.specs.TimeParts.{TimeParts}
use Rattle.broker_ledger.specs.Tasks.{Task, task_with}
use Rattle.effect_form.specs.declared.effects.Effect.{Effect}
use Rattle.effect_form.specs.declared.effects.Effect.TheVariants as effect
use Rattle.effect_form.specs.declared.outcomes.Outcome.{Outcome}
use Rattle.effect_form.specs.declared.outcomes.Outcome.TheVariants as outcome
use Rattle.pseudo_time.specs.Order.{same_stamp}
use Rattle.script_meaning.specs.Meaning.{Answer, Got, Stored}

-- an attempt
pub record Try : Type 0 where
  pub run : ℕ
  pub task : Task  -- what its Act effect says
  pub stamp : StampParts
  pub answers : List Answer  -- oldest first
  pub end : Option Outcome

-- an act that was begun
pub record Act : Type 0 where
  pub run : ℕ
  pub task : Task
  pub tries : List Try
  pub spent : Option ℕ  -- the clock of its End Spent

-- what the effects of a log say
pub record Book : Type 0 where
  pub run : ℕ  -- the last Run
  pub clock : ℕ  -- the greatest clock of a Try, of all runs
  pub shown : ℕ  -- the greatest clock in a LaterRead or LaterVersion of this run
  pub acts : List Act  -- of this run
  pub past : List Act  -- of the runs before

abbrev pub blank : Book
blank = record { run = 0; clock = 0; shown = 0; acts = []; past = [] }

-- a change of the newest act, and of its newest try
abbrev pub on_act : (Act → Act) → List Act → List Act
on_act g [] = []
on_act g (a ∷ acts) = g a ∷ acts

abbrev pub on_front : (Try → Try) → List Try → List Try
on_front g [] = []
on_front g (t ∷ ts) = g t ∷ ts

abbrev pub on_try : (Try → Try) → List Act → List Act
on_try g acts = on_act (λ a. record a { tries = on_front g a.tries }) acts

-- a try that begins, gets an answer, and ends
abbrev pub new_try : Act → StampParts → Try
new_try a s = record { run = a.run; task = a.task; stamp = s; answers = []; end = None }

abbrev pub gain : Answer → Try → Try
gain a t = record t { answers = t.answers ++ (a ∷ []) }

abbrev pub finish : Outcome → Try → Try
finish o t = record t { end = Some o }

abbrev pub with_end : Outcome → Book → Book
with_end o b = record b { acts = on_try (finish o) b.acts }

-- an End is entered
abbrev pub close : Outcome → Book → Book
close outcome.Committed b = with_end outcome.Committed b
close (outcome.Withdrawn l) b = with_end (outcome.Withdrawn l) b
close (outcome.Failed l k) b = with_end (outcome.Failed l k) b
close (outcome.LaterRead o e) b = record b { shown = max b.shown e.stamp.clock; acts = on_try (finish (outcome.LaterRead o e)) b.acts }
close (outcome.LaterVersion o x) b = record b { shown = max b.shown x.stamp.clock; acts = on_try (finish (outcome.LaterVersion o x)) b.acts }
close (outcome.Expired d m) b = with_end (outcome.Expired d m) b
close (outcome.Spent c) b = record b { acts = on_act (λ a. record a { spent = Some c }) b.acts }

-- an effect is entered in the book
abbrev pub enter : Effect → Book → Book
enter (effect.Run n) b = record { run = n; clock = b.clock; shown = 0; acts = []; past = b.acts ++ b.past }
enter (effect.Act i h t k c x) b = record b { acts = record { run = b.run; task = task_with i h t k c x; tries = []; spent = None } ∷ b.acts }
enter (effect.Try i s) b = record b { clock = max b.clock s.clock; acts = on_act (λ a. record a { tries = new_try a s ∷ a.tries }) b.acts }
enter (effect.Got k v) b = record b { acts = on_try (gain (Got v)) b.acts }
enter (effect.Acked k) b = record b { acts = on_try (gain Stored) b.acts }
enter (effect.End i o) b = close o b
enter (effect.Mark at) b = b
enter effect.Whole b = b
enter (effect.Put o x v) b = b
enter (effect.Stretch o x) b = b
enter (effect.Begin s d) b = b
enter (effect.Decide s d) b = b
enter (effect.Learn s c) b = b

-- the book of a log
unfoldable pub book : List Effect → Book
book [] = blank
book (f ∷ log) = enter f (book log)

-- all tries of these acts
abbrev pub tries_of : List Act → List Try
tries_of [] = []
tries_of (a ∷ acts) = a.tries ++ tries_of acts

-- all tries of the book, of every run
abbrev pub tries : Book → List Try
tries b = tries_of (b.acts ++ b.past)

-- the newest
abbrev pub front : List Try → Option Try
front [] = None
front (t ∷ ts) = Some t

-- the last try of the run
abbrev pub last_try : Book → Option Try
last_try b = front (tries_of b.acts)

abbrev pub if_open : Try → Option Outcome → Option Try
if_open t None = Some t
if_open t (Some o) = None

abbrev pub open_front : List Try → Option Try
open_front [] = None
open_front (t ∷ ts) = if_open t t.end

abbrev pub open_of : List Act → Option Try
open_of [] = None
open_of (a ∷ acts) = open_front a.tries

-- the last try of the last act of the run, where it has no End
abbrev pub open_try : Book → Option Try
open_try b = open_of b.acts

-- the first try with this stamp
abbrev pub find : StampParts → List Try → Option Try
find s [] = None
find s (t ∷ ts) = if same_stamp t.stamp s then Some t else find s ts

-- the pseudotime of a try's current request
abbrev pub time_of : Try → TimeParts
time_of t = record { stamp = t.stamp; step = length t.answers + 1 }
