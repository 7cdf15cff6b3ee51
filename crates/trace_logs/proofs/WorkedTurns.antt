-- A run worked by hand: an act writes 10 to object 1.7, reads it and prints it, and nothing is lost. Its trace, and what each node gives in its turns.
use Rattle.std.specs.Fmt.{digits}
use Rattle.pseudo_time.specs.TimeParts.{TimeParts}
use Rattle.trace_logs.proofs.Names.{same_stamp, same_time, ActSpec, block-made, Effect, Message, Out, Asked, script_text, Tree, denote, Plan, first_begin, decision_of, on_message, on_begin, on_close, release, tell_askers, book, keep, settle_up, Entry, Take, Go, Gate, Sent, Trace, gives, with_desk, Going, Taking, Base, Life, after_input, all_effects, ◌≡◌, ℕ, true, List, [], ◌∷◌, ◌++◌, refl, ap, ◌∙◌, Some, None, pos, codes, reverse, lt, made_all, on_read, on_write, with_given, Task, task_of, task_with}
use Rattle.pseudo_time.specs.declared.decisions.Decision.TheVariants as decision
use Rattle.value_form.specs.declared.objects.ObjectId.{ObjectId}
use Rattle.value_form.specs.declared.scripts.Stmt.{Stmt}
use Rattle.value_form.specs.declared.values.Value.{Value}
use Rattle.value_form.specs.declared.values.Value.TheVariants as value
use Rattle.value_form.specs.Mirror.{Number, Name, Fixed, Write, Read, Print, Block, End, Then}
use Rattle.effect_form.specs.declared.effects.Effect.TheVariants as effect
use Rattle.effect_form.specs.declared.outcomes.Outcome.TheVariants as outcome
use Rattle.message_form.specs.declared.messages.Message.TheVariants as message
use Rattle.object_history.specs.Answers.{some_put, has_put}
use Rattle.object_history.specs.History.{settle_of, version_count, pick, scan, stretched, floor_of}
use Rattle.object_history.specs.Objects.{same_object, same_value}
use Rattle.repository_core.specs.Turns as turns
use Rattle.broker_core.specs.Heard.{Heard}
use Rattle.broker_core.specs.Stages.{nothing_heard}
use Rattle.broker_core.specs.Turns as desks
use Rattle.trace_logs.proofs.WorkedTraces.{home, desk, stamp, blank, prompt}

-- ---- the plan

abbrev pub object : ObjectId
object = record { repository = 1; number = 7 }

abbrev pub ten : Value
ten = value.Number (pos 10)

-- what the script says
abbrev pub part : Block
part = Then (Write 1 (Fixed object) (Number 10)) (Then (Read 2 (120 ∷ []) (Fixed object)) (Then (Print 3 (Name (120 ∷ []))) End))

abbrev pub lines : List Stmt
lines = made_all part

abbrev pub text : List ℕ
text = codes "write 1.7 10" ++ (10 ∷ (codes "read x 1.7" ++ (10 ∷ (codes "print x" ++ 10 ∷ []))))

text-is : script_text part ≡ text
unfolding digits
text-is = refl

abbrev pub act : ActSpec
act = record { index = 1; broker = 1; home = 1; timeout = 5; tries = 3; clock = 1; script = record { lines = lines } }

abbrev pub plan : Plan
plan = record { run = 1; repositories = 1; brokers = 1; acts = act ∷ [] }

-- each text is read as this script's
abbrev pub script : List ℕ → Tree
script bytes = denote part

abbrev pub base : Base
base = record { script = script; run = 1; acts = act ∷ []; start = 0; opened = blank }

-- ---- the trace

abbrev pub entries : List Entry
entries = Go desk ∷ Gate desk ∷ Take home 1 ∷ Gate home ∷ Take desk 2 ∷ Gate desk ∷ Take home 3 ∷ Gate home ∷ Take desk 4 ∷ Gate desk ∷ Take home 5 ∷ Gate home
    ∷ Take desk 6 ∷ Gate desk ∷ Take home 7 ∷ Gate home ∷ Take desk 8 ∷ Gate desk ∷ []

abbrev pub at : ℕ → TimeParts
at n = record { stamp = stamp; step = n }

-- a message of the broker, and one of the repository
abbrev pub request : ℕ → Message → Sent
request k m = record { number = k; from = desk; to = home; message = m; fate = prompt }

abbrev pub answer : ℕ → Message → Sent
answer k m = record { number = k; from = home; to = desk; message = m; fate = prompt }

abbrev pub sent : List Sent
sent = request 1 (message.Begin stamp 5) ∷ answer 2 (message.Begun stamp) ∷ request 3 (message.Write (at 1) object ten) ∷ answer 4 (message.Stored (at 1))
    ∷ request 5 (message.Read (at 2) object) ∷ answer 6 (message.Value (at 2) ten) ∷ request 7 (message.Commit stamp) ∷ answer 8 (message.Decided stamp decision.Committed) ∷ []

abbrev pub trace : Trace
trace = record { start = 0; opened = blank; sent = sent; entries = entries }

-- a question for the fate of a message, and the answer
abbrev pub question : ℕ → ℕ → Asked
question k tag = record { number = k; tag = tag; fate = prompt }

-- for each message its number and its tag
abbrev pub asked : List Asked
asked = question 1 1 ∷ question 2 2 ∷ question 3 5 ∷ question 4 6 ∷ question 5 3 ∷ question 6 4 ∷ question 7 10 ∷ question 8 12 ∷ []

-- the logs at the end
abbrev pub home_log : List Effect
home_log = effect.Begin stamp 5 ∷ effect.Put object (at 1) ten ∷ effect.Stretch object (at 2) ∷ effect.Decide stamp decision.Committed ∷ []

abbrev pub desk_log : List Effect
desk_log = effect.Run 1 ∷ effect.Act 1 1 5 3 1 text ∷ effect.Try 1 stamp ∷ effect.Acked 1 ∷ effect.Got 2 ten ∷ effect.End 1 outcome.Committed ∷ []

-- ---- the turns

abbrev pub to_desk : Message → List Out
to_desk m = record { to = desk; message = m } ∷ []

abbrev pub to_home : Message → List Out
to_home m = record { to = home; message = m } ∷ []

-- the repository's life: its durable log, and what waits for a gate
abbrev pub keeps : List Effect → List Effect → List Out → Life
keeps gated fresh outs = record { gated = gated; fresh = fresh; outs = outs; mind = record { hands = turns.opened_mind 0; heard = nothing_heard } }

-- the broker's, after it went
abbrev pub works : Heard → List Effect → List Effect → List Out → Life
works heard gated fresh outs = record { gated = gated; fresh = fresh; outs = outs; mind = record { hands = turns.opened_mind 0; heard = heard } }

abbrev pub went : Heard
went = record { gone = true; begun = None; ended = None; closed = None }

abbrev pub began : Heard
began = record { gone = true; begun = Some stamp; ended = None; closed = None }

abbrev pub begins : List Effect
begins = effect.Run 1 ∷ effect.Act 1 1 5 3 1 text ∷ effect.Try 1 stamp ∷ []

-- the broker's one task
abbrev pub task : Task
task = task_with 1 1 5 3 1 text

task-is : task_of act ≡ task
task-is = ap (λ b. task_with 1 1 5 3 1 (script_text b)) (block-made part) ∙ ap (task_with 1 1 5 3 1) text-is

-- what the broker is given for an input, by its task
abbrev pub given_for : Task → Life → desks.Input → Life
given_for t l i = with_given l (with_desk l.mind (desks.desk_turn script 1 1 (t ∷ []) (desks.desk_at (reverse (all_effects l)) l.mind.heard) i))

pub going : (l c : Life) → given_for task l desks.Go ≡ c → after_input base desk l Going ≡ c
unfolding gives
going l c h = ap (λ t. given_for t l desks.Go) task-is ∙ h

pub taking : (l c : Life) (m : Message) → given_for task l (desks.Take home m) ≡ c → after_input base desk l (Taking home m) ≡ c
unfolding gives
taking l c m h = ap (λ t. given_for t l (desks.Take home m)) task-is ∙ h

pub go-given : given_for task (keeps [] [] []) desks.Go ≡ works went [] begins (to_home (message.Begin stamp 5))
unfolding settle_up book keep same_stamp same_time
go-given = refl

pub begin-given : after_input base home (keeps [] [] []) (Taking desk (message.Begin stamp 5)) ≡ keeps [] (effect.Begin stamp 5 ∷ []) (to_desk (message.Begun stamp))
unfolding gives turns.gives on_message on_begin first_begin decision_of same_stamp
begin-given = refl

pub begun-given : given_for task (works went begins [] []) (desks.Take home (message.Begun stamp)) ≡ works began begins [] (to_home (message.Write (at 1) object ten))
unfolding settle_up book keep same_stamp same_time
begun-given = refl

pub write-given : after_input base home (keeps (effect.Begin stamp 5 ∷ []) [] []) (Taking desk (message.Write (at 1) object ten))
    ≡ keeps (effect.Begin stamp 5 ∷ []) (effect.Put object (at 1) ten ∷ []) (to_desk (message.Stored (at 1)))
unfolding gives turns.gives on_message on_write has_put some_put settle_of version_count pick scan stretched floor_of same_object same_value same_stamp lt
write-given = refl

pub stored-given : given_for task (works began begins [] []) (desks.Take home (message.Stored (at 1))) ≡ works began begins (effect.Acked 1 ∷ []) (to_home (message.Read (at 2) object))
unfolding settle_up book keep same_stamp same_time
stored-given = refl

pub read-given : after_input base home (keeps (effect.Begin stamp 5 ∷ effect.Put object (at 1) ten ∷ []) [] []) (Taking desk (message.Read (at 2) object))
    ≡ keeps (effect.Begin stamp 5 ∷ effect.Put object (at 1) ten ∷ []) (effect.Stretch object (at 2) ∷ []) (to_desk (message.Value (at 2) ten))
unfolding gives turns.gives on_message on_read has_put some_put settle_of version_count pick scan stretched floor_of same_object same_value same_stamp lt
read-given = refl

pub value-given : given_for task (works began (begins ++ effect.Acked 1 ∷ []) [] []) (desks.Take home (message.Value (at 2) ten)) ≡ works began (begins ++ effect.Acked 1 ∷ []) (effect.Got 2 ten ∷ []) (to_home (message.Commit stamp))
unfolding settle_up book keep same_stamp same_time
value-given = refl

pub commit-given : after_input base home (keeps (effect.Begin stamp 5 ∷ effect.Put object (at 1) ten ∷ effect.Stretch object (at 2) ∷ []) [] []) (Taking desk (message.Commit stamp))
    ≡ keeps (effect.Begin stamp 5 ∷ effect.Put object (at 1) ten ∷ effect.Stretch object (at 2) ∷ []) (effect.Decide stamp decision.Committed ∷ []) (to_desk (message.Decided stamp decision.Committed))
unfolding gives turns.gives on_message on_close first_begin decision_of release tell_askers same_stamp
commit-given = refl

pub decided-given : given_for task (works began (begins ++ effect.Acked 1 ∷ effect.Got 2 ten ∷ []) [] []) (desks.Take home (message.Decided stamp decision.Committed))
    ≡ works began (begins ++ effect.Acked 1 ∷ effect.Got 2 ten ∷ []) (effect.End 1 outcome.Committed ∷ []) []
unfolding settle_up book keep same_stamp same_time
decided-given = refl
