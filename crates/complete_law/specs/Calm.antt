-- Places of legal traces over empty logs at which nothing was lost, repeated or held and no node has stopped, and what holds there.
use Rattle.std.specs.Prelude.{◌≡◌, ◌⊎◌, ℕ, zero, suc, ◌+◌, ◌*◌, ◌≤◌, ◌<◌, Bool, true, List, [], ◌∷◌, ◌++◌, length, reverse, Option, Some, None}
use Rattle.pseudo_time.specs.Lists.{Every}
use Rattle.pseudo_time.specs.declared.nodes.NodeId.{NodeId}
use Rattle.value_form.specs.declared.acts.ActSpec.{ActSpec}
use Rattle.value_form.specs.declared.values.Value.{Value}
use Rattle.effect_form.specs.declared.effects.Effect.{Effect}
use Rattle.effect_form.specs.declared.effects.Effect.TheVariants as effect
use Rattle.effect_form.specs.declared.outcomes.Outcome.{Outcome}
use Rattle.effect_form.specs.declared.outcomes.Outcome.TheVariants as outcome
use Rattle.message_form.specs.declared.messages.Message.{Message}
use Rattle.message_form.specs.declared.messages.Message.TheVariants as message
use Rattle.message_form.specs.Posts.{Post}
use Rattle.stream_port.specs.declared.fates.Asked.{Asked}
use Rattle.stream_port.specs.declared.fates.Fate.{Fate}
use Rattle.serial_model.specs.Questions.{Tree, Ends, Says, Reads, Writes}
use Rattle.plan_form.specs.declared.plans.Plan.{Plan}
use Rattle.plan_form.specs.Plans.{InRange}
use Rattle.plan_form.specs.PlanTexts.{CanRun}
use Rattle.broker_core.specs.Tasks.{Task, task_of, tasks}
use Rattle.broker_core.specs.Book.{Act, Book, Try, book}
use Rattle.broker_core.specs.Fits.{keep}
use Rattle.broker_core.specs.Owed.{done}
use Rattle.pseudo_time.specs.Nodes.{broker}
use Rattle.world_core.specs.declared.entries.Entry.{Entry}
use Rattle.world_core.specs.declared.entries.Entry.TheVariants.{Take, Go, Learn, Hear, Gate, Crash, Down, Tick}
use Rattle.pseudo_time.specs.declared.down_causes.DownCause.TheVariants.{Medium, Damaged, Full}
use Rattle.world_core.specs.declared.traces.Opened.{Opened}
use Rattle.world_core.specs.declared.traces.Trace.{Trace}
use Rattle.world_core.specs.Nodes.{acts_of}
use Rattle.world_core.specs.Walks.{World, opened_log, walk, all_effects, sent_by}
use Rattle.world_core.specs.Legal.{Legal, Idle, base_of, fates_of}

-- ---- the premises

-- time stands still and no node stops
abbrev pub IsUnstopped : Entry → Type 0
IsUnstopped (Take node number) = Unit {0}
IsUnstopped (Go node) = Unit {0}
IsUnstopped (Learn node stamp committed) = Unit {0}
IsUnstopped (Hear node) = Unit {0}
IsUnstopped (Gate node) = Unit {0}
IsUnstopped (Crash node kept) = ⊥
IsUnstopped (Down node cause) = ⊥
IsUnstopped (Tick moment) = ⊥

-- one copy, and no hold
abbrev pub IsPlain : Fate → Type 0
IsPlain fate = (fate.copies ≡ 1) × (fate.hold ≡ 0)

-- the nodes were opened with nothing
abbrev pub AreEmpty : List Opened → Type 0
AreEmpty opened = (n : NodeId) (log : List Effect) → opened_log opened n ≡ Some log → log ≡ []

-- A run of a plan that can run, over empty logs, of whose messages none is lost, repeated or held. `script` reads the texts of scripts.
pub record CalmRun : Type 0 where
  pub script : List ℕ → Tree
  pub plan : Plan
  pub asked : List Asked
  pub trace : Trace
  pub whole : CanRun plan
  pub legal : Legal script plan asked trace
  pub empty : AreEmpty trace.opened
  pub plain : Every IsPlain (fates_of trace.sent)

-- a place of it before which no Tick, Crash or Down stands: `front` are the entries before it
pub record CalmPlace : Type 0 where
  pub run : CalmRun
  pub front : List Entry
  pub rest : List Entry
  pub here : run.trace.entries ≡ front ++ rest
  pub quiet : Every IsUnstopped front

-- ---- what stands there

abbrev pub world_at : CalmPlace → World
world_at p = walk (base_of p.run.script p.run.plan p.run.trace) p.front

-- a node's whole log, newest effect first
abbrev pub log_at : CalmPlace → NodeId → List Effect
log_at p n = reverse (all_effects ((world_at p).life n))

-- the messages that were sent
abbrev pub sent_at : CalmPlace → List Post
sent_at p = sent_by (world_at p)

-- what the plan gives a broker to do
abbrev pub tasks_at : CalmPlace → ℕ → List Task
tasks_at p b = tasks (acts_of b p.run.plan.acts)

-- what counts of a broker's log
abbrev pub book_at : CalmPlace → ℕ → Book
book_at p b = book (keep p.run.script b p.run.plan.run (tasks_at p b) (log_at p (broker b)))

-- the rules say that the broker is done
abbrev pub is_done_at : CalmPlace → ℕ → Bool
is_done_at p b = done p.run.script p.run.plan.run (tasks_at p b) (book_at p b) ((world_at p).life (broker b)).mind.heard

abbrev pub IsIdleAt : CalmPlace → Type 0
IsIdleAt p = Idle (fates_of p.run.trace.sent) (world_at p)

abbrev pub AllDone : CalmPlace → Type 0
AllDone p = (b : ℕ) → InRange p.run.plan.brokers b → is_done_at p b ≡ true

-- ---- the bounds

-- how many attempts the acts have at most
abbrev pub tries_in : List ActSpec → ℕ
tries_in [] = 0
tries_in (a ∷ acts) = a.tries + tries_in acts

-- a script makes at most so many requests, for any answers
abbrev pub AsksAtMost : ℕ → Tree → Type 0
AsksAtMost most (Ends e) = Unit {0}
AsksAtMost most (Says a t) = AsksAtMost most t
AsksAtMost zero (Reads o k) = ⊥
AsksAtMost (suc most) (Reads o k) = (a : Value) → AsksAtMost most (k a)
AsksAtMost zero (Writes o a t) = ⊥
AsksAtMost (suc most) (Writes o a t) = AsksAtMost most t

-- and so does each script of the plan
abbrev pub AskAtMost : CalmRun → ℕ → Type 0
AskAtMost r most = Every (λ (a : ActSpec). AsksAtMost most (r.script (task_of a).script)) r.plan.acts

abbrev pub most_messages : CalmRun → ℕ → ℕ
most_messages r q = tries_in r.plan.acts * (4 * q + 4)

abbrev pub most_effects : CalmRun → ℕ → ℕ
most_effects r q = 1 + tries_in r.plan.acts * (q + 3)

-- how many pages an effect fills at most where it shares none: a Run is short, and no other effect fills more than 17
abbrev pub most_filled : Effect → ℕ
most_filled (effect.Put object start value) = 17
most_filled (effect.Stretch object end) = 17
most_filled (effect.Begin stamp deadline) = 17
most_filled (effect.Decide stamp decision) = 17
most_filled (effect.Learn stamp committed) = 17
most_filled (effect.Run number) = 1
most_filled (effect.Act index home timeout tries clock script) = 17
most_filled (effect.Try index stamp) = 17
most_filled (effect.Got step value) = 17
most_filled (effect.Acked step) = 17
most_filled (effect.End index outcome) = 17
most_filled (effect.Mark at) = 17
most_filled effect.Whole = 17

abbrev pub filled_by : List Effect → ℕ
filled_by [] = 0
filled_by (e ∷ es) = most_filled e + filled_by es

abbrev pub most_pages : CalmRun → ℕ → ℕ
most_pages r q = 1 + 17 * (tries_in r.plan.acts * (q + 3))

-- ---- outcomes

-- the last attempt that the act may have ended so, where its write was refused; else the act is over
abbrev pub IsOver : Act → Outcome → Type 0
IsOver a outcome.Committed = Unit {0}
IsOver a (outcome.Withdrawn l) = Unit {0}
IsOver a (outcome.Failed l k) = Unit {0}
IsOver a (outcome.LaterRead o e) = a.task.tries ≤ length a.tries
IsOver a (outcome.LaterVersion o x) = a.task.tries ≤ length a.tries
IsOver a (outcome.Expired d m) = ⊥
IsOver a (outcome.Spent c) = ⊥

-- the act is spent, or the End of its newest attempt is its outcome
abbrev pub HasOutcome : Act → Type 0
HasOutcome a = ((c : ℕ) × (a.spent ≡ Some c)) ⊎ ((t : Try) × (ts : List Try) × (o : Outcome) × (a.tries ≡ t ∷ ts) × (t.end ≡ Some o) × IsOver a o)

-- a write is refused
abbrev pub IsRefusal : Message → Type 0
IsRefusal (message.LaterRead x e) = Unit {0}
IsRefusal (message.LaterVersion x y) = Unit {0}
IsRefusal _ = ⊥

-- a write of the attempt was refused
abbrev pub WasRefused : Option Outcome → Type 0
WasRefused None = ⊥
WasRefused (Some (outcome.LaterRead o e)) = Unit {0}
WasRefused (Some (outcome.LaterVersion o x)) = Unit {0}
WasRefused (Some o) = ⊥

-- ---- what stops a run: nothing that the premises leave

-- why an entry that isn't quiet may follow this place: a Tick where some broker isn't done, and a full medium of at least `pages` pages that the node's log outgrew
abbrev pub MayStop : ℕ → CalmPlace → Entry → Type 0
MayStop pages p (Take node number) = Unit {0}
MayStop pages p (Go node) = Unit {0}
MayStop pages p (Learn node stamp committed) = Unit {0}
MayStop pages p (Hear node) = Unit {0}
MayStop pages p (Gate node) = Unit {0}
MayStop pages p (Crash node kept) = ⊥
MayStop pages p (Down node (Full most)) = (pages ≤ most) × (most < filled_by (log_at p node))
MayStop pages p (Down node Medium) = ⊥
MayStop pages p (Down node (Damaged page)) = ⊥
MayStop pages p (Tick moment) = AllDone p → ⊥
