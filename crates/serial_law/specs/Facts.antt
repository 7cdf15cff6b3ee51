-- What keeps a run serial: facts of its logs, newest first, and of all messages that were ever sent.
use Rattle.std.specs.Prelude.{◌≡◌, ℕ, ◌+◌, length, Bool, true, List, [], ◌∷◌, ◌++◌, Option, Some, None, ◌⊎◌}
use Rattle.pseudo_time.specs.Lists.{Has}
use Rattle.pseudo_time.specs.StampParts.{StampParts}
use Rattle.pseudo_time.specs.TimeParts.{TimeParts}
use Rattle.pseudo_time.specs.declared.decisions.Decision.{Decision}
use Rattle.pseudo_time.specs.declared.decisions.Decision.TheVariants as decision
use Rattle.value_form.specs.declared.endings.Ending.TheVariants as ending
use Rattle.value_form.specs.declared.fail_kinds.FailKind.{FailKind}
use Rattle.value_form.specs.declared.objects.ObjectId.{ObjectId}
use Rattle.value_form.specs.declared.values.Value.{Value}
use Rattle.effect_form.specs.declared.effects.Effect.TheVariants as effect
use Rattle.effect_form.specs.declared.outcomes.Outcome.TheVariants as outcome
use Rattle.message_form.specs.declared.messages.Message.{Message}
use Rattle.message_form.specs.declared.messages.Message.TheVariants as message
use Rattle.message_form.specs.Posts.{Post}
use Rattle.object_history.specs.declared.marks.Mark.{Mark}
use Rattle.object_history.specs.Views.{Distinct, Firm, value_of, views}
use Rattle.script_meaning.specs.Meaning.{Answer, Got, Stored, Request, ToRead, ToWrite, Stop, Asks, Over}
use Rattle.serial_model.specs.Questions.{Tree, after, first_stop, talked}
use Rattle.repository_core.specs.Logs.{marks, is_commit}
use Rattle.broker_laws.specs.Posts.{MayCommit}
use Rattle.world_core.specs.Deeds.{Try, RunLogs, log_of, in_run}

-- some node sent the message
abbrev pub Said : List Post → Message → Type 0
Said [] m = ⊥
Said (p ∷ ever) m = (p.message ≡ m) ⊎ Said ever m

-- the pseudotime of the request after these answers
abbrev pub at : StampParts → List Answer → TimeParts
at s pre = record { stamp = s; step = length pre + 1 }

abbrev pub request_at : Stop → Option Request
request_at (Asks q) = Some q
request_at (Over e) = None

-- a script's first request
abbrev pub asks : Tree → Option Request
asks t = request_at (first_stop t)

abbrev pub asked_of : Request → ObjectId
asked_of (ToRead o) = o
asked_of (ToWrite o v) = o

-- what a script asks at a pseudotime: after a prefix of the attempt's answers
abbrev pub Asked : Try → TimeParts → Request → Type 0
Asked try t q = (pre post : List Answer) × (try.answers ≡ pre ++ post) × (t.step ≡ length pre + 1) × (asks (after try.script pre) ≡ Some q)

-- a read of the object at t sees this value, of the origin, or of a version that is committed or the reader's own
abbrev pub Sees : List Mark → ObjectId → TimeParts → Value → Type 0
Sees m o t v = (value_of (views m o t) ≡ v) × Firm m t (views m o t)

-- The logs have all versions that ever stood.
pub record RunFacts (k : RunLogs) (ever : List Post) : Type 0 where
  -- A stamp is decided once, at its home, and what was learned agrees with that.
  pub decided_once : (s : StampParts) (d e : Decision) → Has (effect.Decide s d) (log_of k s.home) → Has (effect.Decide s e) (log_of k s.home) → is_commit d ≡ is_commit e
  pub decided_home : (r : ℕ) (s : StampParts) (d : Decision) → in_run k r ≡ true → Has (effect.Decide s d) (log_of k r) → r ≡ s.home
  pub learned : (r : ℕ) (s : StampParts) (c : Bool) → in_run k r ≡ true → Has (effect.Learn s c) (log_of k r) → (d : Decision) × Has (effect.Decide s d) (log_of k s.home) × (c ≡ is_commit d)
  pub learned_away : (r : ℕ) (s : StampParts) (c : Bool) → in_run k r ≡ true → Has (effect.Learn s c) (log_of k r) → s.home ≡ r → ⊥
  -- What was answered stands in the log of the object's repository, or of the stamp's home.
  pub value : (t : TimeParts) (v : Value) → Said ever (message.Value t v) → (o : ObjectId) × Said ever (message.Read t o) × Sees (marks (log_of k o.repository)) o t v
  pub stored : (t : TimeParts) → Said ever (message.Stored t) → (o : ObjectId) × (v : Value) × Said ever (message.Write t o v) × Has (effect.Put o t v) (log_of k o.repository)
  pub decided : (s : StampParts) (d : Decision) → Said ever (message.Decided s d) → Has (effect.Decide s d) (log_of k s.home)
  -- Answers and ends have their messages, or are what the script came to.
  pub got : (try : Try) (pre post : List Answer) (v : Value) → Has try k.tries → try.answers ≡ pre ++ (Got v ∷ post) → Said ever (message.Value (at try.stamp pre) v)
  pub acked : (try : Try) (pre post : List Answer) → Has try k.tries → try.answers ≡ pre ++ (Stored ∷ post) → Said ever (message.Stored (at try.stamp pre))
  pub end_committed : (try : Try) → Has try k.tries → try.ended ≡ Some outcome.Committed → Said ever (message.Decided try.stamp decision.Committed)
  pub end_expired : (try : Try) (d m : ℕ) → Has try k.tries → try.ended ≡ Some (outcome.Expired d m) → Said ever (message.Decided try.stamp (decision.Expired d m))
  pub end_withdrawn : (try : Try) (l : ℕ) → Has try k.tries → try.ended ≡ Some (outcome.Withdrawn l) → (talked try.script try.answers).stop ≡ Over (ending.Withdrawn l)
  pub end_failed : (try : Try) (l : ℕ) (kind : FailKind) → Has try k.tries → try.ended ≡ Some (outcome.Failed l kind) → (talked try.script try.answers).stop ≡ Over (ending.Failed l kind)
  -- What a broker sent is what its script asks.
  pub read_asked : (try : Try) (t : TimeParts) (o : ObjectId) → Has try k.tries → Said ever (message.Read t o) → t.stamp ≡ try.stamp → Asked try t (ToRead o)
  pub write_asked : (try : Try) (t : TimeParts) (o : ObjectId) (v : Value) → Has try k.tries → Said ever (message.Write t o v) → t.stamp ≡ try.stamp → Asked try t (ToWrite o v)
  pub commit_asked : (try : Try) → Has try k.tries → Said ever (message.Commit try.stamp) → ((talked try.script try.answers).stop ≡ Over ending.Finished) × MayCommit try.ended
  -- Puts differ in object or start. They and commits were asked for.
  pub distinct : (r : ℕ) → in_run k r ≡ true → Distinct (marks (log_of k r))
  pub put : (r : ℕ) (o : ObjectId) (x : TimeParts) (v : Value) → in_run k r ≡ true → Has (effect.Put o x v) (log_of k r) → (o.repository ≡ r) × Said ever (message.Write x o v)
  pub commit : (s : StampParts) → Has (effect.Decide s decision.Committed) (log_of k s.home) → Said ever (message.Commit s)
  -- Homes, the objects that were read or written, and that of the request that stands lie within the run.
  pub home : (try : Try) → Has try k.tries → in_run k try.stamp.home ≡ true
  pub within : (try : Try) (pre post : List Answer) (q : Request) → Has try k.tries → try.answers ≡ pre ++ post → asks (after try.script pre) ≡ Some q → in_run k (asked_of q).repository ≡ true
