-- The stage of the last try, the request that stands and what is heard, from the notes.
use Rattle.std.specs.Prelude.{ℕ, max, ◌-◌, ◌==◌, Bool, true, false, ◌&&◌, ◌||◌, nat_lt, List, Option, Some, None, if◌then◌else◌, slice_get}
use Rattle.broker_ledger.specs.ActSpec.{ActSpec}
use Rattle.broker_ledger.specs.Ending.TheVariants as ending
use Rattle.broker_ledger.specs.StampParts.{StampParts}
use Rattle.broker_ledger.specs.TimeParts.{TimeParts}
use Rattle.broker_ledger.specs.ObjectId.{ObjectId}
use Rattle.broker_ledger.specs.Order.{same_stamp, same_time}
use Rattle.broker_ledger.specs.Effect.{Effect}
use Rattle.broker_ledger.specs.Effect.TheVariants as effect
use Rattle.broker_ledger.specs.Outcome.{Outcome}
use Rattle.broker_ledger.specs.Outcome.TheVariants as outcome
use Rattle.broker_ledger.specs.Decision.{Decision}
use Rattle.broker_ledger.specs.Decision.TheVariants as decision
use Rattle.message_form.specs.declared.messages.Message.{Message}
use Rattle.message_form.specs.declared.messages.Message.TheVariants as message
use Rattle.message_form.specs.declared.turns.Out.{Out}
use Rattle.broker_ledger.specs.Meaning.{ToRead, ToWrite, Stop, Asks, Over}
use Rattle.broker_ledger.specs.declared.givens.Given.{Given}
use Rattle.broker_ledger.specs.declared.heards.Heard.{Heard}
use Rattle.broker_ledger.specs.declared.notes.Last.{Last}
use Rattle.broker_ledger.specs.declared.notes.Notes.{Notes}
use Rattle.broker_core.specs.declared.phases.Phase.{Phase}
use Rattle.broker_core.specs.declared.phases.Phase.TheVariants as phase
use Rattle.broker_core.specs.declared.replies.Reply.{Reply}
use Rattle.broker_core.specs.declared.replies.Reply.TheVariants.{Ignored, Hears, Adds}
use Rattle.broker_ledger.specs.Tasks.{task_of}
use Rattle.broker_ledger.specs.Tests.{is_stamp, is_time}
use Rattle.broker_ledger.specs.Fits.{is_none, act_effect, next_clock}
use Rattle.broker_core.specs.Stages.{is_asking, is_finished}
use Rattle.broker_ledger.specs.Nodes.{repository}
use Rattle.broker_core.specs.Rows.{when}
use Rattle.broker_ledger.specs.Heards.{closed_at, closed_in}
use Rattle.broker_ledger.specs.Notes.{open_last, time_at, stop_at, act_at, another_at, index_of, home_of, timeout_of, most_of, clock_of}

-- ---- the stage

abbrev pub phase_of : Stop → Phase
phase_of (Asks (ToRead o)) = phase.Reading o
phase_of (Asks (ToWrite o v)) = phase.Writing o v
phase_of (Over ending.Finished) = phase.Finishing
phase_of (Over (ending.Withdrawn l)) = phase.Stopping (outcome.Withdrawn l)
phase_of (Over (ending.Failed l k)) = phase.Stopping (outcome.Failed l k)

-- the last try, where none is open
abbrev pub phase_by_last : Heard → Option Last → Phase
phase_by_last h None = phase.Idle
phase_by_last h (Some l) = if is_none l.end || closed_at h l then phase.Idle else phase.Closing

-- the open try, whose script stops so
abbrev pub phase_by_stop : Heard → Last → Stop → Phase
phase_by_stop h l s =
    if is_asking s && is_time h.ended (time_at l) then phase.Refused
    else (if (l.answered == 0) && (if is_stamp h.begun l.stamp then false else true) then phase.Opening else phase_of s)

module _ (acts : List ActSpec) where
  abbrev pub phase_by_open : Notes → List Given → Heard → Option Last → Phase
  phase_by_open n answers h None = phase_by_last h n.last
  phase_by_open n answers h (Some l) = phase_by_stop h l (stop_at acts n answers)

  abbrev pub phase_at : ℕ → Notes → List Given → Heard → Phase
  phase_at run n answers h = if n.run == run then phase_by_open n answers h (open_last n) else phase.Idle

-- ---- the request that stands

abbrev pub home_gets : Last → Message → Option Out
home_gets l m = Some (record { to = repository l.stamp.home; message = m })

abbrev pub standing_for : ℕ → Last → Phase → Option Out
standing_for timeout l phase.Idle = None
standing_for timeout l phase.Refused = home_gets l (message.Withdraw l.stamp)
standing_for timeout l phase.Opening = home_gets l (message.Begin l.stamp timeout)
standing_for timeout l (phase.Reading o) = Some (record { to = repository o.repository; message = message.Read (time_at l) o })
standing_for timeout l (phase.Writing o v) = Some (record { to = repository o.repository; message = message.Write (time_at l) o v })
standing_for timeout l phase.Finishing = home_gets l (message.Commit l.stamp)
standing_for timeout l (phase.Stopping o) = None
standing_for timeout l phase.Closing = home_gets l (message.Withdraw l.stamp)

abbrev pub standing_by : ℕ → Phase → Option Last → Option Out
standing_by timeout p None = None
standing_by timeout p (Some l) = standing_for timeout l p

abbrev pub standing_at : List ActSpec → Notes → Phase → Option Out
standing_at acts n p = standing_by (timeout_of (act_at acts n)) p n.last

-- no request stands
abbrev pub is_quiet : Phase → Bool
is_quiet phase.Idle = true
is_quiet (phase.Stopping o) = true
is_quiet _ = false

-- ---- what is heard

abbrev pub ends_at : ℕ → Outcome → Reply
ends_at i o = Adds (effect.End i o)

abbrev pub commit_answered : ℕ → Decision → Reply
commit_answered i decision.Committed = ends_at i outcome.Committed
commit_answered i decision.Withdrawn = Ignored
commit_answered i (decision.Expired d m) = ends_at i (outcome.Expired d m)

abbrev pub early_answered : Bool → ℕ → Decision → Reply
early_answered done i decision.Committed = when done (ends_at i outcome.Committed)
early_answered done i decision.Withdrawn = Ignored
early_answered done i (decision.Expired d m) = ends_at i (outcome.Expired d m)

-- while Begin stands; `done` says that the script is finished without a request
abbrev pub opening_row : ℕ → Bool → Last → Heard → Message → Reply
opening_row i done l h (message.Begun x) = when (same_stamp l.stamp x) (Hears (record h { begun = Some l.stamp }))
opening_row i done l h (message.Decided x d) = when (same_stamp l.stamp x) (early_answered done i d)
opening_row i done l h _ = Ignored

abbrev pub ended_row : Last → Heard → TimeParts → Reply
ended_row l h x = when (same_time (time_at l) x) (Hears (record h { ended = Some (time_at l) }))

-- while a Read stands
abbrev pub reading_row : ℕ → ObjectId → Last → Heard → Message → Reply
reading_row i o l h (message.Value x v) = when (same_time (time_at l) x) (Adds (effect.Got x.step v))
reading_row i o l h (message.LaterRead x e) = when (same_time (time_at l) x) (ends_at i (outcome.LaterRead o e))
reading_row i o l h (message.Ended x) = ended_row l h x
reading_row i o l h _ = Ignored

-- while a Write stands
abbrev pub writing_row : ℕ → ObjectId → Last → Heard → Message → Reply
writing_row i o l h (message.Stored x) = when (same_time (time_at l) x) (Adds (effect.Acked x.step))
writing_row i o l h (message.LaterRead x e) = when (same_time (time_at l) x) (ends_at i (outcome.LaterRead o e))
writing_row i o l h (message.LaterVersion x e) = when (same_time (time_at l) x) (ends_at i (outcome.LaterVersion o e))
writing_row i o l h (message.Ended x) = ended_row l h x
writing_row i o l h _ = Ignored

abbrev pub decided_of : StampParts → Message → Option Decision
decided_of s (message.Decided x d) = if same_stamp s x then Some d else None
decided_of s _ = None

-- while Commit, or a Withdraw, stands
abbrev pub decision_row : ℕ → Last → Phase → Heard → Option Decision → Reply
decision_row i l p h None = Ignored
decision_row i l phase.Finishing h (Some d) = commit_answered i d
decision_row i l phase.Refused h (Some d) = early_answered false i d
decision_row i l phase.Closing h (Some d) = Hears (record h { closed = Some l.stamp })
decision_row i l _ h (Some d) = Ignored

abbrev pub deciding_row : ℕ → Last → Phase → Heard → Message → Reply
deciding_row i l p h m = decision_row i l p h (decided_of l.stamp m)

abbrev pub is_decided : Message → Bool
is_decided (message.Decided x d) = true
is_decided _ = false

abbrev pub finished_for : Message → Stop → Bool
finished_for m s = is_decided m && is_finished s

-- `i` is the index of the act, `s` where its script stops
abbrev pub reply_for : ℕ → Stop → Last → Phase → Heard → Message → Reply
reply_for i s l phase.Opening h m = opening_row i (finished_for m s) l h m
reply_for i s l (phase.Reading o) h m = reading_row i o l h m
reply_for i s l (phase.Writing o v) h m = writing_row i o l h m
reply_for i s l p h m = deciding_row i l p h m

abbrev pub reply_by : ℕ → Stop → Option Last → Phase → Heard → Message → Reply
reply_by i s None p h m = Ignored
reply_by i s (Some l) p h m = reply_for i s l p h m

abbrev pub reply_at : List ActSpec → Notes → List Given → Phase → Heard → Message → Reply
reply_at acts n answers p h m = reply_by (index_of (act_at acts n)) (stop_at acts n answers) n.last p h m

-- ---- what is owed

abbrev pub start_at : Option ActSpec → Option Effect
start_at None = None
start_at (Some a) = Some (act_effect (task_of a))

abbrev pub shown_at : Option ActSpec → Notes → ℕ
shown_at a n = max n.shown (clock_of a - 1)

abbrev pub by_clock_at : ℕ → Option ActSpec → Notes → Option ℕ → Effect
by_clock_at me a n (Some c) = effect.Try (index_of a) (record { clock = c; broker = me; home = home_of a })
by_clock_at me a n None = effect.End (index_of a) (outcome.Spent (max n.clock (shown_at a n)))

abbrev pub try_or_spent_at : ℕ → Option ActSpec → Notes → Effect
try_or_spent_at me a n = by_clock_at me a n (next_clock n.clock (shown_at a n))

module _ (me : ℕ) (acts : List ActSpec) where
  abbrev pub after_tries_at : Heard → Notes → Option Effect
  after_tries_at h n =
      if n.tries == 0 then Some (try_or_spent_at me (act_at acts n) n)
      else (if closed_in h n.last
      then (if another_at (most_of (act_at acts n)) n then Some (try_or_spent_at me (act_at acts n) n) else start_at (slice_get acts n.started))
      else None)

  abbrev pub due_at : Heard → Notes → Option Effect
  due_at h n =
      if n.started == 0 then start_at (slice_get acts 0)
      else (if n.spent then start_at (slice_get acts n.started) else after_tries_at h n)

  abbrev pub by_phase : Heard → Notes → Phase → Option Effect
  by_phase h n (phase.Stopping o) = Some (effect.End (index_of (act_at acts n)) o)
  by_phase h n phase.Idle = due_at h n
  by_phase h n phase.Refused = due_at h n
  by_phase h n phase.Opening = due_at h n
  by_phase h n (phase.Reading o) = due_at h n
  by_phase h n (phase.Writing o v) = due_at h n
  by_phase h n phase.Finishing = due_at h n
  by_phase h n phase.Closing = due_at h n

  abbrev pub owed_at : ℕ → Notes → Heard → Phase → Option Effect
  owed_at run n h p = if nat_lt n.run run then Some (effect.Run run) else by_phase h n p
