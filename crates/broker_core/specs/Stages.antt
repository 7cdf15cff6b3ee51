-- What is outstanding: the stage of the last try of a run, and the request that stands at it.
use Rattle.std.specs.Prelude.{ℕ, ◌==◌, Bool, true, false, ◌&&◌, ◌||◌, length, List, Option, Some, None, if◌then◌else◌}
use Rattle.broker_ledger.specs.Ending.TheVariants as ending
use Rattle.broker_ledger.specs.Nodes.{repository}
use Rattle.broker_ledger.specs.Outcome.{Outcome}
use Rattle.broker_ledger.specs.Outcome.TheVariants as outcome
use Rattle.message_form.specs.declared.messages.Message.{Message}
use Rattle.message_form.specs.declared.messages.Message.TheVariants as message
use Rattle.message_form.specs.declared.turns.Out.{Out}
use Rattle.broker_ledger.specs.Meaning.{Request, ToRead, ToWrite, Stop, Asks, Over}
use Rattle.broker_ledger.specs.Questions.{Tree}
use Rattle.broker_ledger.specs.declared.heards.Heard.{Heard}
use Rattle.broker_ledger.specs.Tests.{is_stamp, is_time}
use Rattle.broker_ledger.specs.Book.{Try, Book, open_try, last_try, time_of}
pub use Rattle.broker_ledger.specs.Heards.{is_settled, nothing_heard}
use Rattle.broker_ledger.specs.Fits.{is_none, stop_of}

-- the stage of the last try
pub data Stage : Type 0 where
  Idle : Stage  -- there is none, or it is closed
  Refused : Try → Stage  -- Ended was heard for its current request
  Opening : Try → Stage  -- it has no answer, and no Begun was heard
  Asking : Try → Request → Stage
  Finishing : Try → Stage  -- the script is finished
  Stopping : Try → Outcome → Stage  -- the script has withdrawn or failed, and the End is owed
  Closing : Try → Stage  -- it ended without its home, and no Decided was heard

abbrev pub no_answer : Try → Bool
no_answer t = length t.answers == 0

-- by where the script stops
abbrev pub by_stop : Try → Stop → Stage
by_stop t (Asks q) = Asking t q
by_stop t (Over ending.Finished) = Finishing t
by_stop t (Over (ending.Withdrawn l)) = Stopping t (outcome.Withdrawn l)
by_stop t (Over (ending.Failed l k)) = Stopping t (outcome.Failed l k)

abbrev pub is_asking : Stop → Bool
is_asking (Asks q) = true
is_asking (Over e) = false

abbrev pub is_finished : Stop → Bool
is_finished (Over ending.Finished) = true
is_finished (Over (ending.Withdrawn l)) = false
is_finished (Over (ending.Failed l k)) = false
is_finished (Asks q) = false

-- a try is closed by an End Committed or Expired, or by a Decided of its stamp after another End
abbrev pub is_closed : Heard → Try → Bool
is_closed h t = if is_none t.end then false else (is_settled t.end || is_stamp h.closed t.stamp)

-- the last try of the run, where no try is open
abbrev pub by_last : Heard → Option Try → Stage
by_last h None = Idle
by_last h (Some t) = if is_none t.end || is_closed h t then Idle else Closing t

module _ (script : List ℕ → Tree) where
  -- the open try
  abbrev pub of_open : Heard → Try → Stage
  of_open h t =
      if is_asking (stop_of script t) && is_time h.ended (time_of t) then Refused t
      else (if no_answer t && (if is_stamp h.begun t.stamp then false else true) then Opening t
      else by_stop t (stop_of script t))

  abbrev pub stage_of : Heard → Option Try → Option Try → Stage
  stage_of h (Some t) last = of_open h t
  stage_of h None last = by_last h last

  -- The stage of the last try of this run. Where the last Run of the log is that of an earlier run, this run has no try.
  abbrev pub stage : ℕ → Book → Heard → Stage
  stage run b h = if b.run == run then stage_of h (open_try b) (last_try b) else Idle

abbrev pub to_home : Try → Message → Option Out
to_home t m = Some (record { to = repository t.stamp.home; message = m })

abbrev pub request : Try → Request → Option Out
request t (ToRead o) = Some (record { to = repository o.repository; message = message.Read (time_of t) o })
request t (ToWrite o v) = Some (record { to = repository o.repository; message = message.Write (time_of t) o v })

-- the outstanding request
abbrev pub standing : Stage → Option Out
standing Idle = None
standing (Refused t) = to_home t (message.Withdraw t.stamp)
standing (Opening t) = to_home t (message.Begin t.stamp t.task.timeout)
standing (Asking t q) = request t q
standing (Finishing t) = to_home t (message.Commit t.stamp)
standing (Stopping t o) = None
standing (Closing t) = to_home t (message.Withdraw t.stamp)
