-- What is heard of a message, at each stage of the last try.
use Rattle.std.specs.Prelude.{ℕ, Bool, true, false, List, Some, if◌then◌else◌}
use Rattle.broker_ledger.specs.StampParts.{StampParts}
use Rattle.broker_ledger.specs.TimeParts.{TimeParts}
use Rattle.broker_ledger.specs.Order.{same_stamp, same_time}
use Rattle.broker_ledger.specs.Decision.{Decision}
use Rattle.broker_ledger.specs.Decision.TheVariants as decision
use Rattle.broker_ledger.specs.Effect.TheVariants as effect
use Rattle.broker_ledger.specs.Outcome.{Outcome}
use Rattle.broker_ledger.specs.Outcome.TheVariants as outcome
use Rattle.message_form.specs.declared.messages.Message.{Message}
use Rattle.message_form.specs.declared.messages.Message.TheVariants as message
use Rattle.broker_ledger.specs.Meaning as meaning
use Rattle.broker_ledger.specs.Meaning.{Answer, ToRead, ToWrite}
use Rattle.broker_ledger.specs.Questions.{Tree}
use Rattle.broker_ledger.specs.declared.heards.Heard.{Heard}
use Rattle.broker_core.specs.declared.replies.Reply.{Reply}
use Rattle.broker_core.specs.declared.replies.Reply.TheVariants.{Ignored, Hears, Adds}
use Rattle.broker_ledger.specs.Book.{Try, time_of}
use Rattle.broker_ledger.specs.Fits.{stop_of}
use Rattle.broker_core.specs.Stages.{Stage, Refused, Opening, Asking, Finishing, Closing, is_finished}

abbrev pub ends : Try → Outcome → Reply
ends t o = Adds (effect.End t.task.index o)

abbrev pub when : Bool → Reply → Reply
when fits r = if fits then r else Ignored

-- Decided, while Commit stands
abbrev pub decided_commit : Try → Decision → Reply
decided_commit t decision.Committed = ends t outcome.Committed
decided_commit t decision.Withdrawn = Ignored
decided_commit t (decision.Expired d m) = ends t (outcome.Expired d m)

-- Decided, while Begin stands (`done`: the script is finished without a request), and while Withdraw stands after Ended
abbrev pub decided_early : Bool → Try → Decision → Reply
decided_early done t decision.Committed = when done (ends t outcome.Committed)
decided_early done t decision.Withdrawn = Ignored
decided_early done t (decision.Expired d m) = ends t (outcome.Expired d m)

-- a message by what it tells a broker
pub data News : Type 0 where
  Begun : StampParts → News
  Answered : TimeParts → Answer → News
  Refusal : TimeParts → TimeParts → Bool → News  -- what was shown, and whether by a read
  Over_there : TimeParts → News  -- Ended
  Decided : StampParts → Decision → News
  Nothing_new : News

abbrev pub news : Message → News
news (message.Begun s) = Begun s
news (message.Value x v) = Answered x (meaning.Got v)
news (message.Stored x) = Answered x meaning.Stored
news (message.LaterRead x e) = Refusal x e true
news (message.LaterVersion x y) = Refusal x y false
news (message.Ended x) = Over_there x
news (message.Decided s d) = Decided s d
news (message.Begin s t) = Nothing_new
news (message.Read x o) = Nothing_new
news (message.Write x o v) = Nothing_new
news (message.Commit s) = Nothing_new
news (message.Withdraw s) = Nothing_new
news (message.Ask s) = Nothing_new
news (message.Tell s c) = Nothing_new

module _ (script : List ℕ → Tree) where
  -- each row of what is heard; everything else is ignored
  abbrev pub row : Stage → Heard → News → Reply
  row (Opening t) h (Begun s) = when (same_stamp t.stamp s) (Hears (record h { begun = Some t.stamp }))
  row (Opening t) h (Decided s d) = when (same_stamp t.stamp s) (decided_early (is_finished (stop_of script t)) t d)
  row (Asking t (ToRead o)) h (Answered x (meaning.Got v)) = when (same_time (time_of t) x) (Adds (effect.Got x.step v))
  row (Asking t (ToRead o)) h (Refusal x e true) = when (same_time (time_of t) x) (ends t (outcome.LaterRead o e))
  row (Asking t (ToWrite o v)) h (Answered x meaning.Stored) = when (same_time (time_of t) x) (Adds (effect.Acked x.step))
  row (Asking t (ToWrite o v)) h (Refusal x e true) = when (same_time (time_of t) x) (ends t (outcome.LaterRead o e))
  row (Asking t (ToWrite o v)) h (Refusal x e false) = when (same_time (time_of t) x) (ends t (outcome.LaterVersion o e))
  row (Asking t q) h (Over_there x) = when (same_time (time_of t) x) (Hears (record h { ended = Some (time_of t) }))
  row (Finishing t) h (Decided s d) = when (same_stamp t.stamp s) (decided_commit t d)
  row (Refused t) h (Decided s d) = when (same_stamp t.stamp s) (decided_early false t d)
  row (Closing t) h (Decided s d) = when (same_stamp t.stamp s) (Hears (record h { closed = Some t.stamp }))
  row _ h _ = Ignored
