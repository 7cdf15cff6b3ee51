-- What a repository does with a message: one function for each kind, by what its log says.
use Rattle.std.specs.Prelude.{ℕ, ◌+◌, Bool, true, false, List, [], ◌∷◌, Option, Some, None, ◌==◌, ◌&&◌, not, if◌then◌else◌}
use Rattle.std.specs.List.{filter}
use Rattle.std.specs.BTreeSet.{insert_key}
use Rattle.pseudo_time.specs.StampParts.{StampParts}
use Rattle.pseudo_time.specs.TimeParts.{TimeParts}
use Rattle.pseudo_time.specs.Order.{same_stamp}
use Rattle.pseudo_time.specs.declared.decisions.Decision.{Decision}
use Rattle.pseudo_time.specs.declared.decisions.Decision.TheVariants as decision
use Rattle.pseudo_time.specs.declared.nodes.NodeId.{NodeId}
use Rattle.repository_draft.specs.ObjectId.{ObjectId}
use Rattle.repository_draft.specs.Value.{Value}
use Rattle.repository_draft.specs.Effect.TheVariants as effect
use Rattle.repository_draft.specs.Message.{Message}
use Rattle.repository_draft.specs.Message.TheVariants as message
use Rattle.commit_record.specs.declared.states.RecordState.{RecordState}
use Rattle.commit_record.specs.declared.states.RecordState.TheVariants as state
use Rattle.repository_draft.specs.History.{is_settled}
use Rattle.repository_draft.specs.Answers.{read_step, write_step, stands_written}
use Rattle.repository_draft.specs.declared.waits.HeldRead.{HeldRead}
use Rattle.repository_log.specs.Logs.{is_commit, marks, known, record_of}
use Rattle.repository_core.specs.Hands.{Hand, now, note, send, asker_cmp}
use Rattle.pseudo_time.specs.Nodes.{is_repository, is_broker}
pub use Rattle.repository_draft.specs.Replies.{unhold, hold, waits_for, ask_for, read_as, tells, write_as}
unfoldable pub use Rattle.repository_draft.specs.Replies.{tell_askers}

-- ---- Read

-- the read of an attempt that is known aborted has ended
abbrev pub read_known : Hand → NodeId → TimeParts → ObjectId → Option Bool → Hand
read_known h from t o (Some false) = send from (message.Ended t) (unhold t h)
read_known h from t o (Some true) = read_as h.held (unhold t h) from t o (read_step (marks (now h)) o t)
read_known h from t o None = read_as h.held (unhold t h) from t o (read_step (marks (now h)) o t)

unfoldable pub on_read : Hand → NodeId → TimeParts → ObjectId → Hand
on_read h from t o = read_known h from t o (known (now h) t.stamp)

-- ---- what a decided or learned attempt sets free

-- each of these reads is carried out again
abbrev pub reread : List (TimeParts × HeldRead) → Hand → Hand
reread [] h = h
reread (e ∷ more) h = reread more (on_read h e.1.from e.0 e.1.object)

-- the held reads that wait for the attempt are released, in rising order of pseudotime
unfoldable pub release : StampParts → Hand → Hand
release s h = reread (filter (λ e. same_stamp e.1.waits s) h.held) (record h { held = filter (λ e. not (same_stamp e.1.waits s)) h.held })

-- ---- Begin, Commit and Withdraw, by the commit record

abbrev pub begin_as : Hand → NodeId → StampParts → ℕ → Option RecordState → Hand
begin_as h from s timeout None = send from (message.Begun s) (note (effect.Begin s (h.moment + timeout)) h)
begin_as h from s timeout (Some (state.Unknown t)) = send from (message.Begun s) h
begin_as h from s timeout (Some (state.Decided d)) = send from (message.Decided s d) h

unfoldable pub on_begin : Hand → NodeId → StampParts → ℕ → Hand
on_begin h from s timeout = begin_as h from s timeout (record_of (now h) s)

abbrev pub close_as : Hand → NodeId → StampParts → Decision → Option RecordState → Hand
close_as h from s d None = h
close_as h from s d (Some (state.Unknown t)) = release s (tell_askers s (is_commit d) (send from (message.Decided s d) (note (effect.Decide s d) h)))
close_as h from s d (Some (state.Decided e)) = send from (message.Decided s e) h

-- a Commit asks for Committed, a Withdraw for Withdrawn
unfoldable pub on_close : Hand → NodeId → StampParts → Decision → Hand
on_close h from s d = close_as h from s d (record_of (now h) s)

-- ---- Write

unfoldable pub on_write : Hand → NodeId → TimeParts → ObjectId → Value → Hand
on_write h from t o v =
    write_as h from t o v (stands_written (marks (now h)) o t v) (is_settled (known (now h) t.stamp)) (write_step (marks (now h)) o t v)

-- ---- Ask and Tell

-- an asker of an unknown attempt is kept, once
abbrev pub ask_as : Hand → NodeId → StampParts → Option RecordState → Hand
ask_as h from s None = h
ask_as h from s (Some (state.Unknown t)) = record h { askers = insert_key asker_cmp h.askers (record { repository = from.number; stamp = s }) }
ask_as h from s (Some (state.Decided d)) = send from (message.Tell s (is_commit d)) h

unfoldable pub on_ask : Hand → NodeId → StampParts → Hand
on_ask h from s = ask_as h from s (record_of (now h) s)

abbrev pub learn_as : Hand → StampParts → Bool → Option Bool → Hand
learn_as h s c None = release s (note (effect.Learn s c) h)
learn_as h s c (Some d) = h

-- what another repository told, or what was learned from the board
unfoldable pub on_learn : Hand → StampParts → Bool → Hand
on_learn h s c = learn_as h s c (known (now h) s)

-- ---- which messages are ignored

-- the node is the broker with this number
abbrev pub is_broker_of : ℕ → NodeId → Bool
is_broker_of n from = is_broker from.kind && (from.number == n)

-- A Tell comes from the home of its attempt, an Ask from any repository, every other message from the broker of its
-- attempt; the attempt's home is here, except in a Tell, or the object is this repository's. Answers are no messages to
-- a repository.
abbrev pub accepts : ℕ → NodeId → Message → Bool
accepts n from (message.Begin s timeout) = is_broker_of s.broker from && (s.home == n)
accepts n from (message.Commit s) = is_broker_of s.broker from && (s.home == n)
accepts n from (message.Withdraw s) = is_broker_of s.broker from && (s.home == n)
accepts n from (message.Read t o) = is_broker_of t.stamp.broker from && (o.repository == n)
accepts n from (message.Write t o v) = is_broker_of t.stamp.broker from && (o.repository == n)
accepts n from (message.Ask s) = is_repository from.kind && (s.home == n)
accepts n from (message.Tell s c) = is_repository from.kind && (from.number == s.home)
accepts n from (message.Begun s) = false
accepts n from (message.Value t v) = false
accepts n from (message.Stored t) = false
accepts n from (message.LaterRead t e) = false
accepts n from (message.LaterVersion t x) = false
accepts n from (message.Ended t) = false
accepts n from (message.Decided s d) = false

abbrev pub row : Hand → NodeId → Message → Hand
row h from (message.Begin s timeout) = on_begin h from s timeout
row h from (message.Commit s) = on_close h from s decision.Committed
row h from (message.Withdraw s) = on_close h from s decision.Withdrawn
row h from (message.Read t o) = on_read h from t o
row h from (message.Write t o v) = on_write h from t o v
row h from (message.Ask s) = on_ask h from s
row h from (message.Tell s c) = on_learn h s c
row h from (message.Begun s) = h
row h from (message.Value t v) = h
row h from (message.Stored t) = h
row h from (message.LaterRead t e) = h
row h from (message.LaterVersion t x) = h
row h from (message.Ended t) = h
row h from (message.Decided s d) = h

-- a message is taken
unfoldable pub on_message : Hand → NodeId → Message → Hand
on_message h from m = if accepts h.number from m then row h from m else h
