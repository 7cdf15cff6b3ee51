-- A member's rules: what it gives by its log, for what reaches it.
use Rattle.std.specs.Prelude.{ℕ, ◌+◌, List, [], ◌∷◌, map, reverse, Option, Some, None, if◌then◌else◌}
use Rattle.pseudo_time.specs.StampParts.{StampParts}
use Rattle.pseudo_time.specs.declared.decisions.Decision.{Decision}
use Rattle.pseudo_time.specs.declared.decisions.Decision.TheVariants as decision
use Rattle.pseudo_time.specs.declared.nodes.NodeId.{NodeId}
use Rattle.effect_form.specs.declared.effects.Effect.{Effect}
use Rattle.effect_form.specs.declared.effects.Effect.TheVariants as effect
use Rattle.message_form.specs.declared.messages.Message.{Message}
use Rattle.message_form.specs.declared.messages.Message.TheVariants as message
use Rattle.message_form.specs.declared.turns.Out.{Out}
use Rattle.commit_record.specs.declared.states.RecordState.{RecordState}
use Rattle.commit_record.specs.declared.states.RecordState.TheVariants as state
use Rattle.repository_log.specs.Logs.{record_of}
use Rattle.pseudo_time.specs.Nodes.{is_broker}
use Rattle.repository_log.specs.Expiries.{expiries}

-- the Begins and Decides of a log; a member goes by nothing else
abbrev pub own : List Effect → List Effect
own [] = []
own (effect.Begin s t ∷ l) = effect.Begin s t ∷ own l
own (effect.Decide s d ∷ l) = effect.Decide s d ∷ own l
own (effect.Put o x v ∷ l) = own l
own (effect.Stretch o x ∷ l) = own l
own (effect.Learn s c ∷ l) = own l
own (effect.Run n ∷ l) = own l
own (effect.Act i h t n c b ∷ l) = own l
own (effect.Try i s ∷ l) = own l
own (effect.Got k v ∷ l) = own l
own (effect.Acked k ∷ l) = own l
own (effect.End i e ∷ l) = own l
own (effect.Mark at ∷ l) = own l
own (effect.Whole ∷ l) = own l

-- those of a log that stands oldest first, newest first
abbrev pub book : List Effect → List Effect
book log = own (reverse log)

-- What a turn gives: its effects and the messages that it owes, in order.
pub record Given : Type 0 where
  pub effects : List Effect
  pub outs : List Out

abbrev pub quiet : Given
quiet = record { effects = []; outs = [] }

abbrev pub owed : NodeId → Message → List Out
owed to m = record { to = to; message = m } ∷ []

-- a Begin, by the record
abbrev pub begin_by : ℕ → NodeId → StampParts → ℕ → Option RecordState → Given
begin_by moment from s timeout None = record { effects = effect.Begin s (moment + timeout) ∷ []; outs = owed from (message.Begun s) }
begin_by moment from s timeout (Some (state.Unknown t)) = record { effects = []; outs = owed from (message.Begun s) }
begin_by moment from s timeout (Some (state.Decided d)) = record { effects = []; outs = owed from (message.Decided s d) }

-- a Commit or a Withdraw, by the record
abbrev pub close_by : NodeId → StampParts → Decision → Option RecordState → Given
close_by from s x None = quiet
close_by from s x (Some (state.Unknown t)) = record { effects = effect.Decide s x ∷ []; outs = owed from (message.Decided s x) }
close_by from s x (Some (state.Decided d)) = record { effects = []; outs = owed from (message.Decided s d) }

abbrev pub row : List Effect → ℕ → NodeId → Message → Given
row log moment from (message.Begin s timeout) = begin_by moment from s timeout (record_of (book log) s)
row log moment from (message.Commit s) = close_by from s decision.Committed (record_of (book log) s)
row log moment from (message.Withdraw s) = close_by from s decision.Withdrawn (record_of (book log) s)
row log moment from (message.Begun s) = quiet
row log moment from (message.Read t o) = quiet
row log moment from (message.Value t v) = quiet
row log moment from (message.Write t o v) = quiet
row log moment from (message.Stored t) = quiet
row log moment from (message.LaterRead t e) = quiet
row log moment from (message.LaterVersion t x) = quiet
row log moment from (message.Ended t) = quiet
row log moment from (message.Decided s d) = quiet
row log moment from (message.Ask s) = quiet
row log moment from (message.Tell s c) = quiet

-- THE RULES OF MEMBERS: a message is taken. The log stands oldest first; the sender is any broker
unfoldable pub on_message : List Effect → ℕ → NodeId → Message → Given
on_message log moment from m = if is_broker from.kind then row log moment from m else quiet

abbrev pub decides : List (StampParts × Decision) → List Effect
decides es = map (λ e. effect.Decide e.0 e.1) es

-- a moment is heard: each record that is due expires, in stamp order, and nobody is informed
unfoldable pub on_moment : List Effect → ℕ → Given
on_moment log moment = record { effects = decides (expiries moment (book log)); outs = [] }
