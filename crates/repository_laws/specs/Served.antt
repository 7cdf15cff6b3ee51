-- What becomes of a request that a repository takes: it is answered in the same turn, or, a read, held.
use Rattle.std.specs.Prelude.{◌≡◌, ◌⊎◌, None}
use Rattle.pseudo_time.specs.Lists.{Has}
use Rattle.pseudo_time.specs.StampParts.{StampParts}
use Rattle.pseudo_time.specs.TimeParts.{TimeParts}
use Rattle.pseudo_time.specs.declared.decisions.Decision.{Decision}
use Rattle.pseudo_time.specs.declared.nodes.NodeId.{NodeId}
use Rattle.value_form.specs.declared.objects.ObjectId.{ObjectId}
use Rattle.value_form.specs.declared.values.Value.{Value}
use Rattle.message_form.specs.declared.messages.Message.{Message}
use Rattle.message_form.specs.declared.messages.Message.TheVariants as message
use Rattle.repository_log.specs.Logs.{record_of}
use Rattle.repository_core.specs.Hands.{Hand, now}

-- the second message is an answer to the first
abbrev pub IsAnswer : Message → Message → Type 0
IsAnswer (message.Begin s timeout) a = (a ≡ message.Begun s) ⊎ ((d : Decision) × (a ≡ message.Decided s d))
IsAnswer (message.Read t o) a = (a ≡ message.Ended t) ⊎ (((v : Value) × (a ≡ message.Value t v)) ⊎ ((e : TimeParts) × (a ≡ message.LaterRead t e)))
IsAnswer (message.Write t o v) a = (a ≡ message.Stored t) ⊎ ((a ≡ message.Ended t) ⊎ (((e : TimeParts) × (a ≡ message.LaterRead t e)) ⊎ ((x : TimeParts) × (a ≡ message.LaterVersion t x))))
IsAnswer (message.Commit s) a = (d : Decision) × (a ≡ message.Decided s d)
IsAnswer (message.Withdraw s) a = (d : Decision) × (a ≡ message.Decided s d)
IsAnswer _ a = ⊥

-- an answer is owed to the sender
abbrev pub GetsAnswer : Hand → NodeId → Message → Type 0
GetsAnswer h from m = (a : Message) × IsAnswer m a × Has (record { to = from; message = a }) h.outs

-- the read is held for its sender
abbrev pub IsHeld : Hand → NodeId → TimeParts → ObjectId → Type 0
IsHeld h from t o = (w : StampParts) × Has (t, record { from = from; object = o; waits = w }) h.held

-- A request is answered. A read may be held instead; a Commit or Withdraw of an attempt that has no record gets nothing.
abbrev pub IsServed : Hand → Hand → NodeId → Message → Type 0
IsServed old new from (message.Read t o) = GetsAnswer new from (message.Read t o) ⊎ IsHeld new from t o
IsServed old new from (message.Begin s timeout) = GetsAnswer new from (message.Begin s timeout)
IsServed old new from (message.Write t o v) = GetsAnswer new from (message.Write t o v)
IsServed old new from (message.Commit s) = (record_of (now old) s ≡ None) ⊎ GetsAnswer new from (message.Commit s)
IsServed old new from (message.Withdraw s) = (record_of (now old) s ≡ None) ⊎ GetsAnswer new from (message.Withdraw s)
IsServed old new from _ = Unit {0}
