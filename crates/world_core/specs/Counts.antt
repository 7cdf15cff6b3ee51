-- What the entries of a trace and its messages come to: which nodes are down, and how many Ticks, crashes and Asks there are.
use Rattle.std.specs.Prelude.{ℕ, Bool, true, false, List, [], ◌∷◌, Option, Some, None, if◌then◌else◌}
use Rattle.std.specs.List.{count_by}
use Rattle.pseudo_time.specs.declared.nodes.NodeId.{NodeId}
use Rattle.pseudo_time.specs.declared.down_causes.DownCause.{DownCause}
use Rattle.pseudo_time.specs.Nodes.{same_node}
use Rattle.message_form.specs.declared.messages.Message.TheVariants as message
use Rattle.world_core.specs.declared.entries.Entry.{Entry}
use Rattle.world_core.specs.declared.entries.Entry.TheVariants.{Take, Go, Learn, Hear, Gate, Crash, Down, Tick}
use Rattle.world_core.specs.declared.traces.Sent.{Sent}

-- why the node is down, where its Down stands
abbrev pub down_cause : NodeId → List Entry → Option DownCause
down_cause n [] = None
down_cause n (Take node number ∷ es) = down_cause n es
down_cause n (Go node ∷ es) = down_cause n es
down_cause n (Learn node stamp committed ∷ es) = down_cause n es
down_cause n (Hear node ∷ es) = down_cause n es
down_cause n (Gate node ∷ es) = down_cause n es
down_cause n (Crash node kept ∷ es) = down_cause n es
down_cause n (Down node cause ∷ es) = if same_node node n then Some cause else down_cause n es
down_cause n (Tick moment ∷ es) = down_cause n es

-- ---- counts

abbrev pub is_tick : Entry → Bool
is_tick (Tick moment) = true
is_tick _ = false

abbrev pub is_crash : Entry → Bool
is_crash (Crash node kept) = true
is_crash _ = false

abbrev pub is_ask : Sent → Bool
is_ask s = elim s.message [ message.Ask stamp ↦ true | _ ↦ false ]

abbrev pub tick_count : List Entry → ℕ
tick_count es = count_by is_tick es

abbrev pub crash_count : List Entry → ℕ
crash_count es = count_by is_crash es

abbrev pub ask_count : List Sent → ℕ
ask_count sent = count_by is_ask sent
