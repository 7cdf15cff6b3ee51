-- How many copies of each message are due, held or given up: it follows from counts alone.
use Rattle.std.specs.Prelude.{◌≡◌, ℕ, zero, suc, ◌+◌, ◌≤◌, ◌==◌, ◌&&◌, nat_le, nat_lt, cond, List, [], ◌∷◌, ◌++◌, length, take, slice_get, Option, Some, None, if◌then◌else◌}
use Rattle.pseudo_time.specs.declared.nodes.NodeId.{NodeId}
use Rattle.stream_port.specs.declared.fates.Fate.{Fate}
use Rattle.stream_port.specs.Fates.{copies_of}
use Rattle.pseudo_time.specs.Nodes.{same_node}
use Rattle.message_core.specs.Flights.{State, Call, Send, Take, Pass, Shut, step, waiting, going_to}

-- how often a number stands in a list
abbrev pub count : ℕ → List ℕ → ℕ
count k [] = 0
count k (x ∷ xs) = cond (x == k) 1 0 + count k xs

-- a message that was sent
pub record Posted : Type 0 where
  pub to : NodeId
  pub fate : Fate
  -- how many ticks had passed
  pub ticks : ℕ

-- what is counted of a flight
pub record Tally : Type 0 where
  -- the one with number k stands at place k - 1
  pub sendings : List Posted
  -- the numbers of the copies that were taken, once for each copy
  pub taken : List ℕ

abbrev pub noted : State → Tally → Call → Tally
noted s l (Send letter fate) = record { sendings = l.sendings ++ (record { to = letter.to; fate = fate; ticks = s.ticks }) ∷ []; taken = l.taken }
noted s l (Take node) = record { sendings = l.sendings; taken = l.taken ++ take 1 (waiting s node) }
noted s l Pass = l
noted s l (Shut node) = l

abbrev pub blank_tally : Tally
blank_tally = record { sendings = []; taken = [] }

-- the ledger after these calls
unfoldable pub all_noted : State → Tally → List Call → Tally
all_noted s l [] = l
all_noted s l (call ∷ calls) = all_noted (step s call) (noted s l call) calls

-- what stands at this number, counted from 1
abbrev pub numbered : {X : Type 0} → List X → ℕ → Option X
numbered xs zero = None
numbered xs (suc k) = slice_get xs k

-- how many copies became due at this node so far: all of them once the hold has passed
abbrev pub came : NodeId → ℕ → Option Posted → ℕ
came node now None = 0
came node now (Some x) = cond (same_node x.to node && nat_le (x.ticks + x.fate.hold) now) (copies_of x.fate) 0

-- how many copies for this node wait for this tick: all of them until the hold has passed
abbrev pub waits_for : NodeId → ℕ → ℕ → Option Posted → ℕ
waits_for node now due None = 0
waits_for node now due (Some x) = cond (same_node x.to node && ((x.ticks + x.fate.hold == due) && nat_lt now due)) (copies_of x.fate) 0

-- how many of these copies, which were taken, the node took: all where the message went to it
abbrev pub took : NodeId → ℕ → Option Posted → ℕ
took node copies None = copies
took node copies (Some x) = cond (same_node x.to node) copies 0

-- The copies that became due at a node that is up stand in its queue or were taken. At one that isn't up the others were given up.
pub record Tallied (s : State) (l : Tally) : Type 0 where
  pub as_many : length s.letters ≡ length l.sendings
  pub due : (k : ℕ) (node : NodeId) (queue : List ℕ) → s.queues node ≡ Some queue → count k queue + took node (count k l.taken) (numbered l.sendings k) ≡ came node s.ticks (numbered l.sendings k)
  pub most : (k : ℕ) (node : NodeId) → took node (count k l.taken) (numbered l.sendings k) ≤ came node s.ticks (numbered l.sendings k)
  pub held : (k : ℕ) (node : NodeId) (due : ℕ) → count k (going_to node (s.held due)) ≡ waits_for node s.ticks due (numbered l.sendings k)

-- the message of this number went to the node, and all of its copies are due by now
pub record IsDue (s : State) (l : Tally) (node : NodeId) (k : ℕ) (x : Posted) : Type 0 where
  pub there : numbered l.sendings k ≡ Some x
  pub to : x.to ≡ node
  pub ripe : x.ticks + x.fate.hold ≤ s.ticks
