-- What a flight of copies holds, as a fold over what was done with it.
use Rattle.std.specs.Prelude.{◌≡◌, ℕ, zero, suc, ◌+◌, ◌-◌, ◌==◌, List, [], ◌∷◌, ◌++◌, length, drop, map, replicate, Option, Some, None, if◌then◌else◌}
use Rattle.std.specs.Option.{option_map, unwrap_or}
use Rattle.std.specs.List.{insert, filter, list_any}
use Rattle.pseudo_time.specs.declared.nodes.NodeId.{NodeId}
use Rattle.stream_port.specs.declared.fates.Fate.{Fate}
use Rattle.stream_port.specs.Fates.{copies_of}
use Rattle.message_core.specs.declared.letters.Letter.{Letter}
use Rattle.message_core.specs.declared.letters.HeldCopy.{HeldCopy}
use Rattle.pseudo_time.specs.Nodes.{same_node}

pub record State : Type 0 where
  -- all messages that were sent, as texts: the one with number k stands at place k - 1
  pub letters : List Letter
  -- how many ticks passed
  pub ticks : ℕ
  -- of each node that is up, the numbers of its due copies, the front one first
  pub queues : NodeId → Option (List ℕ)
  -- the copies that are held until this tick, in order of number
  pub held : ℕ → List HeldCopy

-- ---- sending

-- a copy goes before the last `overtake` copies, and before all where there are fewer
abbrev pub put : ℕ → ℕ → List ℕ → List ℕ
put number overtake queue = insert queue (length queue - overtake) number

-- copy after copy
abbrev pub puts : ℕ → ℕ → ℕ → List ℕ → List ℕ
puts zero number overtake queue = queue
puts (suc n) number overtake queue = puts n number overtake (put number overtake queue)

-- numbers begin at 1
abbrev pub next_number : State → ℕ
next_number s = length s.letters + 1

-- the copies are due at once, or never where the node isn't up
abbrev pub sent_at_once : State → Letter → Fate → State
sent_at_once s letter fate = record {
  letters = s.letters ++ letter ∷ [];
  ticks = s.ticks;
  queues = λ n. if same_node letter.to n then option_map (puts (copies_of fate) (next_number s) fate.overtake) (s.queues n) else s.queues n;
  held = s.held;
}

-- the copies wait for their ticks
abbrev pub sent_later : State → Letter → Fate → State
sent_later s letter fate = record {
  letters = s.letters ++ letter ∷ [];
  ticks = s.ticks;
  queues = s.queues;
  held = λ d. if s.ticks + fate.hold == d then s.held d ++ replicate (copies_of fate) (record { number = next_number s; to = letter.to }) else s.held d;
}

abbrev pub sent : State → Letter → Fate → State
sent s letter fate = if fate.hold == 0 then sent_at_once s letter fate else sent_later s letter fate

-- ---- the other calls

-- the front copy leaves its queue
abbrev pub taken : State → NodeId → State
taken s node = record { letters = s.letters; ticks = s.ticks; queues = λ n. if same_node node n then option_map (drop 1) (s.queues n) else s.queues n; held = s.held }

-- the numbers of the copies that go to this node
abbrev pub going_to : NodeId → List HeldCopy → List ℕ
going_to n held = map (λ (h : HeldCopy). h.number) (filter (λ (h : HeldCopy). same_node h.to n) held)

-- The copies held until this tick go to the ends of their queues. Those to a node that isn't up are given up.
abbrev pub passed : State → State
passed s = record {
  letters = s.letters;
  ticks = s.ticks + 1;
  queues = λ n. option_map (λ queue. queue ++ going_to n (s.held (s.ticks + 1))) (s.queues n);
  held = λ d. if s.ticks + 1 == d then [] else s.held d;
}

-- the node is down from now on
abbrev pub was_shut : State → NodeId → State
was_shut s node = record { letters = s.letters; ticks = s.ticks; queues = λ n. if same_node node n then None else s.queues n; held = s.held }

-- ---- a whole flight

pub data Call : Type 0 where
  Send : Letter → Fate → Call
  Take : NodeId → Call
  Pass : Call
  Shut : NodeId → Call

abbrev pub step : State → Call → State
step s (Send letter fate) = sent s letter fate
step s (Take node) = taken s node
step s Pass = passed s
step s (Shut node) = was_shut s node

-- a flight in a run of these nodes: each has an empty queue
abbrev pub start : List NodeId → State
start nodes = record { letters = []; ticks = 0; queues = λ n. if list_any (λ m. same_node m n) nodes then Some [] else None; held = λ d. [] }

-- the calls stand in order, the first one first
unfoldable pub flown : State → List Call → State
flown s [] = s
flown s (call ∷ calls) = flown (step s call) calls

-- the due copies of a node: none where it isn't up
abbrev pub waiting : State → NodeId → List ℕ
waiting s node = unwrap_or (s.queues node) []

-- no copy is due at any node
abbrev pub AllEmpty : State → Type 0
AllEmpty s = (node : NodeId) → waiting s node ≡ []
