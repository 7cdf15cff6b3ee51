-- What has become of each node by a place of a trace, as a walk over the entries, the first one first.
use Rattle.std.specs.Prelude.{ℕ, ◌+◌, Bool, true, false, ◌&&◌, List, [], ◌∷◌, ◌++◌, map, take, Option, Some, None, is_some, if◌then◌else◌}
use Rattle.std.specs.List.{filter}
use Rattle.std.specs.Option.{unwrap_or}
use Rattle.pseudo_time.specs.declared.nodes.NodeId.{NodeId}
use Rattle.pseudo_time.specs.declared.nodes.NodeKind.{NodeKind}
use Rattle.pseudo_time.specs.declared.nodes.NodeKind.TheVariants.{Repository, Broker}
use Rattle.value_form.specs.declared.acts.ActSpec.{ActSpec}
use Rattle.effect_form.specs.declared.effects.Effect.{Effect}
use Rattle.message_form.specs.declared.turns.Out.{Out}
use Rattle.message_form.specs.Posts.{Post, posts}
pub use Rattle.message_core.specs.Tallies.{numbered}
use Rattle.pseudo_time.specs.Nodes.{same_node}
use Rattle.serial_model.specs.Questions.{Tree}
use Rattle.world_core.specs.declared.entries.Entry.{Entry}
use Rattle.world_core.specs.declared.entries.Entry.TheVariants.{Take, Go, Learn, Hear, Gate, Crash, Down, Tick}
use Rattle.world_core.specs.declared.traces.Opened.{Opened}
use Rattle.world_core.specs.Nodes.{Mind, opened_mind, Input, Given, gives, leaves}
use Rattle.world_core.specs.Nodes.Input.{Going, Taking, Learning, Hearing}

-- what a walk begins with
pub record Base : Type 0 where
  -- what the text of a script asks and says
  pub script : List ℕ → Tree
  pub run : ℕ
  -- of all brokers
  pub acts : List ActSpec
  pub start : ℕ
  pub opened : List Opened

-- the log that a node was opened with, where it is in the list
abbrev pub opened_log : List Opened → NodeId → Option (List Effect)
opened_log [] n = None
opened_log (o ∷ os) n = if same_node o.node n then Some o.effects else opened_log os n

-- ---- a node's life: all that its own entries and the messages that it took decide

pub record Life : Type 0 where
  -- its durable log
  pub gated : List Effect
  -- the effects that wait for the next gate, and the messages
  pub fresh : List Effect
  pub outs : List Out
  pub mind : Mind

abbrev pub all_effects : Life → List Effect
all_effects l = l.gated ++ l.fresh

abbrev pub opened_life : ℕ → List Effect → Life
opened_life start log = record { gated = log; fresh = []; outs = []; mind = opened_mind start }

abbrev pub with_given : Life → Given → Life
with_given l g = record { gated = l.gated; fresh = l.fresh ++ g.effects; outs = l.outs ++ g.outs; mind = g.mind }

-- the new effects join the log, and no message is open any more
abbrev pub gated_life : Life → Life
gated_life l = record { gated = all_effects l; fresh = []; outs = []; mind = l.mind }

-- the first `kept` new effects were found, and all else is gone
abbrev pub crashed_life : ℕ → ℕ → Life → Life
crashed_life start kept l = opened_life start (l.gated ++ take kept l.fresh)

-- ---- what the entries alone decide

pub record Flags : Type 0 where
  -- it is one of the nodes that were opened
  pub known : Bool
  pub up : Bool
  -- it went since it was opened
  pub gone : Bool
  -- an entry stands that a Gate has to close
  pub due : Bool

abbrev pub opened_flags : Bool → Flags
opened_flags known = record { known = known; up = known; gone = false; due = false }

-- a message that was sent, and how many Ticks stand before
pub record Sending : Type 0 where
  pub post : Post
  pub ticks : ℕ

-- ---- the world at a place of a trace

pub record World : Type 0 where
  pub life : NodeId → Life
  pub flags : NodeId → Flags
  -- it heard the last Tick
  pub heard : NodeId → Bool
  -- in order, so numbered from 1
  pub sendings : List Sending
  -- the numbers that were taken, once for each copy
  pub taken : List ℕ
  pub ticks : ℕ
  pub last : Option ℕ
  -- an entry stands that is no Down
  pub moved : Bool

abbrev pub start_world : Base → World
start_world b = record {
  life = λ n. opened_life b.start (unwrap_or (opened_log b.opened n) []);
  flags = λ n. opened_flags (is_some (opened_log b.opened n));
  heard = λ n. false;
  sendings = [];
  taken = [];
  ticks = 0;
  last = None;
  moved = false;
}

-- the messages that were sent
abbrev pub sent_by : World → List Post
sent_by w = map (λ (s : Sending). s.post) w.sendings

-- the entry is one of this node's own
abbrev pub names : NodeId → Entry → Bool
names n (Take node number) = same_node node n
names n (Go node) = same_node node n
names n (Learn node stamp committed) = same_node node n
names n (Hear node) = same_node node n
names n (Gate node) = same_node node n
names n (Crash node kept) = same_node node n
names n (Down node cause) = same_node node n
names n (Tick moment) = false

abbrev pub own : NodeId → List Entry → List Entry
own n es = filter (names n) es

-- ---- one entry

-- a node is given an input
abbrev pub after_input : Base → NodeId → Life → Input → Life
after_input b n l input = with_given l (gives b.script b.run b.acts n (all_effects l) l.mind input)

-- A message that wasn't sent gives nothing.
abbrev pub took : Base → NodeId → Life → Option Sending → Life
took b n l None = l
took b n l (Some s) = after_input b n l (Taking s.post.from s.post.message)

-- Before any Tick there is nothing to hear.
abbrev pub hears : Base → NodeId → Life → Option ℕ → Life
hears b n l None = l
hears b n l (Some moment) = after_input b n l (Hearing moment)

-- a node's life after an entry of its own
abbrev pub lives_on : Base → World → NodeId → Life → Entry → Life
lives_on b w n l (Take node number) = took b n l (numbered w.sendings number)
lives_on b w n l (Go node) = after_input b n l Going
lives_on b w n l (Learn node stamp committed) = after_input b n l (Learning stamp committed)
lives_on b w n l (Hear node) = hears b n l w.last
lives_on b w n l (Gate node) = gated_life l
lives_on b w n l (Crash node kept) = crashed_life b.start kept l
lives_on b w n l (Down node cause) = l
lives_on b w n l (Tick moment) = l

-- Entries of a node that wasn't opened give nothing.
abbrev pub life_after : Base → World → Entry → NodeId → Life
life_after b w e n = if names n e && (w.flags n).known then lives_on b w n (w.life n) e else w.life n

abbrev pub with_due : Flags → Flags
with_due f = record { known = f.known; up = f.up; gone = f.gone; due = true }

-- A repository has nowhere to go.
abbrev pub went : NodeKind → Flags → Flags
went Repository f = f
went Broker f = record { known = f.known; up = f.up; gone = true; due = true }

-- A broker has nothing to learn.
abbrev pub learned : NodeKind → Flags → Flags
learned Repository f = with_due f
learned Broker f = f

abbrev pub has_heard : Option ℕ → Flags → Flags
has_heard None f = f
has_heard (Some moment) f = with_due f

-- a node's flags after an entry of its own
abbrev pub flagged : Option ℕ → NodeKind → Flags → Entry → Flags
flagged last kind f (Take node number) = with_due f
flagged last kind f (Go node) = went kind f
flagged last kind f (Learn node stamp committed) = learned kind f
flagged last kind f (Hear node) = has_heard last f
flagged last kind f (Gate node) = record { known = f.known; up = f.up; gone = f.gone; due = false }
flagged last kind f (Crash node kept) = record { known = f.known; up = f.up; gone = false; due = false }
flagged last kind f (Down node cause) = record { known = f.known; up = false; gone = f.gone; due = f.due }
flagged last kind f (Tick moment) = f

abbrev pub flags_after : World → Entry → NodeId → Flags
flags_after w e n = if names n e && (w.flags n).known then flagged w.last n.kind (w.flags n) e else w.flags n

abbrev pub heard_after : World → Entry → NodeId → Bool
heard_after w (Take node number) n = w.heard n
heard_after w (Go node) n = w.heard n
heard_after w (Learn node stamp committed) n = w.heard n
heard_after w (Hear node) n = if same_node node n then is_some w.last else w.heard n
heard_after w (Gate node) n = w.heard n
heard_after w (Crash node kept) n = if same_node node n then false else w.heard n
heard_after w (Down node cause) n = w.heard n
heard_after w (Tick moment) n = false

-- the messages that a gate of this node sends
abbrev pub leaving : World → NodeId → List Post
leaving w n = if (w.flags n).known then posts n (filter (leaves (all_effects (w.life n))) (w.life n).outs) else []

abbrev pub sendings_after : World → Entry → List Sending
sendings_after w (Take node number) = w.sendings
sendings_after w (Go node) = w.sendings
sendings_after w (Learn node stamp committed) = w.sendings
sendings_after w (Hear node) = w.sendings
sendings_after w (Gate node) = w.sendings ++ map (λ (p : Post). record { post = p; ticks = w.ticks }) (leaving w node)
sendings_after w (Crash node kept) = w.sendings
sendings_after w (Down node cause) = w.sendings
sendings_after w (Tick moment) = w.sendings

abbrev pub taken_after : List ℕ → Entry → List ℕ
taken_after taken (Take node number) = number ∷ taken
taken_after taken (Go node) = taken
taken_after taken (Learn node stamp committed) = taken
taken_after taken (Hear node) = taken
taken_after taken (Gate node) = taken
taken_after taken (Crash node kept) = taken
taken_after taken (Down node cause) = taken
taken_after taken (Tick moment) = taken

abbrev pub ticks_after : ℕ → Entry → ℕ
ticks_after ticks (Take node number) = ticks
ticks_after ticks (Go node) = ticks
ticks_after ticks (Learn node stamp committed) = ticks
ticks_after ticks (Hear node) = ticks
ticks_after ticks (Gate node) = ticks
ticks_after ticks (Crash node kept) = ticks
ticks_after ticks (Down node cause) = ticks
ticks_after ticks (Tick moment) = ticks + 1

abbrev pub last_after : Option ℕ → Entry → Option ℕ
last_after last (Take node number) = last
last_after last (Go node) = last
last_after last (Learn node stamp committed) = last
last_after last (Hear node) = last
last_after last (Gate node) = last
last_after last (Crash node kept) = last
last_after last (Down node cause) = last
last_after last (Tick moment) = Some moment

abbrev pub is_down : Entry → Bool
is_down (Take node number) = false
is_down (Go node) = false
is_down (Learn node stamp committed) = false
is_down (Hear node) = false
is_down (Gate node) = false
is_down (Crash node kept) = false
is_down (Down node cause) = true
is_down (Tick moment) = false

abbrev pub step : Base → World → Entry → World
step b w e = record {
  life = life_after b w e;
  flags = flags_after w e;
  heard = heard_after w e;
  sendings = sendings_after w e;
  taken = taken_after w.taken e;
  ticks = ticks_after w.ticks e;
  last = last_after w.last e;
  moved = if is_down e then w.moved else true;
}

-- ---- a whole trace

unfoldable pub walk_from : Base → World → List Entry → World
walk_from b w [] = w
walk_from b w (e ∷ es) = walk_from b (step b w e) es

abbrev pub walk : Base → List Entry → World
walk b es = walk_from b (start_world b) es
