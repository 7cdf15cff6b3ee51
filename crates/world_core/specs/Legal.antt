-- Which traces are legal: a rule for each entry, asked of the world before it.
use Rattle.std.specs.Prelude.{◌≡◌, ◌⊎◌, ℕ, zero, suc, ◌+◌, ◌^◌, ◌≤◌, ◌<◌, ◌&&◌, max, not, nat_le, Bool, true, false, List, [], ◌∷◌, ◌++◌, map, length, Option, Some, None, is_some, slice_get, IsTrue, if◌then◌else◌}
use Rattle.std.specs.Option.{unwrap_or}
use Rattle.std.specs.List.{count_by}
use Rattle.pseudo_time.specs.Lists.{Has}
use Rattle.pseudo_time.specs.StampParts.{StampParts}
use Rattle.pseudo_time.specs.declared.decisions.Decision.{Decision}
use Rattle.pseudo_time.specs.declared.nodes.NodeId.{NodeId}
use Rattle.pseudo_time.specs.declared.nodes.NodeKind.{NodeKind}
use Rattle.pseudo_time.specs.declared.nodes.NodeKind.TheVariants.{Repository, Broker}
use Rattle.effect_form.specs.declared.effects.Effect.{Effect}
use Rattle.effect_form.specs.declared.effects.Effect.TheVariants as effect
use Rattle.message_form.specs.Posts.{Post}
use Rattle.stream_port.specs.declared.fates.Asked.{Asked}
use Rattle.stream_port.specs.declared.fates.Fate.{Fate}
use Rattle.stream_port.specs.Fates.{copies_of}
use Rattle.pseudo_time.specs.Nodes.{same_node, is_broker}
use Rattle.serial_model.specs.Questions.{Tree}
use Rattle.plan_form.specs.declared.plans.Plan.{Plan}
use Rattle.world_core.specs.declared.entries.Entry.{Entry}
use Rattle.world_core.specs.declared.entries.Entry.TheVariants.{Take, Go, Learn, Hear, Gate, Crash, Down, Tick}
use Rattle.world_core.specs.declared.traces.Opened.{Opened}
use Rattle.world_core.specs.declared.traces.Sent.{Sent}
use Rattle.world_core.specs.declared.traces.Trace.{Trace}
use Rattle.message_form.specs.declared.messages.Message.{Message}
use Rattle.message_form.specs.Messages.{tag_of}
use Rattle.message_core.specs.Tallies.{count}
use Rattle.broker_core.specs.Tasks.{Scripted}
use Rattle.world_core.specs.Nodes.{repository, broker, is_ready, is_commit}
use Rattle.world_core.specs.Walks.{Base, opened_log, Sending, World, Flags, numbered, start_world, step, walk, sent_by}

-- ---- the rules

-- Before any Tick each node has heard the last one.
abbrev pub HasHeard : World → NodeId → Type 0
HasHeard w n = (w.last ≡ None) ⊎ (w.heard n ≡ true)

-- a Tick stands that it hasn't heard
abbrev pub is_behind : World → NodeId → Bool
is_behind w n = is_some w.last && not (w.heard n)

-- A broker has gone since it was opened.
abbrev pub HasGone : World → NodeId → Type 0
HasGone w n = is_broker n.kind ≡ true → (w.flags n).gone ≡ true

-- how often copies of this message were taken
abbrev pub times_taken : World → ℕ → ℕ
times_taken w number = count number w.taken

-- its copies are held no more
abbrev pub IsReleased : World → Sending → Fate → Type 0
IsReleased w s fate = s.ticks + fate.hold ≤ w.ticks

-- An up node that heard the last Tick, a broker that went, takes a copy that is due: its message was sent to this node,
-- was taken fewer times than it has copies, and its hold has passed.
pub record MayTake (fates : List Fate) (w : World) (n : NodeId) (number : ℕ) : Type 0 where
  pub up : (w.flags n).up ≡ true
  pub heard : HasHeard w n
  pub gone : HasGone w n
  pub sending : Sending
  pub sent : numbered w.sendings number ≡ Some sending
  pub to : sending.post.to ≡ n
  pub fate : Fate
  pub fated : numbered fates number ≡ Some fate
  pub fewer : times_taken w number < copies_of fate
  pub released : IsReleased w sending fate

-- An up broker goes once after it was opened.
pub record MayGo (w : World) (n : NodeId) : Type 0 where
  pub up : (w.flags n).up ≡ true
  pub broker : is_broker n.kind ≡ true
  pub fresh : (w.flags n).gone ≡ false

-- An up node hears the last Tick once.
pub record MayHear (w : World) (n : NodeId) : Type 0 where
  pub up : (w.flags n).up ≡ true
  pub some : is_some w.last ≡ true
  pub behind : w.heard n ≡ false

-- how the stamp was decided stands in the durable log of its home
abbrev pub IsDecidedAs : World → StampParts → Bool → Type 0
IsDecidedAs w s committed = (d : Decision) × Has (effect.Decide s d) (w.life (repository s.home)).gated × (committed ≡ is_commit d)

pub record MayLearn (w : World) (n : NodeId) (s : StampParts) (committed : Bool) : Type 0 where
  pub up : (w.flags n).up ≡ true
  pub repository : is_broker n.kind ≡ false
  pub stands : IsDecidedAs w s committed

-- An up node gates where it has something to close.
pub record MayGate (w : World) (n : NodeId) : Type 0 where
  pub up : (w.flags n).up ≡ true
  pub due : (w.flags n).due ≡ true

-- After a crash at most all new effects are found.
pub record MayCrash (w : World) (n : NodeId) (kept : ℕ) : Type 0 where
  pub up : (w.flags n).up ≡ true
  pub most : kept ≤ length (w.life n).fresh

-- A node that is down before anything but downs happened wasn't opened, or had nothing.
pub record MayDown (opened : List Opened) (w : World) (n : NodeId) : Type 0 where
  pub up : (w.flags n).up ≡ true
  pub none : w.moved ≡ false → unwrap_or (opened_log opened n) [] ≡ []

-- An up node is idle where it took all copies that are due, has nothing to close, heard the last Tick and, a broker, went.
pub record IsIdle (fates : List Fate) (w : World) (n : NodeId) : Type 0 where
  pub taken : (number : ℕ) (s : Sending) → numbered w.sendings number ≡ Some s → s.post.to ≡ n
      → (fate : Fate) × (numbered fates number ≡ Some fate) × (IsReleased w s fate → times_taken w number ≡ copies_of fate)
  pub closed : (w.flags n).due ≡ false
  pub heard : HasHeard w n
  pub gone : HasGone w n

abbrev pub Idle : List Fate → World → Type 0
Idle fates w = (n : NodeId) → (w.flags n).up ≡ true → IsIdle fates w n

-- Time passes at an idle place, by as little as one moment.
pub record MayTick (start : ℕ) (fates : List Fate) (w : World) (moment : ℕ) : Type 0 where
  pub idle : Idle fates w
  pub above : unwrap_or w.last start < moment
  pub most : moment ≤ max (unwrap_or w.last start + 1) (2 ^ 62)

abbrev pub Rule : Base → List Fate → World → Entry → Type 0
Rule b fates w (Take n number) = MayTake fates w n number
Rule b fates w (Go n) = MayGo w n
Rule b fates w (Learn n stamp committed) = MayLearn w n stamp committed
Rule b fates w (Hear n) = MayHear w n
Rule b fates w (Gate n) = MayGate w n
Rule b fates w (Crash n kept) = MayCrash w n kept
Rule b fates w (Down n cause) = MayDown b.opened w n
Rule b fates w (Tick moment) = MayTick b.start fates w moment

-- each entry meets its rule
unfoldable pub Meets : Base → List Fate → World → List Entry → Type 0
Meets b fates w [] = Unit {0}
Meets b fates w (e ∷ es) = Rule b fates w e × Meets b fates (step b w e) es

-- ---- legal traces

abbrev pub is_within : ℕ → ℕ → Bool
is_within i most = nat_le 1 i && nat_le i most

-- how many nodes of a kind a plan has
abbrev pub most_of : Plan → NodeKind → ℕ
most_of plan Repository = plan.repositories
most_of plan Broker = plan.brokers

abbrev pub in_plan : Plan → NodeId → Bool
in_plan plan n = is_within n.number (most_of plan n.kind)

-- just the nodes of the plan, each once
pub record JustNodes (plan : Plan) (opened : List Opened) : Type 0 where
  pub just : (n : NodeId) → is_some (opened_log opened n) ≡ in_plan plan n
  pub once : (n : NodeId) → count_by (λ (o : Opened). same_node o.node n) opened ≤ 1

-- no log that a node was opened with shows a later run or another plan
abbrev pub AllReady : Base → Type 0
AllReady b = (n : NodeId) (log : List Effect) → opened_log b.opened n ≡ Some log → is_ready b.script b.run b.acts n log ≡ true

abbrev pub base_of : (List ℕ → Tree) → Plan → Trace → Base
base_of script plan t = record { script = script; run = plan.run; acts = plan.acts; start = t.start; opened = t.opened }

abbrev pub post_of : Sent → Post
post_of s = record { from = s.from; to = s.to; message = s.message }

abbrev pub fates_of : List Sent → List Fate
fates_of sent = map (λ (s : Sent). s.fate) sent

-- the question for its fate, and the answer
abbrev pub asked_of : Sent → Asked
asked_of s = record { number = s.number; tag = tag_of s.message; fate = s.fate }

-- numbers rise by one from this one
abbrev pub Numbered : ℕ → List Sent → Type 0
Numbered k [] = Unit {0}
Numbered k (s ∷ sent) = (s.number ≡ k) × Numbered (suc k) sent

-- A trace of this plan is legal, where these are all fates that were ever asked for.
pub record Legal (script : List ℕ → Tree) (plan : Plan) (asked : List Asked) (t : Trace) : Type 0 where
  -- the reading of scripts reads those of the plan
  pub scripted : Scripted script plan.acts
  pub nodes : JustNodes plan t.opened
  pub ready : AllReady (base_of script plan t)
  pub meets : Meets (base_of script plan t) (fates_of t.sent) (start_world (base_of script plan t)) t.entries
  pub sent : map post_of t.sent ≡ sent_by (walk (base_of script plan t) t.entries)
  pub numbers : Numbered 1 t.sent
  -- the fates that were asked for before
  pub before : List Asked
  pub fated : asked ≡ before ++ map asked_of t.sent
