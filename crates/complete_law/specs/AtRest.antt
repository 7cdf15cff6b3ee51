-- Nodes at rest: nothing is open and no message is on its way. Logs stand newest first.
use Rattle.std.specs.Prelude.{◌≡◌, ◌⊎◌, ℕ, Bool, true, List, Option, Some}
use Rattle.pseudo_time.specs.Lists.{Has}
use Rattle.pseudo_time.specs.StampParts.{StampParts}
use Rattle.pseudo_time.specs.TimeParts.{TimeParts}
use Rattle.pseudo_time.specs.declared.decisions.Decision.{Decision}
use Rattle.pseudo_time.specs.declared.nodes.NodeId.{NodeId}
use Rattle.value_form.specs.declared.objects.ObjectId.{ObjectId}
use Rattle.value_form.specs.declared.values.Value.{Value}
use Rattle.effect_form.specs.declared.effects.Effect.{Effect}
use Rattle.effect_form.specs.declared.effects.Effect.TheVariants as effect
use Rattle.message_form.specs.declared.messages.Message.TheVariants as message
use Rattle.message_form.specs.declared.turns.Out.{Out}
use Rattle.message_form.specs.Posts.{Post}
use Rattle.script_meaning.specs.Meaning.{ToWrite}
use Rattle.serial_model.specs.Questions.{Tree}
use Rattle.repository_core.specs.HeldRead.{HeldRead}
use Rattle.repository_core.specs.Rows.{waits_for}
use Rattle.repository_laws.specs.Facts.{WriteSent}
use Rattle.repository_laws.specs.Waits.{Waits}
use Rattle.message_form.specs.Posts.{WasSent}
use Rattle.plan_form.specs.Plans.{InRange}
use Rattle.broker_core.specs.Heard.{Heard}
use Rattle.broker_core.specs.Book.{Try, book, tries, find, last_try}
use Rattle.broker_core.specs.Stages.{stage, standing, is_settled}
use Rattle.pseudo_time.specs.Nodes.{repository, broker}
use Rattle.broker_core.specs.Tasks.{Task}
use Rattle.broker_core.specs.Turns.{desk_at, state}
use Rattle.broker_core.specs.Owed.{done}
use Rattle.broker_laws.specs.Posts.{IsAskOf}
use Rattle.broker_laws.specs.Works.{TurnHolds, IsRested}

-- ---- decisions

-- how the stamp was decided stands at its home
abbrev pub DecidedAt : (ℕ → List Effect) → StampParts → Type 0
DecidedAt homes s = (d : Decision) × Has (effect.Decide s d) (homes s.home)

-- ---- one broker

module _ (script : List ℕ → Tree) (me run : ℕ) (acts : List Task) where
  -- its request that stands
  abbrev pub standing_at : List Effect → Heard → Option Out
  standing_at log h = standing (stage script run (state script me run acts (desk_at log h)) h)

  abbrev pub is_done : List Effect → Heard → Bool
  is_done log h = done script run acts (state script me run acts (desk_at log h)) h

abbrev pub read_to : TimeParts → ObjectId → Out
read_to x o = record { to = repository o.repository; message = message.Read x o }

-- ---- all nodes

-- the logs of all nodes, what brokers heard, which reads are held, and what was ever sent; brokers are numbered up to `most`
pub record AtRest (script : List ℕ → Tree) (run : ℕ) (acts : ℕ → List Task) (most : ℕ) : Type 0 where
  pub brokers : ℕ → List Effect
  pub homes : ℕ → List Effect
  pub heard : ℕ → Heard
  pub held : ℕ → List (TimeParts × HeldRead)
  pub ever : List Post
  -- a broker is right, and owes nothing
  pub turns : (b : ℕ) → InRange most b → TurnHolds script b run (acts b) ever (desk_at (brokers b) (heard b))
  pub rested : (b : ℕ) → InRange most b → IsRested script b run (acts b) (desk_at (brokers b) (heard b))
  -- no message is on its way: the request that stands is a read that is held
  pub reads : (b : ℕ) (out : Out) → InRange most b → standing_at script b run (acts b) (brokers b) (heard b) ≡ Some out →
      (x : TimeParts) × (e : HeldRead) × (out ≡ read_to x e.object) × Has (x, e) (held e.object.repository)
  pub waits : (r : ℕ) (e : TimeParts × HeldRead) → Has e (held r) → Waits (homes r) e
  pub puts : (r : ℕ) (o : ObjectId) (x : TimeParts) (v : Value) → Has (effect.Put o x v) (homes r) → WriteSent ever r x o v
  -- no Ask and no Tell is on its way: what is waited for isn't decided
  pub undecided : (r : ℕ) (s : StampParts) → waits_for s (held r) ≡ true → DecidedAt homes s → ⊥
  pub writers : (b : ℕ) (to : NodeId) (x : TimeParts) (o : ObjectId) (v : Value) → WasSent ever (broker b) to (message.Write x o v) →
      InRange most b × IsAskOf script (tries (book (brokers b))) x (ToWrite o v)
  -- all attempts of a broker but the last are decided at their homes
  pub earlier : (b : ℕ) (s : StampParts) (t : Try) → InRange most b → find s (tries (book (brokers b))) ≡ Some t → (last_try (book (brokers b)) ≡ Some t) ⊎ DecidedAt homes s
  -- and so is one whose End its home gave, or of which a Decided was heard
  pub settled : (b : ℕ) (t : Try) → InRange most b → last_try (book (brokers b)) ≡ Some t → is_settled t.end ≡ true → DecidedAt homes t.stamp
  pub closed : (b : ℕ) (s : StampParts) → InRange most b → (heard b).closed ≡ Some s → DecidedAt homes s
