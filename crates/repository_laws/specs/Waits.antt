-- What a repository's turn keeps of the reads that wait, and of the repositories that asked how an attempt is decided. Logs stand newest first.
use Rattle.std.specs.Prelude.{◌≡◌, ◌≢◌, ◌⊎◌, Bool, true, false, ◌==◌, List, None}
use Rattle.pseudo_time.specs.Lists.{Every, Has}
use Rattle.pseudo_time.specs.StampParts.{StampParts}
use Rattle.pseudo_time.specs.TimeParts.{TimeParts}
use Rattle.pseudo_time.specs.Order.{lt}
use Rattle.pseudo_time.specs.Nodes.{repository}
use Rattle.pseudo_time.specs.declared.decisions.Decision.{Decision}
use Rattle.pseudo_time.specs.declared.nodes.NodeId.{NodeId}
use Rattle.value_form.specs.declared.objects.ObjectId.{ObjectId}
use Rattle.value_form.specs.declared.values.Value.{Value}
use Rattle.effect_form.specs.declared.effects.Effect.{Effect}
use Rattle.effect_form.specs.declared.effects.Effect.TheVariants as effect
use Rattle.message_form.specs.declared.messages.Message.TheVariants as message
use Rattle.message_form.specs.declared.turns.Out.{Out}
use Rattle.repository_log.specs.Logs.{known}
use Rattle.repository_core.specs.Asker.{Asker}
use Rattle.repository_core.specs.HeldRead.{HeldRead}
use Rattle.repository_core.specs.Hands.{Hand, now}
use Rattle.repository_core.specs.Rows.{waits_for}
use Rattle.repository_core.specs.Turns.{Input}
use Rattle.repository_core.specs.Turns.Input.{Taking}
use Rattle.repository_laws.specs.Served.{IsServed}

-- ---- reads

-- a held read waits for a version below it, of another attempt, of which the log knows no decision
pub record Waits (log : List Effect) (e : TimeParts × HeldRead) : Type 0 where
  pub unknown : known log e.1.waits ≡ None
  pub start : TimeParts
  pub value : Value
  pub put : Has (effect.Put e.1.object start value) log
  pub own : start.stamp ≡ e.1.waits
  pub below : lt start e.0 ≡ true
  pub other : start.stamp ≢ e.0.stamp

-- the reads are of what was asked at their times: an object, and who asked for it
abbrev pub AreOf : (TimeParts → ObjectId × NodeId) → List (TimeParts × HeldRead) → Type 0
AreOf asked = Every (λ e. asked e.0 ≡ (e.1.object, e.1.from))

-- and so is a Read that is taken
abbrev pub IsOf : (TimeParts → ObjectId × NodeId) → Input → Type 0
IsOf asked (Taking from (message.Read t o)) = asked t ≡ (o, from)
IsOf asked _ = Unit {0}

-- the question how the attempt was decided, to its home
abbrev pub ask_of : StampParts → Out
ask_of w = record { to = repository w.home; message = message.Ask w }

-- Each read that was held is held still or answered; what is held waits rightly; and of each attempt of another home that is waited for, the
-- home was asked in this turn, unless it was waited for before.
pub record KeepsReads (asked : TimeParts → ObjectId × NodeId) (old new : Hand) : Type 0 where
  pub reads : AreOf asked new.held
  pub waits : Every (Waits (now new)) new.held
  pub served : (e : TimeParts × HeldRead) → Has e old.held → IsServed old new e.1.from (message.Read e.0 e.1.object)
  pub asks : (w : StampParts) → waits_for w new.held ≡ true → (w.home == new.number) ≡ false → (waits_for w old.held ≡ true) ⊎ Has (ask_of w) new.outs

-- ---- askers

-- the answer to who asked
abbrev pub tell_of : Asker → Bool → Out
tell_of a c = record { to = repository a.repository; message = message.Tell a.stamp c }

-- who is to be informed waits for an attempt of this home that isn't decided
abbrev pub AreOpen : Hand → Type 0
AreOpen h = (a : Asker) → Has a h.askers → (a.stamp.home ≡ h.number) × ((d : Decision) → Has (effect.Decide a.stamp d) (now h) → ⊥)

-- the asker is kept, or told
abbrev pub IsKeptOrTold : Hand → Asker → Type 0
IsKeptOrTold h a = Has a h.askers ⊎ ((c : Bool) × Has (tell_of a c) h.outs)
