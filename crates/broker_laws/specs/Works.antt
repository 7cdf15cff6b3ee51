-- What holds of a broker at work, and what a turn keeps.
use Rattle.std.specs.Prelude.{◌≡◌, ℕ, ◌-◌, drop, length, List, [], ◌++◌, None}
use Rattle.pseudo_time.specs.Lists.{Every}
use Rattle.effect_form.specs.declared.effects.Effect.{Effect}
use Rattle.message_form.specs.declared.messages.Message.{Message}
use Rattle.message_form.specs.declared.messages.Message.TheVariants as message
use Rattle.message_form.specs.Growth.{Grew}
use Rattle.message_form.specs.Posts.{Post, WasSent}
use Rattle.serial_model.specs.Questions.{Tree}
use Rattle.broker_core.specs.Tasks.{Task}
use Rattle.broker_core.specs.Book.{book, tries}
use Rattle.broker_core.specs.Fits.{keep}
use Rattle.broker_core.specs.Owed.{owed}
use Rattle.broker_core.specs.Stages.{nothing_heard}
use Rattle.pseudo_time.specs.Nodes.{broker}
use Rattle.broker_core.specs.Turns.{Desk, all_effects, state, Input, Go, Hear, Take}
use Rattle.broker_laws.specs.Fits.{FitsLog, IsTidy, IsReady}
use Rattle.broker_laws.specs.Posts.{PostHolds, HaveCauses}

-- its log grows by effects that fit, each with its cause, and each open message says what holds
pub record DeskHolds (script : List ℕ → Tree) (me : ℕ) (ever : List Post) (d : Desk) : Type 0 where
  pub tidy : IsTidy script me d.past
  pub grew : Grew (FitsLog script me) d.past d.added
  pub causes : HaveCauses me ever (all_effects d)
  pub outs : Every (λ o. PostHolds script me (tries (book (all_effects d))) o.to o.message) d.outs

-- the new effects are durable, and the open messages leave
abbrev pub gate : Desk → Desk
gate d = record { past = all_effects d; added = []; outs = []; heard = d.heard }

-- the first `kept` new effects were found
abbrev pub crash : ℕ → Desk → Desk
crash kept d = record { past = drop (length d.added - kept) d.added ++ d.past; added = []; outs = []; heard = nothing_heard }

-- one is the other with more new effects, and all of these count
pub record Added (script : List ℕ → Tree) (me run : ℕ) (acts : List Task) (old new : Desk) : Type 0 where
  pub past : new.past ≡ old.past
  pub more : List Effect
  pub added : new.added ≡ more ++ old.added
  pub count : keep script me run acts (all_effects new) ≡ more ++ keep script me run acts (all_effects old)

-- what a turn needs and keeps
pub record TurnHolds (script : List ℕ → Tree) (me run : ℕ) (acts : List Task) (ever : List Post) (d : Desk) : Type 0 where
  pub desk : DeskHolds script me ever d
  pub ready : IsReady script me run acts (all_effects d)

-- the message asks nobody for a decision
abbrev pub AsksNobody : Message → Type 0
AsksNobody (message.Ask stamp) = ⊥
AsksNobody _ = Unit {0}

-- nothing is owed
abbrev pub IsRested : (List ℕ → Tree) → ℕ → ℕ → List Task → Desk → Type 0
IsRested script me run acts d = owed script me run acts (state script me run acts d) d.heard ≡ None

-- a message that is taken was sent to this broker
abbrev pub MayInput : ℕ → List Post → Input → Type 0
MayInput me ever Go = Unit {0}
MayInput me ever (Hear m) = Unit {0}
MayInput me ever (Take from m) = WasSent ever from (broker me) m

-- a turn begins with nothing new, over the whole log
abbrev pub afresh : Desk → Desk
afresh d = record { past = all_effects d; added = []; outs = []; heard = d.heard }

-- what a turn gave is added
abbrev pub joined : Desk → Desk → Desk
joined d x = record { past = d.past; added = x.added ++ d.added; outs = d.outs ++ x.outs; heard = x.heard }

-- it is ready with any beginning of its new effects
abbrev pub AlwaysReady : (List ℕ → Tree) → ℕ → ℕ → List Task → Desk → Type 0
AlwaysReady script me run acts d = (n : ℕ) → IsReady script me run acts (drop n d.added ++ d.past)
