-- What holds of a broker over any log, also one that no calls could have left: it resumes from what counts. Logs stand newest first.
use Rattle.std.specs.Prelude.{◌≡◌, ℕ, nat_lt, false, List, ◌∷◌}
use Rattle.pseudo_time.specs.Lists.{Every}
use Rattle.pseudo_time.specs.declared.nodes.NodeId.{NodeId}
use Rattle.effect_form.specs.declared.effects.Effect.{Effect}
use Rattle.effect_form.specs.declared.effects.Effect.TheVariants as effect
use Rattle.message_form.specs.declared.messages.Message.{Message}
use Rattle.message_form.specs.Growth.{Grew}
use Rattle.message_form.specs.Posts.{Post}
use Rattle.serial_model.specs.Questions.{Tree}
use Rattle.broker_core.specs.Tasks.{Task}
use Rattle.broker_core.specs.Book.{Book, enter}
use Rattle.broker_core.specs.Counted.{counted, own_tries}
use Rattle.broker_core.specs.Fits.{keep}
use Rattle.broker_core.specs.Turns.{Desk, all_effects}
use Rattle.broker_laws.specs.Fits.{FitsBook}
use Rattle.broker_laws.specs.Posts.{RestsOn, PostHolds}

module _ (script : List ℕ → Tree) (me run : ℕ) (acts : List Task) where
  -- the effect counts, fits what counted before, and shows no later run
  pub record Joins (log : List Effect) (f : Effect) : Type 0 where
    pub counts : keep script me run acts (f ∷ log) ≡ f ∷ keep script me run acts log
    pub fits : FitsBook script me (counted script me run acts log) f
    pub not_later : nat_lt run (counted script me run acts log).run ≡ false → nat_lt run (enter f (counted script me run acts log)).run ≡ false

  -- only a Run is added where the log shows none of this run
  abbrev pub InRun : Book → Effect → Type 0
  InRun b (effect.Run n) = Unit {0}
  InRun b _ = nat_lt b.run run ≡ false

  -- the effect fits what counted before, has its cause, and is of this run
  abbrev pub Rests : List Post → List Effect → Effect → Type 0
  Rests ever log f = FitsBook script me (counted script me run acts log) f × RestsOn me ever (counted script me run acts log) f × InRun (counted script me run acts log) f

  -- what a message that was sent in this run says holds of the tries of this run
  pub record Says (log : List Effect) (to : NodeId) (m : Message) : Type 0 where
    pub run_is : (counted script me run acts log).run ≡ run
    pub holds : PostHolds script me (own_tries script me run acts log) to m

  -- each new effect counts and has its cause, and each message of the turn says what holds
  pub record GoesOn (ever : List Post) (d : Desk) : Type 0 where
    pub joins : Grew Joins d.past d.added
    pub rests : Grew (Rests ever) d.past d.added
    pub outs : Every (λ o. Says (all_effects d) o.to o.message) d.outs
