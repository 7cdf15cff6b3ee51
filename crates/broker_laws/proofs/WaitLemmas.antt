-- A new try and a request come only after what they wait for came.
use Rattle.broker_laws.proofs.Names.{Message, Post, Out, Tree, Task, Book, book, keep, news, nothing_heard, stage, standing, Desk, Input, Go, Hear, Take, state, desk_turn, HasCome, MayInput, ◌≡◌, ℕ, List, [], Some, inl, inr, refl, BegunCame, DecidedCame, Waits, OutSound, IsNoEnded, IsCalm}
use Rattle.message_form.specs.declared.messages.Message.TheVariants as message
use Rattle.broker_laws.proofs.BookTurns.{Tells, take-sound, go-sound, hear-sound, standing-sound}

module _ (script : List ℕ → Tree) (me run : ℕ) (acts : List Task) (ever : List Post) where
  tells : (b : Book) (m : Message) → HasCome me ever m → IsNoEnded m → Tells script me run acts (BegunCame me ever) (DecidedCame me ever) b (news m)
  tells b (message.Begun s) h k = inl h
  tells b (message.Decided s d) h k = ((d, h), inr (d, h))
  tells b (message.Ended x) h k = absurd k
  tells b m h k = tt

  pub turn-waits : (d : Desk) (i : Input) → MayInput me ever i → IsCalm i → Waits script me run acts ever d → Waits script me run acts ever (desk_turn script me run acts d i)
  turn-waits d Go may calm w = go-sound script me run acts (BegunCame me ever) (DecidedCame me ever) d w
  turn-waits d (Hear m) may calm w = hear-sound script me run acts (BegunCame me ever) (DecidedCame me ever) d m w
  turn-waits d (Take from m) may calm w = take-sound script me run acts (BegunCame me ever) (DecidedCame me ever) ever d from m (from, may) (tells (state script me run acts d) m (from, may) calm) w

  pub standing-waits : (d : Desk) (o : Out) → Waits script me run acts ever d → standing (stage script run (state script me run acts d) d.heard) ≡ Some o →
      OutSound run (BegunCame me ever) (DecidedCame me ever) (state script me run acts d) o.message
  standing-waits d o w e = standing-sound script me run acts (BegunCame me ever) (DecidedCame me ever) d o w e

  pub empty-waits : Waits script me run acts ever (record { past = []; added = []; outs = []; heard = nothing_heard })
  unfolding keep book
  empty-waits = record { past = refl; early = λ e. refl; trail = tt; settled = tt; started = tt; ended = refl; begun = λ s e. absurd (cc e); closed = λ s e. absurd (cc e) }
