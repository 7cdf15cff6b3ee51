-- When a new try and a request of it may come at all, in runs in which no Ended comes: a try has an answer or an End only after its Begin stands at its
-- home, and all tries but the last are decided there. Said of what is known to have begun and to be decided.
use Rattle.std.specs.Prelude.{◌≡◌, ◌⊎◌, ℕ, nat_lt, true, false, ◌&&◌, List, [], ◌∷◌, Option, Some, None}
use Rattle.pseudo_time.specs.Lists.{Every}
use Rattle.pseudo_time.specs.StampParts.{StampParts}
use Rattle.pseudo_time.specs.declared.decisions.Decision.{Decision}
use Rattle.message_form.specs.declared.messages.Message.{Message}
use Rattle.message_form.specs.declared.messages.Message.TheVariants as message
use Rattle.message_form.specs.Posts.{Post}
use Rattle.serial_model.specs.Questions.{Tree}
use Rattle.broker_core.specs.Heard.{Heard}
use Rattle.broker_core.specs.Tasks.{Task}
use Rattle.broker_core.specs.Book.{Act, Book, Try, front, last_try, tries_of}
use Rattle.broker_core.specs.Fits.{is_none}
use Rattle.broker_core.specs.Stages.{is_settled, no_answer}
use Rattle.broker_core.specs.Turns.{Desk, Input, Go, Hear, Take, state}
use Rattle.broker_laws.specs.Posts.{HasCome}

-- all but the newest
abbrev pub older : List Try → List Try
older [] = []
older (t ∷ ts) = ts

-- the newest try of the newest act
abbrev pub newest : List Act → Option Try
newest [] = None
newest (a ∷ done) = front a.tries

-- `Begun` and `Decided` say of a stamp that its home has begun it, and that its home has decided
module _ (run : ℕ) (Begun Decided : StampParts → Type 0) where
  -- each of these tries is decided
  abbrev pub AllDecided : List Try → Type 0
  AllDecided ts = Every (λ (t : Try). Decided t.stamp) ts

  -- all tries but the last are decided, and those of a spent act
  abbrev pub Trail : List Act → Type 0
  Trail [] = Unit {0}
  Trail (a ∷ done) = AllDecided (tries_of done) × AllDecided (older a.tries) × ((c : ℕ) → a.spent ≡ Some c → AllDecided a.tries)

  -- an End that its home gave was its decision
  abbrev pub HasSettled : Try → Type 0
  HasSettled t = is_settled t.end ≡ true → Decided t.stamp

  -- a try with an answer or an End has begun
  abbrev pub HasStarted : Try → Type 0
  HasStarted t = (no_answer t && is_none t.end) ≡ false → Begun t.stamp

  -- all of this in the book of a first run, and what was heard has come about
  pub record BookSound (h : Heard) (b : Book) : Type 0 where
    pub past : b.past ≡ []
    pub early : nat_lt b.run run ≡ true → b.acts ≡ []
    pub trail : Trail b.acts
    pub settled : Every HasSettled (tries_of b.acts)
    pub started : Every HasStarted (tries_of b.acts)
    pub ended : h.ended ≡ None
    pub begun : (s : StampParts) → h.begun ≡ Some s → Begun s
    pub closed : (s : StampParts) → h.closed ≡ Some s → Decided s

  -- what a message of the broker says of its home and of the last try
  abbrev pub OutSound : Book → Message → Type 0
  OutSound b (message.Read x o) = Begun x.stamp
  OutSound b (message.Write x o v) = Begun x.stamp
  OutSound b (message.Commit s) = Begun s
  OutSound b (message.Withdraw s) = Begun s × ((t : Try) × (last_try b ≡ Some t) × (t.stamp ≡ s) × (is_none t.end ≡ false))
  OutSound b m = Unit {0}

-- ---- by the messages that came

-- a Decided of the stamp came to the broker
abbrev pub DecidedCame : ℕ → List Post → StampParts → Type 0
DecidedCame me ever s = (d : Decision) × HasCome me ever (message.Decided s d)

-- a Begun or a Decided did
abbrev pub BegunCame : ℕ → List Post → StampParts → Type 0
BegunCame me ever s = HasCome me ever (message.Begun s) ⊎ DecidedCame me ever s

-- the broker at work is so
abbrev pub Waits : (List ℕ → Tree) → ℕ → ℕ → List Task → List Post → Desk → Type 0
Waits script me run acts ever d = BookSound run (BegunCame me ever) (DecidedCame me ever) d.heard (state script me run acts d)

-- the message is no Ended
abbrev pub IsNoEnded : Message → Type 0
IsNoEnded (message.Ended x) = ⊥
IsNoEnded _ = Unit {0}

abbrev pub IsCalm : Input → Type 0
IsCalm Go = Unit {0}
IsCalm (Hear m) = Unit {0}
IsCalm (Take from m) = IsNoEnded m
