-- What is true of a message that a broker sent, and what each of its effects rests on. Logs stand newest first.
use Rattle.std.specs.Prelude.{◌≡◌, ℕ, ◌+◌, ◌≤◌, max, length, List, [], ◌∷◌, ◌++◌, Option, Some, None, slice_get}
use Rattle.pseudo_time.specs.Lists.{Every}
use Rattle.pseudo_time.specs.StampParts.{StampParts}
use Rattle.pseudo_time.specs.TimeParts.{TimeParts}
use Rattle.pseudo_time.specs.declared.decisions.Decision.TheVariants as decision
use Rattle.pseudo_time.specs.declared.nodes.NodeId.{NodeId}
use Rattle.value_form.specs.declared.endings.Ending.TheVariants.{Finished}
use Rattle.effect_form.specs.declared.effects.Effect.{Effect}
use Rattle.effect_form.specs.declared.effects.Effect.TheVariants as effect
use Rattle.effect_form.specs.declared.outcomes.Outcome.{Outcome}
use Rattle.effect_form.specs.declared.outcomes.Outcome.TheVariants as outcome
use Rattle.message_form.specs.declared.messages.Message.{Message}
use Rattle.message_form.specs.declared.messages.Message.TheVariants as message
use Rattle.message_form.specs.Growth.{Each}
use Rattle.message_form.specs.Posts.{Post, WasSent}
use Rattle.script_meaning.specs.Meaning.{Answer, Got, Stored, Request, ToRead, ToWrite, Stop, Asks, Over}
use Rattle.serial_model.specs.Questions.{Tree, stop}
use Rattle.broker_core.specs.Tasks.{Task}
use Rattle.broker_core.specs.Book.{Try, Act, Book, book, tries, open_try, find, time_of}
use Rattle.broker_core.specs.Fits.{stop_of}
use Rattle.pseudo_time.specs.Nodes.{repository, broker}
use Rattle.broker_laws.specs.Fits.{EndsBy}

abbrev pub at : StampParts → ℕ → TimeParts
at s k = record { stamp = s; step = k }

-- ---- messages

-- the end that a try may have whose Commit was sent
abbrev pub MayCommit : Option Outcome → Type 0
MayCommit None = Unit {0}
MayCommit (Some outcome.Committed) = Unit {0}
MayCommit (Some (outcome.Withdrawn l)) = ⊥
MayCommit (Some (outcome.Failed l k)) = ⊥
MayCommit (Some (outcome.LaterRead o e)) = ⊥
MayCommit (Some (outcome.LaterVersion o x)) = ⊥
MayCommit (Some (outcome.Expired d m)) = Unit {0}
MayCommit (Some (outcome.Spent c)) = ⊥

module _ (me : ℕ) where
  -- the message names a try of the log and goes to its home; `ts` are all tries of the sender's book
  abbrev pub IsKnown : List Try → StampParts → NodeId → Type 0
  IsKnown ts s to = (s.broker ≡ me) × (to ≡ repository s.home) × ((t : Try) × (find s ts ≡ Some t))

module _ (script : List ℕ → Tree) where
  -- the request at this pseudotime is the one that the script makes after the answers before it
  abbrev pub IsAskOf : List Try → TimeParts → Request → Type 0
  IsAskOf ts x q = (t : Try) × (find x.stamp ts ≡ Some t)
      × ((pre : List Answer) × (post : List Answer) × (t.answers ≡ pre ++ post) × (x.step ≡ length pre + 1) × (stop (script t.task.script) pre ≡ Asks q))

  -- the whole transcript stands, and the script is finished
  abbrev pub IsCommitOf : List Try → StampParts → Type 0
  IsCommitOf ts s = (t : Try) × (find s ts ≡ Some t) × MayCommit t.end × (stop_of script t ≡ Over Finished)

module _ (script : List ℕ → Tree) (me : ℕ) where
  -- what a message that broker `me` sends says of its log
  abbrev pub PostHolds : List Try → NodeId → Message → Type 0
  PostHolds ts to (message.Begin s d) = IsKnown me ts s to
  PostHolds ts to (message.Withdraw s) = IsKnown me ts s to
  PostHolds ts to (message.Read x o) = (x.stamp.broker ≡ me) × (to ≡ repository o.repository) × IsAskOf script ts x (ToRead o)
  PostHolds ts to (message.Write x o v) = (x.stamp.broker ≡ me) × (to ≡ repository o.repository) × IsAskOf script ts x (ToWrite o v)
  PostHolds ts to (message.Commit s) = (s.broker ≡ me) × (to ≡ repository s.home) × IsCommitOf script ts s
  PostHolds ts to (message.Begun s) = ⊥
  PostHolds ts to (message.Value x v) = ⊥
  PostHolds ts to (message.Stored x) = ⊥
  PostHolds ts to (message.LaterRead x e) = ⊥
  PostHolds ts to (message.LaterVersion x y) = ⊥
  PostHolds ts to (message.Ended x) = ⊥
  PostHolds ts to (message.Decided s d) = ⊥
  PostHolds ts to (message.Ask s) = ⊥
  PostHolds ts to (message.Tell s c) = ⊥

-- ---- causes

-- of the open try of the log before, if there is one
abbrev pub OfOpen : Option Try → (Try → Type 0) → Type 0
OfOpen None P = Unit {0}
OfOpen (Some t) P = P t

-- the stamp isn't below the clock that the newest of these acts may begin with
abbrev pub IsNotEarly : List Act → StampParts → Type 0
IsNotEarly [] s = Unit {0}
IsNotEarly (a ∷ done) s = a.task.clock ≤ s.clock

module _ (me : ℕ) where
  -- a message that was sent to broker `me`
  abbrev pub HasCome : List Post → Message → Type 0
  HasCome ever m = (from : NodeId) × WasSent ever from (broker me) m

  -- the answer of a try came in a message
  abbrev pub AnswerCame : List Post → TimeParts → Answer → Type 0
  AnswerCame ever x (Got v) = HasCome ever (message.Value x v)
  AnswerCame ever x Stored = HasCome ever (message.Stored x)

  -- and so did its End, where its home or an object's repository gave it
  abbrev pub EndCame : List Post → Try → Outcome → Type 0
  EndCame ever t outcome.Committed = HasCome ever (message.Decided t.stamp decision.Committed)
  EndCame ever t (outcome.Withdrawn l) = Unit {0}
  EndCame ever t (outcome.Failed l k) = Unit {0}
  EndCame ever t (outcome.LaterRead o e) = HasCome ever (message.LaterRead (time_of t) e)
  EndCame ever t (outcome.LaterVersion o x) = HasCome ever (message.LaterVersion (time_of t) x)
  EndCame ever t (outcome.Expired d m) = HasCome ever (message.Decided t.stamp (decision.Expired d m))
  EndCame ever t (outcome.Spent c) = Unit {0}

  -- what must have come before the effect
  abbrev pub RestsOn : List Post → Book → Effect → Type 0
  RestsOn ever b (effect.Got k v) = OfOpen (open_try b) (λ t. AnswerCame ever (at t.stamp k) (Got v))
  RestsOn ever b (effect.Acked k) = OfOpen (open_try b) (λ t. AnswerCame ever (at t.stamp k) Stored)
  RestsOn ever b (effect.End i o) = OfOpen (open_try b) (λ t. EndCame ever t o)
  RestsOn ever b (effect.Mark at) = Unit {0}
  RestsOn ever b effect.Whole = Unit {0}
  RestsOn ever b (effect.Run n) = Unit {0}
  RestsOn ever b (effect.Act i h t k c x) = Unit {0}
  RestsOn ever b (effect.Try i s) = IsNotEarly b.acts s
  RestsOn ever b (effect.Put o x v) = Unit {0}
  RestsOn ever b (effect.Stretch o x) = Unit {0}
  RestsOn ever b (effect.Begin s d) = Unit {0}
  RestsOn ever b (effect.Decide s d) = Unit {0}
  RestsOn ever b (effect.Learn s c) = Unit {0}

  -- each effect has its cause
  abbrev pub HaveCauses : List Post → List Effect → Type 0
  HaveCauses ever log = Each (λ below f. RestsOn ever (book below) f) log

-- ---- tries

-- no stamp in the book is above its clock, and each is this broker's
abbrev pub IsBelow : ℕ → ℕ → Try → Type 0
IsBelow me clock t = (t.stamp.clock ≤ clock) × (t.stamp.broker ≡ me)

abbrev pub Clocks : ℕ → Book → Type 0
Clocks me b = Every (IsBelow me b.clock) (tries b)

-- its clock isn't below that of its act
abbrev pub IsLate : Try → Type 0
IsLate t = t.task.clock ≤ t.stamp.clock

-- no two tries have one stamp
abbrev pub Distinct : List Try → Type 0
Distinct [] = Unit {0}
Distinct (t ∷ ts) = (find t.stamp ts ≡ None) × Distinct ts

-- a try of the run is of an act of the plan
abbrev pub IsPlanned : ℕ → List Task → Try → Type 0
IsPlanned run acts t = (t.run ≡ run) × ((n : ℕ) × (slice_get acts n ≡ Some t.task))

-- an act has at most its number of tries, and is spent only at the last clock
abbrev pub IsWithinLimits : Act → Type 0
IsWithinLimits a = ((c : ℕ) → a.spent ≡ Some c → 1099511627775 ≤ c) × (length a.tries ≤ max 1 a.task.tries)

-- an answer is of the kind that is asked for where the script stops
abbrev pub IsFitting : Stop → Answer → Type 0
IsFitting (Asks (ToRead o)) (Got v) = Unit {0}
IsFitting (Asks (ToRead o)) Stored = ⊥
IsFitting (Asks (ToWrite o v)) (Got w) = ⊥
IsFitting (Asks (ToWrite o v)) Stored = Unit {0}
IsFitting (Over e) a = ⊥

-- each answer is of the kind that was asked for
abbrev pub AreKinds : Tree → List Answer → Type 0
AreKinds t ans = (pre post : List Answer) (a : Answer) → ans ≡ pre ++ (a ∷ post) → IsFitting (stop t pre) a

-- each answer is of the kind that was asked for; the End is what the script allows
pub record IsPlayed (script : List ℕ → Tree) (t : Try) : Type 0 where
  pub asked : AreKinds (script t.task.script) t.answers
  pub ends : (o : Outcome) → t.end ≡ Some o → EndsBy script t o

-- each answer, and the End, came in a message
pub record IsProven (me : ℕ) (ever : List Post) (t : Try) : Type 0 where
  pub answers : (pre post : List Answer) (a : Answer) → t.answers ≡ pre ++ (a ∷ post) → AnswerCame me ever (at t.stamp (length pre + 1)) a
  pub ends : (o : Outcome) → t.end ≡ Some o → EndCame me ever t o

-- the same try, later
pub record IsLater (old new : Try) : Type 0 where
  pub task : new.task ≡ old.task
  pub stamp : new.stamp ≡ old.stamp
  pub answers : (more : List Answer) × (new.answers ≡ old.answers ++ more)
  pub ended : (o : Outcome) → old.end ≡ Some o → new.end ≡ Some o
