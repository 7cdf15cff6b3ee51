-- A script as a finite tree of questions: all that brokers and the whole need to know of it.
use Rattle.std.specs.Prelude.{◌≡◌, ℕ, zero, suc, List, [], ◌∷◌, ◌++◌, Option, Some, None, Result, Ok, Err, if◌then◌else◌}
use Rattle.std.specs.FinMap as finite
use Rattle.value_form.specs.declared.objects.ObjectId.{ObjectId}
use Rattle.value_form.specs.declared.values.Value.{Value}
use Rattle.value_form.specs.declared.fail_kinds.FailKind.{FailKind}
use Rattle.value_form.specs.declared.fail_kinds.FailKind.TheVariants as fails
use Rattle.value_form.specs.declared.endings.Ending.{Ending}
use Rattle.value_form.specs.declared.endings.Ending.TheVariants as ending
use Rattle.value_form.specs.declared.transcripts.Line.{Line}
use Rattle.value_form.specs.declared.transcripts.Line.TheVariants as line
use Rattle.script_meaning.specs.Names.{Names, with_name}
use Rattle.value_form.specs.Objects.{Objects, value_at}
use Rattle.value_form.specs.Mirror.{Step, Let, Read, Write, Print, If, IfElse, Repeat, Withdraw, Block, End, Then}
use Rattle.script_meaning.specs.Meaning.{value, object_at, condition, count, line_of, Request, ToRead, ToWrite, Stop, Asks, Over, Answers, Came, Answer, Got, Stored}

-- it ends, prints, reads and goes on with the answer, or writes and goes on
pub data Tree : Type 0 where
  Ends : Ending → Tree
  Says : Value → Tree → Tree
  Reads : ObjectId → (Value → Tree) → Tree
  Writes : ObjectId → Value → Tree → Tree

-- ---- the tree of a script: what comes after a statement is a tree for each state of the names and the budget

abbrev pub Onward : Type 0
Onward = Names → ℕ → Tree

abbrev pub asked_if_room : ℕ → ℕ → (ℕ → Tree) → Tree
asked_if_room zero l go = Ends (ending.Failed l fails.Budget)
asked_if_room (suc left) l go = go left

abbrev pub asked_with : {A : Type 0} → Result A FailKind → ℕ → (A → Tree) → Tree
asked_with (Ok x) l go = go x
asked_with (Err kind) l go = Ends (ending.Failed l kind)

abbrev pub asked_turns : ℕ → (Names → ℕ → Onward → Tree) → Names → ℕ → Onward → Tree
asked_turns zero part names left go = go names left
asked_turns (suc n) part names left go = part names left (λ names' left'. asked_turns n part names' left' go)

abbrev mutual
  pub asked : Step → Names → ℕ → Onward → Tree
  asked (Let l name x) names left go = asked_with (value names x) l (λ a. go (with_name names name a) left)
  asked (Read l name place) names left go = asked_with (object_at names place) l (λ o. Reads o (λ a. go (with_name names name a) left))
  asked (Write l place x) names left go = asked_with (object_at names place) l (λ o. asked_with (value names x) l (λ a. Writes o a (go names left)))
  asked (Print l x) names left go = asked_with (value names x) l (λ a. Says a (go names left))
  asked (If l x part e) names left go = asked_with (condition names x) l (λ holds. if holds then all_asked part names left go else go names left)
  asked (IfElse l x first m second e) names left go = asked_with (condition names x) l (λ holds. if holds then all_asked first names left go else all_asked second names left go)
  asked (Repeat l x part e) names left go = asked_with (count names x) l (λ n. asked_turns n (all_asked part) names left go)
  asked (Withdraw l) names left go = Ends (ending.Withdrawn l)

  pub all_asked : Block → Names → ℕ → Onward → Tree
  all_asked End names left go = go names left
  all_asked (Then x part) names left go = asked_if_room left (line_of x) (λ left'. asked x names left' (λ names' left''. all_asked part names' left'' go))

abbrev pub denote : Block → Tree
denote script = all_asked script [] 10000 (λ names left. Ends ending.Finished)

-- ---- the walk of a world through a tree

module _ {W : Type 0} (answers : Answers W) where
  abbrev pub read_on : Option (Value × W) → ObjectId → List Line → W → (Value → List Line → W → Came W) → Came W
  read_on None o lines w go = record { stop = Asks (ToRead o); lines = lines; world = w }
  read_on (Some p) o lines w go = go p.0 (lines ++ line.Read o p.0 ∷ []) p.1

  abbrev pub write_on : Option W → ObjectId → Value → List Line → W → (List Line → W → Came W) → Came W
  write_on None o a lines w go = record { stop = Asks (ToWrite o a); lines = lines; world = w }
  write_on (Some w') o a lines w go = go (lines ++ line.Wrote o a ∷ []) w'

  abbrev pub walk : Tree → List Line → W → Came W
  walk (Ends e) lines w = record { stop = Over e; lines = lines; world = w }
  walk (Says a t) lines w = walk t (lines ++ line.Print a ∷ []) w
  walk (Reads o k) lines w = read_on (answers.read w o) o lines w (λ a. walk (k a))
  walk (Writes o a t) lines w = write_on (answers.write w o a) o a lines w (walk t)

-- ---- the two worlds, without the way there: the transcript and where it stops

pub record Talked : Type 0 where
  pub lines : List Line
  pub stop : Stop

abbrev pub line_before : Line → Talked → Talked
line_before l t = record { lines = l ∷ t.lines; stop = t.stop }

abbrev pub waits : Request → Talked
waits q = record { lines = []; stop = Asks q }

-- with a list of answers
abbrev pub talked : Tree → List Answer → Talked
talked (Ends e) ans = record { lines = []; stop = Over e }
talked (Says a t) ans = line_before (line.Print a) (talked t ans)
talked (Reads o k) [] = waits (ToRead o)
talked (Reads o k) (Got a ∷ ans) = line_before (line.Read o a) (talked (k a) ans)
talked (Reads o k) (Stored ∷ ans) = waits (ToRead o)
talked (Writes o a t) [] = waits (ToWrite o a)
talked (Writes o a t) (Stored ∷ ans) = line_before (line.Wrote o a) (talked t ans)
talked (Writes o a t) (Got b ∷ ans) = waits (ToWrite o a)

-- alone, over a map of objects
abbrev pub talked_alone : Tree → Objects → Talked
talked_alone (Ends e) m = record { lines = []; stop = Over e }
talked_alone (Says a t) m = line_before (line.Print a) (talked_alone t m)
talked_alone (Reads o k) m = line_before (line.Read o (value_at m o)) (talked_alone (k (value_at m o)) m)
talked_alone (Writes o a t) m = line_before (line.Wrote o a) (talked_alone t (finite.insert m o a))

-- the map after that
abbrev pub left_by : Tree → Objects → Objects
left_by (Ends e) m = m
left_by (Says a t) m = left_by t m
left_by (Reads o k) m = left_by (k (value_at m o)) m
left_by (Writes o a t) m = left_by t (finite.insert m o a)

-- ---- where a script is after some answers

-- what is left of it; past its end, or at an answer of the wrong kind, it stays
abbrev pub after : Tree → List Answer → Tree
after (Ends e) ans = Ends e
after (Says a t) ans = after t ans
after (Reads o k) [] = Reads o k
after (Reads o k) (Got a ∷ ans) = after (k a) ans
after (Reads o k) (Stored ∷ ans) = Reads o k
after (Writes o a t) [] = Writes o a t
after (Writes o a t) (Stored ∷ ans) = after t ans
after (Writes o a t) (Got b ∷ ans) = Writes o a t

-- where a tree stops first
abbrev pub first_stop : Tree → Stop
first_stop (Ends e) = Over e
first_stop (Says a t) = first_stop t
first_stop (Reads o k) = Asks (ToRead o)
first_stop (Writes o a t) = Asks (ToWrite o a)

abbrev pub stop : Tree → List Answer → Stop
stop t ans = first_stop (after t ans)

-- ---- lines and answers

-- the request that a line answers
abbrev pub request_of : Line → Option Request
request_of (line.Print a) = None
request_of (line.Read o a) = Some (ToRead o)
request_of (line.Wrote o a) = Some (ToWrite o a)

-- each answer is what the map, with the script's own writes so far, would give
abbrev pub AnswersOf : Tree → List Answer → Objects → Type 0
AnswersOf (Ends e) [] m = Unit {0}
AnswersOf (Ends e) (a ∷ ans) m = ⊥
AnswersOf (Says a t) ans m = AnswersOf t ans m
AnswersOf (Reads o k) [] m = Unit {0}
AnswersOf (Reads o k) (Got a ∷ ans) m = (a ≡ value_at m o) × AnswersOf (k a) ans m
AnswersOf (Reads o k) (Stored ∷ ans) m = ⊥
AnswersOf (Writes o a t) [] m = Unit {0}
AnswersOf (Writes o a t) (Stored ∷ ans) m = AnswersOf t ans (finite.insert m o a)
AnswersOf (Writes o a t) (Got b ∷ ans) m = ⊥

-- the map with the writes that were answered
abbrev pub left_after : Tree → List Answer → Objects → Objects
left_after (Ends e) ans m = m
left_after (Says a t) ans m = left_after t ans m
left_after (Reads o k) [] m = m
left_after (Reads o k) (Got a ∷ ans) m = left_after (k a) ans m
left_after (Reads o k) (Stored ∷ ans) m = m
left_after (Writes o a t) [] m = m
left_after (Writes o a t) (Stored ∷ ans) m = left_after t ans (finite.insert m o a)
left_after (Writes o a t) (Got b ∷ ans) m = m

-- the one is a prefix of the other
abbrev pub IsFrontOf : List Line → List Line → Type 0
IsFrontOf front all = (rest : List Line) × (front ++ rest ≡ all)

-- a script came to this transcript and stopped there
abbrev pub IsTalkOf : {W : Type 0} → Talked → Came W → Type 0
IsTalkOf t came = (came.lines ≡ t.lines) × (came.stop ≡ t.stop)
