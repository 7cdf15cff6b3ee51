-- What a script does, in a world that answers its requests.
use Rattle.std.specs.Prelude.{ℕ, zero, suc, pos, Bool, List, [], ◌∷◌, ◌++◌, Option, Some, None, Result, Ok, Err, if◌then◌else◌}
use Rattle.std.specs.FinMap as finite
use Rattle.value_form.specs.declared.objects.ObjectId.{ObjectId}
use Rattle.value_form.specs.declared.values.Value.{Value}
use Rattle.value_form.specs.declared.values.Value.TheVariants as v
use Rattle.value_form.specs.declared.fail_kinds.FailKind.{FailKind}
use Rattle.value_form.specs.declared.fail_kinds.FailKind.TheVariants as fails
use Rattle.value_form.specs.declared.endings.Ending.{Ending}
use Rattle.value_form.specs.declared.endings.Ending.TheVariants as ending
use Rattle.value_form.specs.declared.transcripts.Line.{Line}
use Rattle.value_form.specs.declared.transcripts.Line.TheVariants as line
use Rattle.script_meaning.specs.Names.{Names, name_value, with_name}
use Rattle.value_form.specs.Objects.{Objects, value_at}
use Rattle.value_form.specs.Mirror.{Term, Number, Text, Nothing, Name, Before, Between, Applied, Given, Spot, Fixed, At, Step, Let, Read, Write, Print, If, IfElse, Repeat, Withdraw, Block, End, Then}
use Rattle.script_meaning.specs.Operations.{◌>>=◌, infix_value, prefix_value, call_value, given_value, object_in, count_in, condition_in}

-- ---- expressions, from left to right

abbrev pub value : Names → Term → Result Value FailKind
value names (Number n) = Ok (v.Number (pos n))
value names (Text bytes) = Ok (v.Text bytes)
value names Nothing = Ok v.Nothing
value names (Name name) = Ok (name_value names name)
value names (Before o x) = value names x >>= λ a. prefix_value o a
value names (Between o x y) = value names x >>= λ a. value names y >>= λ b. infix_value o a b
value names (Applied f x) = value names x >>= λ a. call_value f a
value names (Given x y) = value names x >>= λ a. value names y >>= λ b. Ok (given_value a b)

abbrev pub object_at : Names → Spot → Result ObjectId FailKind
object_at names (Fixed object) = Ok object
object_at names (At repository x) = value names x >>= λ a. object_in repository a

-- whether a condition holds, and how often a part is repeated
abbrev pub condition : Names → Term → Result Bool FailKind
condition names x = value names x >>= condition_in

abbrev pub count : Names → Term → Result ℕ FailKind
count names x = value names x >>= count_in

-- ---- requests and endings

pub data Request : Type 0 where
  ToRead : ObjectId → Request
  ToWrite : ObjectId → Value → Request

-- where a script stops: at a request that isn't answered, or at its end
pub data Stop : Type 0 where
  Asks : Request → Stop
  Over : Ending → Stop

-- a world that answers requests: None where it has no answer left
pub record Answers (W : Type 0) : Type 0 where
  pub read : W → ObjectId → Option (Value × W)
  pub write : W → ObjectId → Value → Option W

-- what a script has done so far
pub record State (W : Type 0) : Type 0 where
  pub names : Names
  -- how many more statements may begin
  pub left : ℕ
  pub lines : List Line
  pub world : W

-- where it stopped, its transcript and the world
pub record Came (W : Type 0) : Type 0 where
  pub stop : Stop
  pub lines : List Line
  pub world : W

pub data Course (W : Type 0) : Type 0 where
  Goes : State W → Course W
  Stops : Came W → Course W

-- ---- statements

abbrev pub line_of : Step → ℕ
line_of (Let l name x) = l
line_of (Read l name place) = l
line_of (Write l place x) = l
line_of (Print l x) = l
line_of (If l x part e) = l
line_of (IfElse l x first m second e) = l
line_of (Repeat l x part e) = l
line_of (Withdraw l) = l

module _ {W : Type 0} (answers : Answers W) where
  abbrev pub stopped : State W → Stop → Course W
  stopped st stop = Stops (record { stop = stop; lines = st.lines; world = st.world })

  abbrev pub then_do : Course W → (State W → Course W) → Course W
  then_do (Goes st) go = go st
  then_do (Stops came) go = Stops came

  -- a statement begins if the budget has room for it
  abbrev pub counted : ℕ → ℕ → State W → (State W → Course W) → Course W
  counted zero l st go = stopped st (Over (ending.Failed l fails.Budget))
  counted (suc left) l st go = go (record st { left = left })

  -- a statement goes on with what was evaluated, or fails
  abbrev pub valued : {A : Type 0} → Result A FailKind → ℕ → State W → (A → Course W) → Course W
  valued (Ok x) l st go = go x
  valued (Err kind) l st go = stopped st (Over (ending.Failed l kind))

  abbrev pub read_of : Option (Value × W) → List ℕ → ObjectId → State W → Course W
  read_of None name object st = stopped st (Asks (ToRead object))
  read_of (Some p) name object st = Goes (record st { names = with_name st.names name p.0; lines = st.lines ++ line.Read object p.0 ∷ []; world = p.1 })

  abbrev pub write_of : Option W → ObjectId → Value → State W → Course W
  write_of None object value st = stopped st (Asks (ToWrite object value))
  write_of (Some w) object value st = Goes (record st { lines = st.lines ++ line.Wrote object value ∷ []; world = w })

  -- a part is carried out so many times
  abbrev pub turns : ℕ → (State W → Course W) → State W → Course W
  turns zero part st = Goes st
  turns (suc n) part st = then_do (part st) (turns n part)

  -- `begun` is a statement that the budget had room for
  abbrev mutual
    pub begun : Step → State W → Course W
    begun (Let l name x) st = valued (value st.names x) l st (λ a. Goes (record st { names = with_name st.names name a }))
    begun (Read l name place) st = valued (object_at st.names place) l st (λ o. read_of (answers.read st.world o) name o st)
    begun (Write l place x) st = valued (object_at st.names place) l st (λ o. valued (value st.names x) l st (λ a. write_of (answers.write st.world o a) o a st))
    begun (Print l x) st = valued (value st.names x) l st (λ a. Goes (record st { lines = st.lines ++ line.Print a ∷ [] }))
    begun (If l x part e) st = valued (condition st.names x) l st (λ holds. if holds then all_done part st else Goes st)
    begun (IfElse l x first m second e) st = valued (condition st.names x) l st (λ holds. if holds then all_done first st else all_done second st)
    begun (Repeat l x part e) st = valued (count st.names x) l st (λ n. turns n (all_done part) st)
    begun (Withdraw l) st = stopped st (Over (ending.Withdrawn l))

    -- the statements of a part, in order
    pub all_done : Block → State W → Course W
    all_done End st = Goes st
    all_done (Then x part) st = then_do (counted st.left (line_of x) st (begun x)) (all_done part)

  -- one statement
  abbrev pub done : Step → State W → Course W
  done x st = counted st.left (line_of x) st (begun x)

  -- a script that comes to its end is finished
  abbrev pub finished : Course W → Came W
  finished (Goes st) = record { stop = Over ending.Finished; lines = st.lines; world = st.world }
  finished (Stops came) = came

  -- a whole script, which may begin 10,000 statements
  abbrev pub carried_out : Block → W → Came W
  carried_out script w = finished (all_done script (record { names = []; left = 10000; lines = []; world = w }))

-- ---- two worlds

-- a map of objects, which answers every request
abbrev pub over_objects : Answers Objects
over_objects = record { read = λ m o. Some (value_at m o, m); write = λ m o a. Some (finite.insert m o a) }

-- what a script does alone, over a map of objects
abbrev pub perform : Block → Objects → Came Objects
perform = carried_out over_objects

pub data Answer : Type 0 where
  Got : Value → Answer
  Stored : Answer

abbrev pub got_from : List Answer → ObjectId → Option (Value × List Answer)
got_from [] o = None
got_from (Got a ∷ more) o = Some (a, more)
got_from (Stored ∷ more) o = None

abbrev pub stored_from : List Answer → ObjectId → Value → Option (List Answer)
stored_from [] o a = None
stored_from (Got b ∷ more) o a = None
stored_from (Stored ∷ more) o a = Some more

-- a list of answers; one of the wrong kind is as none
abbrev pub by_answers : Answers (List Answer)
by_answers = record { read = got_from; write = stored_from }

-- what a script does with these answers
abbrev pub talk : Block → List Answer → Came (List Answer)
talk = carried_out by_answers

-- the answers that a transcript shows
abbrev pub answers_of : List Line → List Answer
answers_of [] = []
answers_of (line.Read o a ∷ ls) = Got a ∷ answers_of ls
answers_of (line.Wrote o a ∷ ls) = Stored ∷ answers_of ls
answers_of (line.Print a ∷ ls) = answers_of ls
