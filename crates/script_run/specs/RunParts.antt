-- What a run has told and been told.
use Rattle.std.specs.Prelude.{◌≡◌, List, [], ◌∷◌, ◌++◌, Option, Some, None, refl}
use Rattle.std.specs.Coded.{Coded, code_by, coded×, coded_list, coded_option}
use Rattle.value_form.specs.contracts.scripts.Stmt as statement
use Rattle.value_form.specs.contracts.transcripts.Line as written
use Rattle.value_form.specs.contracts.values.Value as value
use Rattle.value_form.specs.declared.endings.Ending.TheVariants as ending
use Rattle.value_form.specs.declared.scripts.Stmt.{Stmt}
use Rattle.value_form.specs.declared.transcripts.Line.{Line}
use Rattle.value_form.specs.declared.values.Value.{Value}
use Rattle.value_form.specs.Mirror.{block}
use Rattle.script_meaning.specs.Meaning.{ToRead, ToWrite, Stop, Asks, Over, Answer, Got, Stored, talk}
use Rattle.script_run.specs.contracts.nexts.Next as said
use Rattle.script_run.specs.declared.nexts.Next.{Next}
use Rattle.script_run.specs.declared.nexts.Next.TheVariants as next

-- a run, as its callers see it
pub record RunParts : Type 0 where
  pub script : List Stmt
  -- the answers that it was given, in order
  pub answers : List Answer
  pub lines : List Line
  -- the request or ending that it told last; None where it may go on
  pub said : Option Next

-- a run that begins
abbrev pub begun : List Stmt → RunParts
begun script = record { script = script; answers = []; lines = []; said = None }

-- a run once it was given an answer, which shows in this line
abbrev pub answered : RunParts → Answer → Line → RunParts
answered t a l = record { script = t.script; answers = t.answers ++ a ∷ []; lines = t.lines ++ l ∷ []; said = None }

abbrev pub IsRead : Option Next → Type 0
IsRead (Some (next.Read o)) = Unit {0}
IsRead _ = ⊥

abbrev pub IsWrite : Option Next → Type 0
IsWrite (Some (next.Write o a)) = Unit {0}
IsWrite _ = ⊥

-- where a script stops, as a run tells it
abbrev pub stop_of : Next → Stop
stop_of (next.Read o) = Asks (ToRead o)
stop_of (next.Write o a) = Asks (ToWrite o a)
stop_of next.Finished = Over ending.Finished
stop_of (next.Withdrawn l) = Over (ending.Withdrawn l)
stop_of (next.Failed l kind) = Over (ending.Failed l kind)

-- with these answers the script has this transcript, and stops so, with no answer left over
abbrev pub Tells : List Stmt → List Answer → List Line → Next → Type 0
Tells script answers lines n = talk (block script) answers ≡ record { stop = stop_of n; lines = lines; world = [] }

-- ---- its code

abbrev value_in : Answer → Option Value
value_in (Got a) = Some a
value_in Stored = None

abbrev answer_with : Option Value → Answer
answer_with (Some a) = Got a
answer_with None = Stored

pub answer_back : (a : Answer) → answer_with (value_in a) ≡ a
answer_back (Got a) = refl
answer_back Stored = refl

abbrev answer_code : Coded Answer
answer_code = code_by (Option Value) (coded_option value.the_row.coded) value_in answer_with answer_back

abbrev pub told_code : Coded RunParts
told_code = code_by (List Stmt × (List Answer × (List Line × Option Next)))
    (coded× (coded_list statement.the_row.coded) (coded× (coded_list answer_code) (coded× (coded_list written.the_row.coded) (coded_option said.the_row.coded))))
    (λ t. (t.script, (t.answers, (t.lines, t.said))))
    (λ q. record { script = q.0; answers = q.1.0; lines = q.1.1.0; said = q.1.1.1 }) (λ _. refl)
