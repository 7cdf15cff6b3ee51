-- Where a run stands in its script, and what is still to be done.
use Rattle.std.specs.Prelude.{ℕ, ◌-◌, List, [], ◌∷◌, drop, length, Option, Some, None, slice_get}
use Rattle.value_form.specs.declared.scripts.Stmt.{Stmt, out-Stmt}
use Rattle.value_form.specs.declared.scripts.Stmt.TheOpen.{Stmt-F}
use Rattle.value_form.specs.declared.transcripts.Line.{Line}
use Rattle.value_form.specs.declared.transcripts.Line.TheVariants as line
use Rattle.value_form.specs.declared.values.Value.{Value}
use Rattle.value_form.specs.declared.values.Value.TheVariants as v
use Rattle.script_meaning.specs.Names.{Names, with_name}
use Rattle.value_form.specs.Mirror.{Block, block}
use Rattle.script_meaning.specs.Meaning.{State, Came, Course, Goes, Stops, Answer, finished, all_done, turns, by_answers}
use Rattle.script_run.specs.declared.frames.Part.{Part}
use Rattle.script_run.specs.declared.frames.Part.TheVariants as part
use Rattle.script_run.specs.declared.frames.Frame.{Frame}

pub record Standing : Type 0 where
  -- the parts that were entered, the innermost first
  pub path : List Frame
  -- the place in the innermost part
  pub at : ℕ
  pub names : Names
  -- how many more statements may begin
  pub left : ℕ
  pub lines : List Line

abbrev pub state_of : Standing → List Answer → State (List Answer)
state_of s answers = record { names = s.names; left = s.left; lines = s.lines; world = answers }

-- ---- what is still to be done

pub data Rest : Type 0 where
  Ends : Rest
  -- the statements of a part, and then the rest
  More : Block → Rest → Rest
  -- a part so many times, and then the rest
  Again : ℕ → Block → Rest → Rest

abbrev pub then_come : Course (List Answer) → (State (List Answer) → Came (List Answer)) → Came (List Answer)
then_come (Goes st) go = go st
then_come (Stops came) go = came

abbrev pub resume : Rest → State (List Answer) → Came (List Answer)
resume Ends st = finished by_answers (Goes st)
resume (More b k) st = then_come (all_done by_answers b st) (resume k)
resume (Again n b k) st = then_come (turns by_answers n (all_done by_answers b) st) (resume k)

-- ---- the parts of a script

-- the statements of a part of a statement
abbrev pub either_part : Part → List Stmt → List Stmt → List Stmt
either_part part.First a b = a
either_part part.Second a b = b
either_part (part.Repeated n) a b = a

abbrev pub part_of : Stmt-F Stmt → Part → List Stmt
part_of (Stmt-F.If l x a e) q = a
part_of (Stmt-F.IfElse l x a m b e) q = either_part q a b
part_of (Stmt-F.Repeat l x a e) q = a
part_of (Stmt-F.Let l name x) q = []
part_of (Stmt-F.Read l name place) q = []
part_of (Stmt-F.Write l place x) q = []
part_of (Stmt-F.Print l x) q = []
part_of (Stmt-F.Withdraw l) q = []

abbrev pub entered_in : Part → Option Stmt → List Stmt
entered_in q None = []
entered_in q (Some x) = part_of (out-Stmt x) q

-- the statements at hand, and what comes after them
pub record Spot : Type 0 where
  pub statements : List Stmt
  pub rest : Rest

-- the further turns of a part that is repeated
abbrev pub further : Part → List Stmt → Rest → Rest
further part.First a k = k
further part.Second a k = k
further (part.Repeated n) a k = Again n (block a) k

abbrev pub entered : Frame → Spot → Spot
entered f s = record {
  statements = entered_in f.part (slice_get s.statements (f.after - 1));
  rest = further f.part (entered_in f.part (slice_get s.statements (f.after - 1))) (More (block (drop f.after s.statements)) s.rest);
}

-- the innermost part of the path
abbrev pub inner : List Stmt → List Frame → Spot
inner script [] = record { statements = script; rest = Ends }
inner script (f ∷ fs) = entered f (inner script fs)

abbrev pub ahead : List Stmt → Standing → Rest
ahead script s = More (block (drop s.at (inner script s.path).statements)) (inner script s.path).rest

-- where the script comes to from here, with further answers
abbrev pub goes_to : List Stmt → Standing → List Answer → Came (List Answer)
goes_to script s answers = resume (ahead script s) (state_of s answers)

-- ---- a name that gets its value later

abbrev pub value_shown : Line → Value
value_shown (line.Read o a) = a
value_shown (line.Wrote o a) = a
value_shown (line.Print a) = a

abbrev pub shown_in : Option Line → Value
shown_in None = v.Nothing
shown_in (Some l) = value_shown l

abbrev pub last_value : List Line → Value
last_value ls = shown_in (slice_get ls (length ls - 1))

-- the name that waits gets the value of the last line
abbrev pub named : Option (List ℕ) → Standing → Standing
named None s = s
named (Some name) s = record s { names = with_name s.names name (last_value s.lines) }
