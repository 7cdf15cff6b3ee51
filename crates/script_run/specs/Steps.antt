-- One step of a run.
use Rattle.std.specs.Prelude.{ℕ, zero, suc, ◌+◌, ◌*◌, Bool, true, false, List, [], ◌∷◌, ◌++◌, Option, Some, None, Result, Ok, Err, slice_get}
use Rattle.value_form.specs.declared.endings.Ending.{Ending}
use Rattle.value_form.specs.declared.endings.Ending.TheVariants as ending
use Rattle.value_form.specs.declared.fail_kinds.FailKind.{FailKind}
use Rattle.value_form.specs.declared.fail_kinds.FailKind.TheVariants as fails
use Rattle.value_form.specs.declared.objects.ObjectId.{ObjectId}
use Rattle.value_form.specs.declared.scripts.Stmt.{Stmt, out-Stmt}
use Rattle.value_form.specs.declared.scripts.Stmt.TheOpen.{Stmt-F}
use Rattle.value_form.specs.declared.transcripts.Line.TheVariants as line
use Rattle.value_form.specs.declared.values.Value.{Value}
use Rattle.script_meaning.specs.Names.{with_name}
use Rattle.value_form.specs.Mirror.{term, spot}
use Rattle.value_form.specs.MirrorLaws.{shape}
use Rattle.script_meaning.specs.Meaning.{value, object_at, condition, count, line_of}
use Rattle.script_run.specs.declared.frames.Part.{Part}
use Rattle.script_run.specs.declared.frames.Part.TheVariants as part
use Rattle.script_run.specs.declared.frames.Frame.{Frame}
use Rattle.script_run.specs.Standings.{Standing, inner}

-- what a step comes to
pub data Arrival : Type 0 where
  Onward : Standing → Arrival
  AtRead : (name : List ℕ) → ObjectId → Arrival
  AtWrite : ObjectId → Value → Arrival
  AtEnd : Ending → Arrival

-- a statement goes on with what was evaluated, or fails
abbrev pub on_value : {A : Type 0} → Result A FailKind → ℕ → (A → Arrival) → Arrival
on_value (Ok x) l go = go x
on_value (Err kind) l go = AtEnd (ending.Failed l kind)

-- past the statement
abbrev pub past : Standing → Arrival
past s = Onward (record s { at = s.at + 1 })

-- into a part of the statement
abbrev pub into_part : Standing → Part → Arrival
into_part s q = Onward (record s { path = (record { after = s.at + 1; part = q }) ∷ s.path; at = 0 })

abbrev pub repeating : Standing → ℕ → Arrival
repeating s zero = past s
repeating s (suc n) = into_part s (part.Repeated n)

-- the part that a condition chooses; None is no part
abbrev pub chosen_part : Standing → Bool → Option Part → Arrival
chosen_part s true second = into_part s part.First
chosen_part s false (Some q) = into_part s q
chosen_part s false None = past s

abbrev pub chosen : Standing → ℕ → Result Bool FailKind → Option Part → Arrival
chosen s l r second = on_value r l (λ holds. chosen_part s holds second)

abbrev pub repeated : Standing → ℕ → Result ℕ FailKind → Arrival
repeated s l r = on_value r l (repeating s)

-- a statement for which the budget had room
abbrev pub begun_at : Standing → Stmt-F Stmt → Arrival
begun_at s (Stmt-F.Let l name x) = on_value (value s.names (term x)) l (λ a. past (record s { names = with_name s.names name a }))
begun_at s (Stmt-F.Read l name place) = on_value (object_at s.names (spot place)) l (λ o. AtRead name o)
begun_at s (Stmt-F.Write l place x) = on_value (object_at s.names (spot place)) l (λ o. on_value (value s.names (term x)) l (λ a. AtWrite o a))
begun_at s (Stmt-F.Print l x) = on_value (value s.names (term x)) l (λ a. past (record s { lines = s.lines ++ line.Print a ∷ [] }))
begun_at s (Stmt-F.If l x a e) = chosen s l (condition s.names (term x)) None
begun_at s (Stmt-F.IfElse l x a m b e) = chosen s l (condition s.names (term x)) (Some part.Second)
begun_at s (Stmt-F.Repeat l x a e) = repeated s l (count s.names (term x))
begun_at s (Stmt-F.Withdraw l) = AtEnd (ending.Withdrawn l)

abbrev pub counted_at : ℕ → Standing → Stmt-F Stmt → Arrival
counted_at zero s x = AtEnd (ending.Failed (line_of (shape x)) fails.Budget)
counted_at (suc n) s x = begun_at (record s { left = n }) x

-- where the end of a part leads: to its next turn, or past its statement
abbrev pub left_by : Frame → List Frame → Part → ℕ × List Frame
left_by f fs part.First = (f.after, fs)
left_by f fs part.Second = (f.after, fs)
left_by f fs (part.Repeated zero) = (f.after, fs)
left_by f fs (part.Repeated (suc n)) = (0, (record f { part = part.Repeated n }) ∷ fs)

abbrev pub left_from : List Frame → Option (ℕ × List Frame)
left_from [] = None
left_from (f ∷ fs) = Some (left_by f fs f.part)

abbrev pub at_end : Standing → Option (ℕ × List Frame) → Arrival
at_end s None = AtEnd ending.Finished
at_end s (Some p) = Onward (record s { at = p.0; path = p.1 })

abbrev pub step_at : Standing → Option Stmt → Arrival
step_at s None = at_end s (left_from s.path)
step_at s (Some x) = counted_at s.left s (out-Stmt x)

abbrev pub step : List Stmt → Standing → Arrival
step script s = step_at s (slice_get (inner script s.path).statements s.at)

-- ---- how far a run may go by itself

abbrev pub turns_in : Part → ℕ
turns_in part.First = 1
turns_in part.Second = 1
turns_in (part.Repeated n) = n + 1

abbrev pub turns_on : List Frame → ℕ
turns_on [] = 0
turns_on (f ∷ fs) = turns_in f.part + turns_on fs

abbrev pub weight : Standing → ℕ
weight s = 1002 * s.left + turns_on s.path
