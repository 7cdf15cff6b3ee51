-- What a step of the machine gives. Where memory runs out, it stands as before.
use Rattle.std.specs.Prelude.{◌≡◌, ◌+◌, ◌-◌, ◌<◌, ◌^◌, List, Option, Some, None, Result, Ok, Err}
use Rattle.std.specs.Vec.{vec_len, vec_capacity}
use Rattle.value_form.specs.declared.scripts.Stmt.{Stmt}
use Rattle.script_meaning.specs.Meaning.{Answer, answers_of}
use Rattle.script_run.specs.declared.halts.Halt.{Halt}
use Rattle.script_run.specs.declared.halts.Halt.TheVariants as halt
use Rattle.script_run.specs.declared.machines.Machine.{Machine}
use Rattle.script_run.specs.Standings.{Standing, goes_to}
use Rattle.script_run.specs.Steps.{Arrival, Onward, AtRead, AtWrite, AtEnd, step}

abbrev pub stand_of : Machine → Standing
stand_of m = record { path = m.path; at = m.at; names = m.names; left = m.left; lines = m.lines.items }

abbrev pub arrival_of : Halt → Arrival
arrival_of (halt.Read name o) = AtRead name o
arrival_of (halt.Write o a) = AtWrite o a
arrival_of (halt.End e) = AtEnd e

-- a statement was counted
abbrev pub counted : Standing → Standing
counted s = record s { left = s.left - 1 }

-- a statement can still be counted and passed
abbrev pub MayPass : Machine → Type 0
MayPass m = (0 < m.left) × (m.at + 1 < 2 ^ 64)

-- so can that of a request
abbrev pub MayGoOn : Halt → Machine → Type 0
MayGoOn (halt.Read name o) m = MayPass m
MayGoOn (halt.Write o a) m = MayPass m
MayGoOn (halt.End e) m = Unit {0}

-- it goes on, or stops where it stands
abbrev pub ArrivesAt : Arrival → Option Halt → Machine → Machine → Type 0
ArrivesAt a None old new = a ≡ Onward (stand_of new)
ArrivesAt a (Some h) old new = (a ≡ arrival_of h) × (stand_of new ≡ stand_of old) × MayGoOn h new

abbrev pub Arrives : {E : Type 0} → Arrival → Result (Option Halt) E → Machine → Machine → Type 0
Arrives a (Ok h) old new = ArrivesAt a h old new
Arrives a (Err e) old new = stand_of new ≡ stand_of old

-- the script comes to the same from both, whatever the further answers
pub record SameAhead (script : List Stmt) (old new : Standing) : Type 0 where
  pub by : (answers : List Answer) → goes_to script old answers ≡ goes_to script new answers
  pub answers : answers_of new.lines ≡ answers_of old.lines

-- the machine has stopped, with room for the line of an answer
pub record HasStopped (script : List Stmt) (h : Halt) (m : Machine) : Type 0 where
  pub is : step script (stand_of m) ≡ arrival_of h
  pub passes : MayGoOn h m
  pub room : vec_len m.lines < vec_capacity m.lines

abbrev pub GoesOn : {E : Type 0} → List Stmt → Result Halt E → Machine → Machine → Type 0
GoesOn script (Ok h) old new = SameAhead script (stand_of old) (stand_of new) × HasStopped script h new
GoesOn script (Err e) old new = SameAhead script (stand_of old) (stand_of new)
