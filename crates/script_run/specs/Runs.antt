-- What a run tells, and what always holds of it.
use Rattle.std.specs.Prelude.{◌≡◌, List, ◌++◌, Option, Some, None, ℕ}
use Rattle.value_form.specs.declared.endings.Ending.{Ending}
use Rattle.value_form.specs.declared.endings.Ending.TheVariants as ending
use Rattle.value_form.specs.declared.scripts.Stmt.{Stmt}
use Rattle.value_form.specs.Mirror.{block}
use Rattle.script_meaning.specs.Meaning.{Answer, talk, answers_of}
use Rattle.value_form.specs.Ranges.{IsScript}
use Rattle.script_run.specs.declared.halts.Halt.{Halt}
use Rattle.script_run.specs.declared.halts.Halt.TheVariants as halt
use Rattle.script_run.specs.declared.machines.Machine.{Machine}
use Rattle.script_run.specs.declared.nexts.Next.{Next}
use Rattle.script_run.specs.declared.nexts.Next.TheVariants as next
use Rattle.script_run.specs.RunParts.{RunParts}
use Rattle.script_run.specs.Standings.{named, goes_to}
use Rattle.script_run.specs.Machines.{stand_of, HasStopped}

abbrev pub end_of : Ending → Next
end_of ending.Finished = next.Finished
end_of (ending.Withdrawn l) = next.Withdrawn l
end_of (ending.Failed l kind) = next.Failed l kind

abbrev pub next_of : Halt → Next
next_of (halt.Read name o) = next.Read o
next_of (halt.Write o a) = next.Write o a
next_of (halt.End e) = end_of e

abbrev pub said_at : Option Halt → Option Next
said_at None = None
said_at (Some h) = Some (next_of h)

abbrev pub told_by : List Stmt → Machine → Option Halt → RunParts
told_by script m stop = record { script = script; answers = answers_of m.lines.items; lines = m.lines.items; said = said_at stop }

-- where a run has stopped, no name waits for its value
abbrev pub Fits : List Stmt → Option (List ℕ) → Option Halt → Machine → Type 0
Fits script waiting None m = Unit {0}
Fits script waiting (Some h) m = (waiting ≡ None) × HasStopped script h m

-- what is ahead is what is left of the talk of the script with the answers so far
pub record IsRun (script : List Stmt) (m : Machine) (waiting : Option (List ℕ)) (stop : Option Halt) : Type 0 where
  pub in_range : IsScript script
  pub ahead_is : (answers : List Answer) → goes_to script (named waiting (stand_of m)) answers ≡ talk (block script) (answers_of m.lines.items ++ answers)
  pub fits : Fits script waiting stop m
