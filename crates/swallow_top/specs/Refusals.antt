-- How it is told why nothing was run.
use Rattle.std.specs.Prelude.{◌≡◌, ◌⊎◌, ℕ, List}
use Rattle.plan_form.specs.declared.plan_faults.PlanKind.{PlanKind}
use Rattle.plan_form.specs.PlanFaults.{IsPlanFault}
use Rattle.votes_command.specs.Texts as votes
use Rattle.run_command.specs.declared.stops.Stop.{Stop}
use Rattle.run_command.specs.declared.stops.Stop.TheVariants as stop
use Rattle.run_command.specs.Lines.{fault_line, source_line, words_line}
use Rattle.run_command.specs.Written.{Sinking, GotLine, HasNoMemory}

-- the status and the line of a refusal
abbrev pub RefusedAs : Stop → ℕ → Sinking → Type 0
RefusedAs stop.Words status s = (status ≡ 1) × GotLine s words_line
RefusedAs (stop.Fault line kind) status s = HasNoMemory status s ⊎ ((status ≡ 2) × GotLine s (fault_line line kind))
RefusedAs (stop.Votes line) status s = HasNoMemory status s ⊎ ((status ≡ 2) × GotLine s (votes.fault_line line))
RefusedAs stop.Source status s = (status ≡ 3) × GotLine s source_line
RefusedAs stop.NoMemory status s = HasNoMemory status s
RefusedAs stop.Sink status s = HasNoMemory status s

-- the input is no plan
pub record IsNoPlan (input : List ℕ) (s : Sinking) : Type 0 where
  pub line : ℕ
  pub kind : PlanKind
  pub is_fault : IsPlanFault input line kind
  pub told : GotLine s (fault_line line kind)
