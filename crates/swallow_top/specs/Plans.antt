-- What reading a plan gives.
use Rattle.std.specs.Prelude.{ℕ, List, Option, Result, Ok, Err}
use Rattle.std.specs.Io.KnownBytes.{IsAtEnd}
use Rattle.stream_port.specs.Causes.{Rose}
use Rattle.plan_form.specs.declared.plans.Plan.{Plan}
use Rattle.plan_form.specs.PlanFaults.{IsPlanFault}
use Rattle.plan_form.specs.Plans.{IsPlan}
use Rattle.run_command.specs.declared.stops.Stop.{Stop}
use Rattle.run_command.specs.declared.stops.Stop.TheVariants as stop
use Rattle.swallow_top.specs.Inputs.{OfInput}

-- the plan that the bytes are, or what is wrong with them
abbrev pub IsReadAs : List ℕ → Result Plan Stop → Type 0
IsReadAs bytes (Ok plan) = IsPlan bytes plan
IsReadAs bytes (Err (stop.Fault line kind)) = IsPlanFault bytes line kind
IsReadAs bytes (Err stop.NoMemory) = Unit {0}
IsReadAs bytes (Err stop.Source) = ⊥
IsReadAs bytes (Err stop.Words) = ⊥
IsReadAs bytes (Err (stop.Votes line)) = ⊥
IsReadAs bytes (Err stop.Sink) = ⊥

-- The plan that the input is, which was read to its end; else what is wrong with it, or why it can't be read. The source has this before and after, and failed so often.
abbrev pub ReadsPlan : (old new : Option (List ℕ)) → (faults_before faults : ℕ) → Result Plan Stop → Type 0
ReadsPlan old new before after (Ok plan) = OfInput old (λ input. IsPlan input plan) × IsAtEnd new
ReadsPlan old new before after (Err (stop.Fault line kind)) = OfInput old (λ input. IsPlanFault input line kind)
ReadsPlan old new before after (Err stop.Source) = Rose before after
ReadsPlan old new before after (Err stop.NoMemory) = Unit {0}
ReadsPlan old new before after (Err stop.Words) = ⊥
ReadsPlan old new before after (Err (stop.Votes line)) = ⊥
ReadsPlan old new before after (Err stop.Sink) = ⊥
