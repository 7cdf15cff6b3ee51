-- The lines that say why no plan was run.
use Rattle.std.specs.Prelude.{ℕ, List, [], ◌∷◌, ◌++◌, codes}
use Rattle.std.specs.Fmt.{decimal}
use Rattle.plan_form.specs.declared.plan_faults.PlanKind.{PlanKind}
use Rattle.plan_form.specs.PlanFaults.{kind_text}
use Rattle.broker_core.specs.ResumeFault.{ResumeFault}
use Rattle.broker_core.specs.ResumeFault.TheVariants as fault
use Rattle.report_writer.specs.Reports.{numbered_line}

abbrev pub words_line : List ℕ
words_line = codes "swallow: words" ++ 10 ∷ []

abbrev pub source_line : List ℕ
source_line = codes "swallow: source" ++ 10 ∷ []

-- the line and the kind of a plan's fault
abbrev pub fault_line : ℕ → PlanKind → List ℕ
fault_line line kind = codes "swallow: plan line " ++ (decimal line ++ 32 ∷ (kind_text kind ++ 10 ∷ []))

-- the later run, or the act that another plan has, that a broker's log shows
abbrev pub resume_line : ResumeFault → List ℕ
resume_line (fault.OldRun latest) = numbered_line (codes "swallow: old run ") latest
resume_line (fault.OtherPlan index) = numbered_line (codes "swallow: other plan act ") index
resume_line fault.NoMemory = []
