-- The lines of a session that no report has.
use Rattle.std.specs.Prelude.{ℕ, List, [], ◌∷◌, ◌++◌, codes}
use Rattle.std.specs.Fmt.{decimal}
use Rattle.plan_form.specs.declared.plan_faults.PlanKind.{PlanKind}
use Rattle.plan_form.specs.PlanFaults.{kind_text}

-- a line of the session's input, and what is wrong there
abbrev pub line_with : ℕ → List ℕ → List ℕ
line_with line words = codes "swallow: session line " ++ (decimal line ++ 32 ∷ (words ++ 10 ∷ []))

abbrev pub fault_line : ℕ → PlanKind → List ℕ
fault_line line what = line_with line (kind_text what)

-- the line at which the input ended in a batch without a `go`
abbrev pub cut_line : ℕ → List ℕ
cut_line line = line_with line (codes "go")

abbrev pub full_line : List ℕ
full_line = codes "swallow: nothing is left above" ++ 10 ∷ []
