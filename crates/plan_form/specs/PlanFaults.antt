-- What is wrong with bytes that are no plan.
use Rattle.std.specs.Prelude.{◌≡◌, ℕ, ◌+◌, ◌-◌, ◌^◌, ◌<◌, ◌≤◌, ◌⊎◌, true, false, List, [], ◌∷◌, ◌++◌, length, codes, Result, Ok, Err}
use Rattle.value_form.specs.declared.acts.ActSpec.{ActSpec}
use Rattle.script_form.specs.Lines.{lines, is_blank}
use Rattle.script_form.specs.Scripts.{BeginScript, FaultAt, FaultBehind}
use Rattle.script_form.specs.declared.parse_faults.ParseKind.TheVariants as script
use Rattle.plan_form.specs.declared.act_lines.Terms.{Terms}
use Rattle.plan_form.specs.declared.plans.Plan.{Plan}
use Rattle.plan_form.specs.declared.plan_faults.PlanKind.{PlanKind}
use Rattle.plan_form.specs.declared.plan_faults.PlanKind.TheVariants as kind
use Rattle.plan_form.specs.declared.plan_faults.PlanFault.{PlanFault}
use Rattle.plan_form.specs.declared.plan_faults.PlanFault.TheVariants.{Fault, NoMemory}
use Rattle.plan_form.specs.Plans.{InRange, title, run_line, repositories_line, brokers_line, HasHead, IsActLine, has_done, before_done, AreActs, IsPlan}

-- how a kind of fault is written
abbrev pub kind_text : PlanKind → List ℕ
kind_text kind.Size = codes "size"
kind_text kind.Header = codes "header"
kind_text kind.Run = codes "run"
kind_text kind.Repositories = codes "repositories"
kind_text kind.Brokers = codes "brokers"
kind_text kind.Act = codes "act"
kind_text kind.Acts = codes "acts"
kind_text (kind.Script script.Token) = codes "script token"
kind_text (kind.Script script.Range) = codes "script range"
kind_text (kind.Script script.Syntax) = codes "script syntax"
kind_text (kind.Script script.Block) = codes "script block"
kind_text (kind.Script script.Depth) = codes "script depth"
kind_text (kind.Script script.Size) = codes "script size"
kind_text kind.End = codes "end"

-- ---- the head

-- the first line isn't as said, or is missing
abbrev pub Lacks : (List ℕ → Type 0) → List (List ℕ) → Type 0
Lacks IsSuch [] = Unit {0}
Lacks IsSuch (l ∷ ls) = IsSuch l → ⊥

-- the line is this one for a number from 1 to the greatest
abbrev pub IsNumbered : (ℕ → List ℕ) → ℕ → List ℕ → Type 0
IsNumbered said greatest line = (n : ℕ) × InRange greatest n × (line ≡ said n)

-- ---- the script of an act

-- What is wrong with the lines behind an act line, and with which of them: the first with which they begin no script, or `done` in an open block.
-- Where they have no `done` and begin a script, the act isn't ended at the line behind the last.
abbrev pub ScriptFault : (repositories : ℕ) → List (List ℕ) → ℕ → PlanKind → Type 0
ScriptFault repositories ls at (kind.Script what) =
    FaultAt repositories (before_done ls) at what ⊎ ((has_done ls ≡ true) × FaultBehind repositories (before_done ls) at what)
ScriptFault repositories ls at kind.End = (has_done ls ≡ false) × BeginScript repositories ls × (at ≡ length ls + 1)
ScriptFault repositories ls at _ = ⊥

-- ---- the body

-- the lines before this one are whole acts, with empty lines and comments between and behind them
pub record Reaches (repositories brokers : ℕ) (ls : List (List ℕ)) (acts : List ActSpec) (before : List (List ℕ)) (line : List ℕ) (more : List (List ℕ)) : Type 0 where
  pub is : ls ≡ before ++ line ∷ more
  pub whole : AreActs repositories brokers 1 acts before
  pub few : length acts ≤ 10000

-- The fault of the lines behind the head: of one that stands where an act line may stand, or of the script of the first act that isn't whole.
abbrev pub BodyFault : (repositories brokers : ℕ) → List (List ℕ) → ℕ → PlanKind → Type 0
BodyFault repositories brokers ls at kind.Act =
    (acts : List ActSpec) × (before more : List (List ℕ)) × (line : List ℕ) × Reaches repositories brokers ls acts before line more
    × (at ≡ length before + 1) × (is_blank line ≡ false) × ((t : Terms) → IsActLine repositories brokers t line → ⊥)
BodyFault repositories brokers ls at kind.Acts =
    (acts : List ActSpec) × (before more : List (List ℕ)) × (line : List ℕ) × Reaches repositories brokers ls acts before line more
    × (at ≡ length before + 1) × (length acts ≡ 10000) × (t : Terms) × IsActLine repositories brokers t line
BodyFault repositories brokers ls at what =
    (acts : List ActSpec) × (before more : List (List ℕ)) × (line : List ℕ) × Reaches repositories brokers ls acts before line more
    × (length acts < 10000) × (t : Terms) × IsActLine repositories brokers t line
    × (inside : ℕ) × (at ≡ length before + 1 + inside) × ScriptFault repositories more inside what

-- ---- all lines

-- The fault of these lines, and its line counted from the first of them: the first line that isn't as a plan has it.
abbrev pub LinesFault : List (List ℕ) → ℕ → PlanKind → Type 0
LinesFault ls at kind.Size = ⊥
LinesFault ls at kind.Header = (at ≡ 1) × Lacks (λ l. l ≡ title) ls
LinesFault ls at kind.Run = (at ≡ 2) × (rest : List (List ℕ)) × (ls ≡ title ∷ rest) × Lacks (IsNumbered run_line (2 ^ 32 - 1)) rest
LinesFault ls at kind.Repositories =
    (at ≡ 3) × (run : ℕ) × InRange (2 ^ 32 - 1) run × (rest : List (List ℕ)) × (ls ≡ title ∷ run_line run ∷ rest) × Lacks (IsNumbered repositories_line 16) rest
LinesFault ls at kind.Brokers =
    (at ≡ 4) × (run repositories : ℕ) × InRange (2 ^ 32 - 1) run × InRange 16 repositories
    × (rest : List (List ℕ)) × (ls ≡ title ∷ run_line run ∷ repositories_line repositories ∷ rest) × Lacks (IsNumbered brokers_line 16) rest
LinesFault ls at what =
    (run repositories brokers : ℕ) × (body : List (List ℕ)) × HasHead ls run repositories brokers body
    × (inside : ℕ) × (at ≡ 4 + inside) × BodyFault repositories brokers body inside what

-- the fault of bytes: too many of them, before all else
abbrev pub IsPlanFault : List ℕ → ℕ → PlanKind → Type 0
IsPlanFault bytes line kind.Size = (line ≡ 0) × (4194304 < length bytes)
IsPlanFault bytes line what = (length bytes ≤ 4194304) × LinesFault (lines bytes) line what

-- Ok with the plan that the bytes are; else their fault.
abbrev pub Parses : List ℕ → Result Plan PlanFault → Type 0
Parses bytes (Ok plan) = IsPlan bytes plan
Parses bytes (Err (Fault line what)) = IsPlanFault bytes line what
Parses bytes (Err NoMemory) = Unit {0}
