-- The input of a session: its head, and batches, each ended by a line `go`. Lines are without their ends; one 0D at the end of a line isn't part of what it says.
use Rattle.std.specs.Prelude.{◌≡◌, ◌⊎◌, ℕ, ◌+◌, ◌-◌, ◌^◌, Bool, true, false, min, max, List, [], ◌∷◌, ◌++◌, length, codes}
use Rattle.std.specs.Str.Lines.{strip_carriage_return}
use Rattle.pseudo_time.specs.Lists.{Every}
use Rattle.plan_form.specs.declared.plans.Plan.{Plan}
use Rattle.plan_form.specs.declared.plan_faults.PlanKind.{PlanKind}
use Rattle.plan_form.specs.declared.plan_faults.PlanKind.TheVariants as kind
use Rattle.plan_form.specs.PlanFaults.{IsPlanFault}
use Rattle.plan_form.specs.Plans.{IsPlan}

-- ---- lines

-- the bytes have no end of a line
abbrev pub IsInLine : List ℕ → Type 0
IsInLine bytes = Every (λ b. b ≡ 10 → ⊥) bytes

-- the end of a line, if it has one
abbrev pub line_end : Bool → List ℕ
line_end true = 10 ∷ []
line_end false = []

-- these lines, each with its end
abbrev pub ended : List (List ℕ) → List ℕ
ended [] = []
ended (l ∷ ls) = l ++ (10 ∷ ended ls)

-- the line that ends a batch
abbrev pub IsGo : List ℕ → Type 0
IsGo line = strip_carriage_return line ≡ codes "go"

-- a session's first line
abbrev pub IsTitle : List ℕ → Type 0
IsTitle line = strip_carriage_return line ≡ codes "swallow session 1"

-- ---- the head

-- The text of a batch as a plan: a plan's first two lines, of the run 1, the two lines of the session that say how many nodes there are, and the lines of the batch.
abbrev pub batch_text : (repositories brokers : List ℕ) → List (List ℕ) → List ℕ
batch_text repositories brokers ls = ended (codes "swallow plan 1" ∷ codes "run 1" ∷ repositories ∷ brokers ∷ ls)

-- a session's first three lines: without a batch they are a plan
pub record IsHead (text repositories brokers : List ℕ) : Type 0 where
  pub title : List ℕ
  pub is : text ≡ ended (title ∷ repositories ∷ brokers ∷ [])
  pub is_title : IsTitle title
  pub none : Plan
  pub is_plan : IsPlan (batch_text repositories brokers []) none

-- The fault of a head, and its line: the first isn't a session's first line, or the input ends before its end; the second or the third has no end; or the plan without a batch is faulty there.
abbrev pub IsHeadFault : (text : List ℕ) → (line : ℕ) → PlanKind → Type 0
IsHeadFault text line what =
    ((l : List ℕ) × (has_end : Bool) × (text ≡ l ++ line_end has_end) × (has_end ≡ true → IsTitle l → ⊥) × (line ≡ 1) × (what ≡ kind.Header))
    ⊎ (((title l : List ℕ) × (text ≡ ended (title ∷ []) ++ l) × IsTitle title × IsInLine l × (line ≡ 2) × (what ≡ kind.Repositories))
    ⊎ (((title repositories l : List ℕ) × (text ≡ ended (title ∷ repositories ∷ []) ++ l) × IsTitle title × IsInLine l × (line ≡ 3) × (what ≡ kind.Brokers))
    ⊎ ((title repositories brokers : List ℕ) × (at : ℕ) × (text ≡ ended (title ∷ repositories ∷ brokers ∷ [])) × IsTitle title
    × IsPlanFault (batch_text repositories brokers []) at what × (line ≡ at - 1))))

-- ---- batches

-- the text is the lines of a batch, none of them `go`, and a line that is
pub record IsBatch (text : List ℕ) (batch : List (List ℕ)) : Type 0 where
  pub line : List ℕ
  pub go : IsGo line
  pub none : Every (λ l. IsGo l → ⊥) batch
  pub whole : Every IsInLine (batch ++ line ∷ [])
  pub is : text ≡ ended (batch ++ line ∷ [])

-- the text is these batches, one after another
abbrev pub AreBatches : List ℕ → List (List (List ℕ)) → Type 0
AreBatches text [] = text ≡ []
AreBatches text (batch ∷ batches) = (front rest : List ℕ) × (text ≡ front ++ rest) × IsBatch front batch × AreBatches rest batches

-- the text is lines without a `go`, and a last one without its end, which may be empty
pub record IsRest (text : List ℕ) (ls : List (List ℕ)) (last : List ℕ) : Type 0 where
  pub none : Every (λ l. IsGo l → ⊥) ls
  pub whole : Every IsInLine (ls ++ last ∷ [])
  pub is : text ≡ ended ls ++ last

-- ---- numbers of lines, which end at 2^64 - 1

abbrev pub counted : ℕ → ℕ
counted n = min n (2 ^ 64 - 1)

-- how many lines these batches have, with their `go`
abbrev pub lines_in : List (List (List ℕ)) → ℕ
lines_in [] = 0
lines_in (batch ∷ batches) = (length batch + 1) + lines_in batches

-- The line of a session that is this line of a batch as a plan, when so many lines are before the batch. What is wrong with the whole batch is told of its first line.
abbrev pub line_of : (before at : ℕ) → ℕ
line_of before at = counted (before + max 1 (at - 4))
