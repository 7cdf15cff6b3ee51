-- The canonical text of a plan.
use Rattle.std.specs.Prelude.{◌≡◌, ℕ, ◌+◌, ◌-◌, ◌^◌, ◌≤◌, ◌==◌, List, [], ◌∷◌, ◌++◌, length, codes, if◌then◌else◌}
use Rattle.std.specs.Fmt.{decimal}
use Rattle.value_form.specs.declared.acts.ActSpec.{ActSpec}
use Rattle.value_form.specs.Mirror.{block}
use Rattle.script_form.specs.RowTexts.{script_text}
use Rattle.script_form.specs.Printable.{IsPrintable}
use Rattle.plan_form.specs.declared.act_lines.Terms.{Terms}
use Rattle.plan_form.specs.declared.plans.Plan.{Plan}
use Rattle.plan_form.specs.Plans.{InRange, title, run_line, repositories_line, brokers_line, act_front, terms}

-- an act line, which says a clock only where that isn't 1
abbrev pub act_line : Terms → List ℕ
act_line t = if t.clock == 1 then act_front t else act_front t ++ (codes " clock " ++ decimal t.clock)

-- the act line, the script and `done`
abbrev pub act_text : ActSpec → List ℕ
act_text act = act_line (terms act) ++ (10 ∷ (script_text (block act.script.lines) ++ codes "done\n"))

abbrev pub acts_text : List ActSpec → List ℕ
acts_text [] = []
acts_text (act ∷ more) = act_text act ++ acts_text more

-- the four lines of the head
abbrev pub head_text : (run repositories brokers : ℕ) → List ℕ
head_text run repositories brokers =
    title ++ (10 ∷ (run_line run ++ (10 ∷ (repositories_line repositories ++ (10 ∷ (brokers_line brokers ++ 10 ∷ []))))))

abbrev pub plan_text : Plan → List ℕ
plan_text plan = head_text plan.run plan.repositories plan.brokers ++ acts_text plan.acts

-- ---- plans that have a text

-- the act with the number n is in the ranges of a plan, and its script is one of the language
pub record IsAct (repositories brokers n : ℕ) (act : ActSpec) : Type 0 where
  pub index : act.index ≡ n
  pub broker : InRange brokers act.broker
  pub home : InRange repositories act.home
  pub timeout : InRange 1000000 act.timeout
  pub tries : InRange 100 act.tries
  pub clock : InRange (2 ^ 40 - 1) act.clock
  pub script : IsPrintable repositories (block act.script.lines)

abbrev pub EachAct : (repositories brokers n : ℕ) → List ActSpec → Type 0
EachAct repositories brokers n [] = Unit {0}
EachAct repositories brokers n (act ∷ more) = IsAct repositories brokers n act × EachAct repositories brokers (n + 1) more

-- A plan that can run: its numbers are in their ranges, its acts are numbered from 1, and their scripts are of the language. Without a broker it has no act.
pub record CanRun (plan : Plan) : Type 0 where
  pub run : InRange (2 ^ 32 - 1) plan.run
  pub repositories : InRange 16 plan.repositories
  pub brokers : plan.brokers ≤ 16
  pub acts : EachAct plan.repositories plan.brokers 1 plan.acts
  pub few : length plan.acts ≤ 10000

-- a plan of the language can run, and has a broker
abbrev pub IsOfLanguage : Plan → Type 0
IsOfLanguage plan = CanRun plan × (1 ≤ plan.brokers)
