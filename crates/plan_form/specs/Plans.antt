-- Which lines are a plan.
use Rattle.std.specs.Prelude.{◌≡◌, ℕ, ◌+◌, ◌-◌, ◌^◌, ◌≤◌, ◌==◌, ◌⊎◌, ◌&&◌, Bool, true, false, List, [], ◌∷◌, ◌++◌, length, take, drop, codes, if◌then◌else◌}
use Rattle.std.specs.Fmt.{decimal}
use Rattle.std.specs.Cmp.Lexicographic.{pointwise}
use Rattle.std.specs.List.{list_all}
use Rattle.value_form.specs.declared.acts.ActSpec.{ActSpec}
use Rattle.value_form.specs.Mirror.{block}
use Rattle.script_form.specs.Lines.{lines, is_blank}
use Rattle.script_form.specs.Scripts.{IsScriptLines}
use Rattle.plan_form.specs.declared.act_lines.Terms.{Terms}
use Rattle.plan_form.specs.declared.plans.Plan.{Plan}

-- from 1 to the greatest
abbrev pub InRange : ℕ → ℕ → Type 0
InRange greatest n = (1 ≤ n) × (n ≤ greatest)

-- ---- the head

abbrev pub title : List ℕ
title = codes "swallow plan 1"

abbrev pub run_line : ℕ → List ℕ
run_line n = codes "run " ++ decimal n

abbrev pub repositories_line : ℕ → List ℕ
repositories_line n = codes "repositories " ++ decimal n

abbrev pub brokers_line : ℕ → List ℕ
brokers_line n = codes "brokers " ++ decimal n

-- the lines begin with a plan's four first lines, and the body follows
pub record HasHead (ls : List (List ℕ)) (run repositories brokers : ℕ) (body : List (List ℕ)) : Type 0 where
  pub is : ls ≡ title ∷ run_line run ∷ repositories_line repositories ∷ brokers_line brokers ∷ body
  pub run_is : InRange (2 ^ 32 - 1) run
  pub repositories_are : InRange 16 repositories
  pub brokers_are : InRange 16 brokers

-- ---- act lines

-- an act line up to its number of tries
abbrev pub act_front : Terms → List ℕ
act_front t =
    codes "act broker " ++ (decimal t.broker ++ (codes " home " ++ (decimal t.home ++ (codes " timeout " ++ (decimal t.timeout ++ (codes " tries " ++ decimal t.tries))))))

-- The line says the terms of an act: who carries it out, and how often and how long it may be tried. A clock that isn't said is 1.
pub record IsActLine (repositories brokers : ℕ) (t : Terms) (line : List ℕ) : Type 0 where
  pub is : ((line ≡ act_front t) × (t.clock ≡ 1)) ⊎ (line ≡ act_front t ++ (codes " clock " ++ decimal t.clock))
  pub broker : InRange brokers t.broker
  pub home : InRange repositories t.home
  pub timeout : InRange 1000000 t.timeout
  pub tries : InRange 100 t.tries
  pub clock : InRange (2 ^ 40 - 1) t.clock

abbrev pub terms : ActSpec → Terms
terms act = record { broker = act.broker; home = act.home; timeout = act.timeout; tries = act.tries; clock = act.clock }

-- ---- the lines of an act

abbrev pub is_space : ℕ → Bool
is_space b = b == 32

-- the word `done` and nothing but spaces behind it
abbrev pub is_done_word : List ℕ → Bool
is_done_word bytes = pointwise ◌==◌ (take 4 bytes) (codes "done") && list_all is_space (drop 4 bytes)

-- `done`, with spaces round it
abbrev pub is_done : List ℕ → Bool
is_done [] = false
is_done (b ∷ bs) = if is_space b then is_done bs else is_done_word (b ∷ bs)

-- whether a line is `done`
abbrev pub has_done : List (List ℕ) → Bool
has_done [] = false
has_done (l ∷ ls) = if is_done l then true else has_done ls

-- the lines before the first `done`
abbrev pub before_done : List (List ℕ) → List (List ℕ)
before_done [] = []
before_done (l ∷ ls) = if is_done l then [] else l ∷ before_done ls

-- the lines behind the first `done`
abbrev pub behind_done : List (List ℕ) → List (List ℕ)
behind_done [] = []
behind_done (l ∷ ls) = if is_done l then ls else behind_done ls

-- ---- plans

-- the lines from the first on that is no comment and not empty
abbrev pub past_blanks : List (List ℕ) → List (List ℕ)
past_blanks [] = []
past_blanks (l ∷ ls) = if is_blank l then past_blanks ls else l ∷ ls

-- The lines are these acts, of which the first has the number n: for each its line, its script and `done`. Between them and behind the last stand
-- empty lines and comments alone.
abbrev pub AreActs : (repositories brokers n : ℕ) → List ActSpec → List (List ℕ) → Type 0
AreActs repositories brokers n [] ls = past_blanks ls ≡ []
AreActs repositories brokers n (act ∷ more) ls =
    (line : List ℕ) × (rest : List (List ℕ)) × (past_blanks ls ≡ line ∷ rest)
    × (act.index ≡ n) × IsActLine repositories brokers (terms act) line
    × (has_done rest ≡ true) × IsScriptLines repositories (before_done rest) (block act.script.lines)
    × AreActs repositories brokers (n + 1) more (behind_done rest)

-- the lines are this plan
pub record IsPlanLines (ls : List (List ℕ)) (plan : Plan) : Type 0 where
  pub body : List (List ℕ)
  pub head : HasHead ls plan.run plan.repositories plan.brokers body
  pub acts : AreActs plan.repositories plan.brokers 1 plan.acts body
  pub few : length plan.acts ≤ 10000

-- the bytes are this plan
abbrev pub IsPlan : List ℕ → Plan → Type 0
IsPlan bytes plan = (length bytes ≤ 4194304) × IsPlanLines (lines bytes) plan
