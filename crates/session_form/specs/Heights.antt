-- How far logs have come: the greatest run, and the greatest clock of a stamp in them; and the plan above them.
use Rattle.std.specs.Prelude.{ℕ, ◌+◌, ◌-◌, ◌^◌, ◌≤◌, ◌<◌, max, List, [], ◌∷◌, map}
use Rattle.pseudo_time.specs.Lists.{Every}
use Rattle.value_form.specs.declared.acts.ActSpec.{ActSpec}
use Rattle.effect_form.specs.declared.effects.Effect.{Effect}
use Rattle.effect_form.specs.declared.effects.Effect.TheVariants as effect
use Rattle.effect_form.specs.declared.outcomes.Outcome.{Outcome}
use Rattle.effect_form.specs.declared.outcomes.Outcome.TheVariants as outcome
use Rattle.plan_form.specs.declared.plans.Plan.{Plan}
use Rattle.session_form.specs.declared.heights.Heights.{Heights}

-- the clock of the stamp that an outcome shows; 0 if it shows none
abbrev pub clock_shown : Outcome → ℕ
clock_shown (outcome.LaterRead o e) = e.stamp.clock
clock_shown (outcome.LaterVersion o x) = x.stamp.clock
clock_shown outcome.Committed = 0
clock_shown (outcome.Withdrawn l) = 0
clock_shown (outcome.Failed l k) = 0
clock_shown (outcome.Expired d m) = 0
clock_shown (outcome.Spent c) = 0

-- the clock of the stamp in an effect; 0 if there is none
abbrev pub clock_in : Effect → ℕ
clock_in (effect.Put o x v) = x.stamp.clock
clock_in (effect.Stretch o x) = x.stamp.clock
clock_in (effect.Begin s d) = s.clock
clock_in (effect.Decide s d) = s.clock
clock_in (effect.Learn s c) = s.clock
clock_in (effect.Try i s) = s.clock
clock_in (effect.Mark x) = x.stamp.clock
clock_in (effect.End i o) = clock_shown o
clock_in (effect.Run n) = 0
clock_in (effect.Act i h t k c x) = 0
clock_in (effect.Got k v) = 0
clock_in (effect.Acked k) = 0
clock_in effect.Whole = 0

-- the run that an effect begins; 0 if it begins none
abbrev pub run_in : Effect → ℕ
run_in (effect.Run n) = n
run_in (effect.Put o x v) = 0
run_in (effect.Stretch o x) = 0
run_in (effect.Begin s d) = 0
run_in (effect.Decide s d) = 0
run_in (effect.Learn s c) = 0
run_in (effect.Try i s) = 0
run_in (effect.Mark x) = 0
run_in (effect.End i o) = 0
run_in (effect.Act i h t k c x) = 0
run_in (effect.Got k v) = 0
run_in (effect.Acked k) = 0
run_in effect.Whole = 0

-- no effect of the log begins a later run, and no stamp in it has a greater clock
abbrev pub Covers : Heights → List Effect → Type 0
Covers h log = Every (λ f. (run_in f ≤ h.run) × (clock_in f ≤ h.clock)) log

-- as far as these, and as an effect
abbrev pub with_effect : Heights → Effect → Heights
with_effect h f = record { run = max h.run (run_in f); clock = max h.clock (clock_in f) }

-- and as a log
abbrev pub with_log : Heights → List Effect → Heights
with_log h [] = h
with_log h (f ∷ log) = with_log (with_effect h f) log

-- no lower than these
abbrev pub IsNoLower : Heights → Heights → Type 0
IsNoLower h g = (h.run ≤ g.run) × (h.clock ≤ g.clock)

-- the act with its clock above this one
abbrev pub raised_act : ℕ → ActSpec → ActSpec
raised_act clock a = record a { clock = max a.clock (clock + 1) }

-- the plan, its run and the clocks of its acts above these
abbrev pub raised : Heights → Plan → Plan
raised h plan = record plan { run = h.run + 1; acts = map (raised_act h.clock) plan.acts }

-- a run and a clock are left above
abbrev pub HasRoom : Heights → Type 0
HasRoom h = (h.run < 2 ^ 32 - 1) × (h.clock < 2 ^ 40 - 1)
