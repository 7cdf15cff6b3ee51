-- The plan of a settle.
use Rattle.std.specs.Prelude.{ℕ, []}
use Rattle.plan_form.specs.declared.plans.Plan.{Plan}

-- these repositories, no broker, and nothing to do
abbrev pub settle_plan : ℕ → Plan
settle_plan repositories = record { run = 1; repositories = repositories; brokers = 0; acts = [] }
