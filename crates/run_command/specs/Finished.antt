-- A broker that has begun all that a plan gives it.
use Rattle.std.specs.Prelude.{◌≡◌, ◌⊎◌, ℕ, length, []}
use Rattle.plan_form.specs.declared.plans.Plan.{Plan}
use Rattle.broker_core.specs.Book.{Book}
use Rattle.run_rounds.specs.Acts.{tasks_of}

-- the plan gives the broker nothing; or the book is of the plan's run, and has as many acts as the plan gives it
abbrev pub AllBegun : Plan → ℕ → Book → Type 0
AllBegun plan b book = (tasks_of plan b ≡ []) ⊎ ((book.run ≡ plan.run) × (length book.acts ≡ length (tasks_of plan b)))
