-- The members and the polls, each opened with its log.
use Rattle.std.specs.Prelude.{ℕ, zero, suc, List, [], ◌∷◌, ◌++◌}
use Rattle.pseudo_time.specs.Nodes.{broker, repository}
use Rattle.effect_form.specs.declared.effects.Effect.{Effect}
use Rattle.world_core.specs.declared.traces.Opened.{Opened}

-- the members, with these logs
abbrev pub opened_members : (one two three : List Effect) → List Opened
opened_members one two three = record { node = repository 1; effects = one } ∷ record { node = repository 2; effects = two } ∷ record { node = repository 3; effects = three } ∷ []

-- and the polls, so many, which have none
abbrev pub opened_voters : (one two three : List Effect) → ℕ → List Opened
opened_voters one two three zero = opened_members one two three
opened_voters one two three (suc polls) = opened_voters one two three polls ++ record { node = broker (suc polls); effects = [] } ∷ []
