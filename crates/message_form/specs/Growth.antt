-- How a log grows. Logs stand newest first here.
use Rattle.std.specs.Prelude.{List, [], ◌∷◌, ◌++◌}
use Rattle.effect_form.specs.declared.effects.Effect.{Effect}

-- each new effect fits the log below it
abbrev pub Grew : (List Effect → Effect → Type 0) → List Effect → List Effect → Type 0
Grew Fits log [] = Unit {0}
Grew Fits log (effect ∷ new) = Grew Fits log new × Fits (new ++ log) effect

-- of each effect of a log, with the log below it
abbrev pub Each : (List Effect → Effect → Type 0) → List Effect → Type 0
Each P [] = Unit {0}
Each P (effect ∷ log) = Each P log × P log effect
