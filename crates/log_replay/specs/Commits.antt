-- Which attempts a repository's log commits, as the code keeps it. Logs stand newest first.
use Rattle.std.specs.Prelude.{◌≡◌, Bool, false, List, [], ◌∷◌, reverse, Option, Some, None}
use Rattle.std.specs.FinMap as finite
use Rattle.pseudo_time.specs.StampParts.{StampParts}
use Rattle.effect_form.specs.declared.effects.Effect.{Effect}
use Rattle.effect_form.specs.declared.effects.Effect.TheVariants as effect
use Rattle.object_history.specs.Kept.{Settled}
use Rattle.repository_log.specs.Logs.{is_commit, first_said}

-- an effect says that the attempt is committed here, or that it isn't: what was learned isn't decided here
abbrev pub said_by : Effect → Option (StampParts × Bool)
said_by (effect.Decide s d) = Some (s, is_commit d)
said_by (effect.Learn s c) = Some (s, false)
said_by (effect.Begin s d) = None
said_by (effect.Put o x v) = None
said_by (effect.Stretch o x) = None
said_by (effect.Run n) = None
said_by (effect.Act i h t n c b) = None
said_by (effect.Try i s) = None
said_by (effect.Got k v) = None
said_by (effect.Acked k) = None
said_by (effect.End i e) = None
said_by (effect.Mark at) = None
said_by effect.Whole = None

-- what the log says first of the attempt
unfoldable pub first_of : List Effect → StampParts → Option Bool
first_of [] s = None
first_of (f ∷ log) s = first_said (said_by f) (first_of log s) s

abbrev pub AreSaid : List Effect → Settled → Type 0
AreSaid log said = (s : StampParts) → finite.get said s ≡ first_of log s

-- so of each of these logs, oldest effect first
abbrev pub AreCommits : List (List Effect) → List Settled → Type 0
AreCommits [] [] = Unit {0}
AreCommits [] (said ∷ more) = ⊥
AreCommits (log ∷ logs) [] = ⊥
AreCommits (log ∷ logs) (said ∷ more) = AreSaid (reverse log) said × AreCommits logs more

-- what the log with this number says of the attempt, from 1 on
abbrev pub is_said : Option Bool → Bool
is_said None = false
is_said (Some c) = c
