-- How attempts were decided, by what the log of each repository says first.
use Rattle.std.specs.Prelude.{◌≡◌, ℕ, zero, suc, Bool, List, [], ◌∷◌, length, slice_get, Option, None}
use Rattle.std.specs.FinMap as finite
use Rattle.std.specs.List.{list_any}
use Rattle.pseudo_time.specs.StampParts.{StampParts}
use Rattle.effect_form.specs.declared.effects.Effect.{Effect}
use Rattle.world_core.specs.Deeds.{RunLogs, log_of}
use Rattle.trace_report.specs.Firsts.{Said, AreFirsts, is_learned}

-- what the logs with the numbers from 1 on say first
abbrev pub AreEach : (ℕ → List Effect) → List Said → Type 0
AreEach logs [] = Unit {0}
AreEach logs (said ∷ more) = AreFirsts (logs 1) said × AreEach (λ r. logs (suc r)) more

-- what the logs of a run's repositories say first
pub record AreDecided (k : RunLogs) (firsts : List Said) : Type 0 where
  pub count : length firsts ≡ k.repositories
  pub each : AreEach (log_of k) firsts

-- of the repository with this number
abbrev pub said_at : List Said → ℕ → Option Said
said_at firsts zero = None
said_at firsts (suc place) = slice_get firsts place

abbrev pub learned_in : StampParts → Said → Bool
learned_in s said = is_learned (finite.get said s)

-- one of them says first that it was learned as committed
abbrev pub learned_in_some : List Said → StampParts → Bool
learned_in_some firsts s = list_any (learned_in s) firsts
