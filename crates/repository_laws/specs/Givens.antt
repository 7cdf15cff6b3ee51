-- What a turn of a repository is given, and what it has to give. Logs stand newest first.
use Rattle.std.specs.Prelude.{◌≡◌, ℕ, List, ◌++◌}
use Rattle.pseudo_time.specs.Lists.{Every}
use Rattle.effect_form.specs.declared.effects.Effect.{Effect}
use Rattle.message_form.specs.Growth.{Grew}
use Rattle.message_form.specs.Posts.{Post}
use Rattle.repository_core.specs.Hands.{Hand, Mind}
use Rattle.repository_laws.specs.Facts.{FitsLog, IsTidy, PostHolds, RestsOn, HeldHolds}

-- the whole log, which grew from the durable one by effects that fit, and reads that are held
pub record IsGiven (ever : List Post) (homes : ℕ → List Effect) (r : ℕ) (log : List Effect) (mind : Mind) : Type 0 where
  pub tidy : IsTidy r log
  pub held : Every (HeldHolds ever r) mind.held
  pub added : List Effect
  pub own : log ≡ added ++ homes r
  pub grew : Grew (FitsLog r) (homes r) added

-- after the turn: its effects fit, one by one, each with its cause, and what its messages say holds of the log with them
pub record Gives (ever : List Post) (homes : ℕ → List Effect) (ticks : List ℕ) (r : ℕ) (log : List Effect) (h : Hand) : Type 0 where
  pub grew : Grew (FitsLog r) log h.added
  pub causes : Grew (λ l f. RestsOn ever homes ticks r f) log h.added
  pub held : Every (HeldHolds ever r) h.held
  pub outs : Every (λ p. PostHolds ever r (h.added ++ log) p.to p.message) h.outs
