-- Attempts on whose decision logs disagree.
use Rattle.std.specs.Prelude.{◌≡◌, ◌⊎◌, ℕ, suc, true, false, Bool, List, [], ◌∷◌, reverse, Option, Some, None}
use Rattle.std.specs.FinMap as finite
use Rattle.pseudo_time.specs.Lists.{Every, Has}
use Rattle.pseudo_time.specs.Order.{stamp_lt}
use Rattle.pseudo_time.specs.StampParts.{StampParts}
use Rattle.pseudo_time.specs.declared.decisions.Decision.{Decision}
use Rattle.effect_form.specs.declared.effects.Effect.{Effect}
use Rattle.effect_form.specs.declared.effects.Effect.TheVariants.{Decide, Learn}
use Rattle.object_history.specs.Kept.{Settled}
use Rattle.repository_log.specs.Logs.{is_commit}
use Rattle.world_core.specs.Deeds.{RunLogs, in_run, log_of}
use Rattle.log_replay.specs.Folders.{log_at}
use Rattle.log_replay.specs.declared.decisions.Rulings.{Rulings}

-- it was decided away from its home
pub record IsAway (k : RunLogs) (s : StampParts) : Type 0 where
  pub repository : ℕ
  pub decision : Decision
  pub inside : in_run k repository ≡ true
  pub there : Has (Decide s decision) (log_of k repository)
  pub away : repository ≡ s.home → ⊥

-- its home decided it twice, as committed and as not
pub record IsTwofold (k : RunLogs) (s : StampParts) : Type 0 where
  pub one : Decision
  pub other : Decision
  pub there : Has (Decide s one) (log_of k s.home) × Has (Decide s other) (log_of k s.home)
  pub differ : is_commit one ≡ is_commit other → ⊥

-- it was learned as its home didn't decide it
pub record IsMislearned (k : RunLogs) (s : StampParts) : Type 0 where
  pub repository : ℕ
  pub committed : Bool
  pub inside : in_run k repository ≡ true
  pub there : Has (Learn s committed) (log_of k repository)
  pub none : (d : Decision) → Has (Decide s d) (log_of k s.home) → committed ≡ is_commit d → ⊥

abbrev pub IsMisdecided : RunLogs → StampParts → Type 0
IsMisdecided k s = IsAway k s ⊎ (IsTwofold k s ⊎ IsMislearned k s)

-- the least of them, if there is one
abbrev pub IsFirstMisdecided : RunLogs → Option StampParts → Type 0
IsFirstMisdecided k None = (s : StampParts) → IsMisdecided k s → ⊥
IsFirstMisdecided k (Some s) = IsMisdecided k s × ((t : StampParts) → stamp_lt t s ≡ true → IsMisdecided k t → ⊥)

-- the run's sixteen repositories have these logs, oldest effect first
pub record HaveLogs (k : RunLogs) (logs : List (List Effect)) : Type 0 where
  pub count : k.repositories ≡ 16
  pub are : (r : ℕ) → log_of k r ≡ reverse (log_at logs r)

-- ---- on the way

-- the least so far is at most this
abbrev pub AtMost : Option StampParts → StampParts → Type 0
AtMost None s = ⊥
AtMost (Some t) s = stamp_lt s t ≡ false

-- what an effect of this repository's log says of a decision is kept, or the least so far is at most its stamp
abbrev pub IsKept : ℕ → Settled → Option StampParts → Effect → Type 0
IsKept r decided least (Decide s d) = ((r ≡ s.home) × (finite.get decided s ≡ Some (is_commit d))) ⊎ AtMost least s
IsKept r decided least f = Unit {0}

-- what it says was learned is what is kept
abbrev pub IsLearned : Settled → Option StampParts → Effect → Type 0
IsLearned decided least (Learn s c) = (finite.get decided s ≡ Some c) ⊎ AtMost least s
IsLearned decided least f = Unit {0}

-- what is kept are decisions of homes, and logs disagree on the least so far
pub record IsBased (k : RunLogs) (r : Rulings) : Type 0 where
  pub kept : (s : StampParts) (c : Bool) → finite.get r.decided s ≡ Some c → (d : Decision) × Has (Decide s d) (log_of k s.home) × (c ≡ is_commit d)
  pub least : (s : StampParts) → r.least ≡ Some s → IsMisdecided k s

-- each decision of a home is kept, or the least so far is at most its stamp
abbrev pub HasDecided : RunLogs → Rulings → Type 0
HasDecided k r = (s : StampParts) (d : Decision) → Has (Decide s d) (log_of k s.home) → (AtMost r.least s → ⊥) → finite.get r.decided s ≡ Some (is_commit d)

-- no decision was forgotten, and the least is no greater
pub record HasGrown (old new : Rulings) : Type 0 where
  pub kept : (s : StampParts) (c : Bool) → finite.get old.decided s ≡ Some c → finite.get new.decided s ≡ Some c
  pub least : (s : StampParts) → AtMost old.least s → AtMost new.least s

-- so of each of these logs, those of the repositories after this one
abbrev pub AreKept : Settled → Option StampParts → ℕ → List (List Effect) → Type 0
AreKept decided least n [] = Unit {0}
AreKept decided least n (log ∷ logs) = Every (IsKept (suc n) decided least) log × AreKept decided least (suc n) logs

abbrev pub AreLearned : Settled → Option StampParts → List (List Effect) → Type 0
AreLearned decided least logs = Every (Every (IsLearned decided least)) logs
