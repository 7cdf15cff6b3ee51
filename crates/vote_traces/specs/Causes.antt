-- Why a member decided as it did.
use Rattle.std.specs.Prelude.{◌≡◌, ℕ, ◌≤◌, List, [], ◌∷◌, ◌++◌, Some}
use Rattle.pseudo_time.specs.Lists.{Has}
use Rattle.pseudo_time.specs.StampParts.{StampParts}
use Rattle.pseudo_time.specs.declared.decisions.Decision.{Decision}
use Rattle.pseudo_time.specs.declared.decisions.Decision.TheVariants as decision
use Rattle.effect_form.specs.declared.effects.Effect.{Effect}
use Rattle.effect_form.specs.declared.effects.Effect.TheVariants as effect
use Rattle.message_core.specs.Tallies.{numbered}
use Rattle.repository_log.specs.Logs.{first_begin}
use Rattle.record_votes.specs.declared.ballots.Wish.{Wish}
use Rattle.record_votes.specs.declared.ballots.Wish.TheVariants as wish
use Rattle.record_votes.specs.Members.{book}
use Rattle.record_votes.specs.Voting.{Line}
use Rattle.world_core.specs.declared.entries.Entry.{Entry}
use Rattle.world_core.specs.declared.entries.Entry.TheVariants.{Tick}

-- some poll's line has this stamp and this wish
pub record IsWanted (lines : List Line) (s : StampParts) (w : Wish) : Type 0 where
  pub poll : ℕ
  pub line : Line
  pub there : numbered lines poll ≡ Some line
  pub stamp : line.stamp ≡ s
  pub wish : line.wish ≡ w

-- A poll wished it so; or the record has this deadline by the log so far, and the moment of a Tick isn't below it. The log stands oldest first.
abbrev pub IsCaused : List Line → List Entry → List Effect → StampParts → Decision → Type 0
IsCaused lines es log s decision.Committed = IsWanted lines s wish.Commit
IsCaused lines es log s decision.Withdrawn = IsWanted lines s wish.Withdraw
IsCaused lines es log s (decision.Expired deadline moment) = (first_begin (book log) s ≡ Some deadline) × Has (Tick moment) es × (deadline ≤ moment)

abbrev pub HasCause : List Line → List Entry → List Effect → Effect → Type 0
HasCause lines es log e = elim e [ effect.Decide s d ↦ IsCaused lines es log s d | _ ↦ Unit {0} ]

-- each Decide among these has its cause, where this log stands before them
abbrev pub HaveCauses : List Line → List Entry → List Effect → List Effect → Type 0
HaveCauses lines es log [] = Unit {0}
HaveCauses lines es log (e ∷ more) = HasCause lines es log e × HaveCauses lines es (log ++ e ∷ []) more
