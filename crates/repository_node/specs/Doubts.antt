-- Which stamps are in doubt by a repository's log, and which it decided itself. A log is a list with the oldest effect first.
use Rattle.std.specs.Prelude.{◌≡◌, ℕ, Bool, true, false, List, [], ◌∷◌, ◌==◌, ◌&&◌, not, reverse, Option, None, if◌then◌else◌}
use Rattle.std.specs.List.{filter, flat_map, list_any}
use Rattle.pseudo_time.specs.Lists.{Has}
use Rattle.pseudo_time.specs.StampParts.{StampParts}
use Rattle.pseudo_time.specs.declared.decisions.Decision.{Decision}
use Rattle.effect_form.specs.declared.effects.Effect.{Effect}
use Rattle.effect_form.specs.declared.effects.Effect.TheVariants as effect
use Rattle.repository_log.specs.Logs.{known, knows}

-- the stamp of a version, if its home isn't this repository
abbrev pub given_by : ℕ → Effect → List StampParts
given_by r e = elim e [ effect.Put o x v ↦ if x.stamp.home == r then [] else x.stamp ∷ [] | _ ↦ [] ]

-- the stamps of all versions in a repository's log whose home is another, in order, one for each version
abbrev pub given : ℕ → List Effect → List StampParts
given r log = flat_map (given_by r) log

-- The stamps in doubt: of versions in the log whose home is another, and the log doesn't know how they were decided.
abbrev pub doubts : ℕ → List Effect → List StampParts
doubts r log = filter (λ s. not (knows log s)) (given r log)

-- it learned a decision of its own
abbrev pub is_own_learn : ℕ → Effect → Bool
is_own_learn r e = elim e [ effect.Learn s c ↦ s.home == r | _ ↦ false ]

-- The repository decided for itself whatever its log knows of its own stamps: so it is in each log that runs left.
abbrev pub is_plain : ℕ → List Effect → Bool
is_plain r log = not (list_any (is_own_learn r) log)

-- how a repository decided the stamp, as its home, by its log
abbrev pub decided_at : ℕ → List Effect → StampParts → Option Bool
decided_at r log s = if (s.home == r) && is_plain r log then known (reverse log) s else None

-- the stamp's home, by its log, decided it
abbrev pub HasDecided : List Effect → StampParts → Type 0
HasDecided home s = (is_plain s.home home ≡ true) × (d : Decision) × Has (effect.Decide s d) home
