-- How many attempts and versions there are.
use Rattle.std.specs.Prelude.{ℕ, ◌+◌, ◌-◌, ◌^◌, min, Bool, true, false, not, List, [], ◌∷◌, if◌then◌else◌, is_none}
use Rattle.std.specs.List.{count_by}
use Rattle.effect_form.specs.declared.effects.Effect.{Effect}
use Rattle.effect_form.specs.declared.effects.Effect.TheVariants.{Put}
use Rattle.script_replay.specs.declared.attempts.Told.{Told}
use Rattle.script_replay.specs.declared.attempts.Told.TheVariants.{Given, Tried}
use Rattle.replay_command.specs.declared.counts.Counts.{Counts}

abbrev pub is_tried : Told → Bool
is_tried (Tried a) = true
is_tried (Given s ps) = false

abbrev pub is_committed : Told → Bool
is_committed (Tried a) = a.committed
is_committed (Given s ps) = false

abbrev pub is_open : Told → Bool
is_open (Tried a) = is_none a.ended
is_open (Given s ps) = false

-- attempts, committed ones, those without an End, and stamps of versions whose broker has no log
abbrev pub counts_of : List Told → Counts
counts_of told = record {
  attempts = count_by is_tried told;
  committed = count_by is_committed told;
  unended = count_by is_open told;
  given = count_by (λ x. not (is_tried x)) told;
}

abbrev pub with : ℕ → Bool → ℕ
with count is = if is then count + 1 else count

-- ---- versions

abbrev pub is_put : Effect → Bool
is_put (Put o x v) = true
is_put _ = false

-- a count goes no further than this
abbrev pub capped : ℕ → ℕ
capped n = min n (2 ^ 64 - 1)

abbrev pub puts_in : List Effect → ℕ
puts_in log = capped (count_by is_put log)

-- the versions that these logs put
unfoldable pub all_puts : List (List Effect) → ℕ
all_puts [] = 0
all_puts (log ∷ logs) = count_by is_put log + all_puts logs

abbrev pub versions_in : List (List Effect) → ℕ
versions_in logs = capped (all_puts logs)
