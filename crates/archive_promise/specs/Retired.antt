-- What a retirement makes of a repository's volumes, whatever past left them.
use Rattle.std.specs.Prelude.{◌≡◌, ◌⊎◌, ℕ, ◌≤◌, true, List, [], ◌∷◌, ◌++◌, length, reverse}
use Rattle.pseudo_time.specs.TimeParts.{TimeParts}
use Rattle.effect_form.specs.declared.effects.Effect.{Effect}
use Rattle.object_retirement.specs.Forward.{MayRetire, forward}
use Rattle.forward_copy.specs.Currents.{node_log}
use Rattle.forward_copy.specs.Wholes.{has_whole}
use Rattle.archive_law.specs.Earlier.{Earlier}
use Rattle.archive_law.specs.Earlier.Earlier.{Retiring}
use Rattle.archive_promise.specs.Answered.{WereLeft}

module _ (r : ℕ) (at : TimeParts) (before after : List (List Effect)) where
  -- the volumes are left by the calls that left them before, and then by a retirement at the mark
  abbrev pub GoesOn : Type 0
  GoesOn = (cs : List Earlier) → WereLeft cs r before → WereLeft (Retiring r at ∷ cs) r after

  -- they are left by the same calls still
  abbrev pub StaysSo : Type 0
  StaysSo = (cs : List Earlier) → WereLeft cs r before → WereLeft cs r after

  -- one of the two
  abbrev pub MayGoOn : Type 0
  MayGoOn = (cs : List Earlier) → WereLeft cs r before → WereLeft (Retiring r at ∷ cs) r after ⊎ WereLeft cs r after

-- The last of these volumes, which isn't volume 0, was empty, and the log may be retired at the mark. If the last volume has this log, that has a Whole only if it is all that is carried forward.
pub record IsCarried (at : TimeParts) (front : List (List Effect)) (log : List Effect) : Type 0 where
  pub some : 1 ≤ length front
  pub may : MayRetire (reverse (node_log (front ++ [] ∷ []))) at
  pub whole : has_whole log ≡ true → log ≡ forward (node_log (front ++ [] ∷ [])) at
