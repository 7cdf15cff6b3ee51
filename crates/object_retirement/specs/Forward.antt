-- The log that a retirement at a mark carries forward: the mark, then what stays of the log's effects in their order, then a Whole.
use Rattle.std.specs.Prelude.{◌≡◌, List, [], ◌∷◌, reverse, if◌then◌else◌}
use Rattle.pseudo_time.specs.TimeParts.{TimeParts}
use Rattle.pseudo_time.specs.Order.{lt}
use Rattle.effect_form.specs.declared.effects.Effect.{Effect}
use Rattle.effect_form.specs.declared.effects.Effect.TheVariants.{Put, Stretch, Mark, Whole}
use Rattle.object_history.specs.History.{version_count}
use Rattle.repository_log.specs.Logs.{marks}
use Rattle.object_retirement.specs.Retired.{stays_put}
use Rattle.object_retirement.specs.Retired as histories

-- What stays of a prefix of the log, over the mark; `all` is the whole log. Logs stand newest first here. Left out are Marks,
-- Wholes, Stretches at or below the mark, and each Put below it that isn't the committed one of its object with the greatest
-- start below it.
abbrev pub carried : List Effect → TimeParts → List Effect → List Effect
carried all at [] = Mark at ∷ []
carried all at (Put o x v ∷ l) = if stays_put (marks all) at o x (version_count o (marks l)) then Put o x v ∷ carried all at l else carried all at l
carried all at (Stretch o x ∷ l) = if lt at x then Stretch o x ∷ carried all at l else carried all at l
carried all at (Mark x ∷ l) = carried all at l
carried all at (Whole ∷ l) = carried all at l
carried all at (f ∷ l) = f ∷ carried all at l

-- the whole of it, newest first
abbrev pub forwarded : List Effect → TimeParts → List Effect
forwarded l at = Whole ∷ carried l at l

-- the same of a log that stands oldest first, as a volume has it
abbrev pub forward : List Effect → TimeParts → List Effect
forward log at = reverse (forwarded (reverse log) at)

-- a log, newest first, may be retired at the mark: that is the first of its stamp's pseudotimes, all versions below it are decided, and a floor, if any, lies below it
pub record MayRetire (l : List Effect) (at : TimeParts) : Type 0 where
  pub first : at.step ≡ 1
  pub history : histories.MayRetire (marks l) at
