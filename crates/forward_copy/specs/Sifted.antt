-- Which effects of a log a retirement carries forward, and which it leaves behind. Logs stand newest first, where nothing else is said.
use Rattle.std.specs.Prelude.{Bool, true, false, List, [], ◌∷◌, ◌++◌, reverse, not, if◌then◌else◌}
use Rattle.pseudo_time.specs.TimeParts.{TimeParts}
use Rattle.pseudo_time.specs.Order.{lt}
use Rattle.effect_form.specs.declared.effects.Effect.{Effect}
use Rattle.effect_form.specs.declared.effects.Effect.TheVariants.{Put, Stretch, Begin, Decide, Learn, Run, Act, Try, Got, Acked, End, Mark, Whole}
use Rattle.object_history.specs.History.{version_count}
use Rattle.repository_log.specs.Logs.{marks}
use Rattle.object_retirement.specs.Retired.{stays_put}

-- An effect of the whole log stays, with these below it. All do but Marks, Wholes, Stretches at or below the mark, and each Put below it
-- that isn't the committed one of its object with the greatest start below it.
abbrev pub stays : List Effect → TimeParts → List Effect → Effect → Bool
stays all at l (Put o x v) = stays_put (marks all) at o x (version_count o (marks l))
stays all at l (Stretch o x) = lt at x
stays all at l (Mark x) = false
stays all at l Whole = false
stays all at l (Begin s d) = true
stays all at l (Decide s d) = true
stays all at l (Learn s c) = true
stays all at l (Run n) = true
stays all at l (Act i h t n c b) = true
stays all at l (Try i s) = true
stays all at l (Got k v) = true
stays all at l (Acked k) = true
stays all at l (End i e) = true

-- the effects that pass the test, which is asked of each with those below it
abbrev pub sifted : (List Effect → Effect → Bool) → List Effect → List Effect
sifted test [] = []
sifted test (f ∷ l) = if test l f then f ∷ sifted test l else sifted test l

-- what is left behind of a log that stands oldest first
abbrev pub left_behind : List Effect → TimeParts → List Effect
left_behind log at = reverse (sifted (λ l f. not (stays (reverse log) at l f)) (reverse log))

-- the mark, what is kept, and a Whole
abbrev pub between : TimeParts → List Effect → List Effect
between at kept = Mark at ∷ kept ++ Whole ∷ []
