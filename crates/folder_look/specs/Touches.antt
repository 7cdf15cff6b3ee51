-- Which object an attempt read or wrote at a step, as the logs of the repositories have it.
use Rattle.std.specs.Prelude.{ℕ, List, [], ◌∷◌, Option, Some, None, ◌==◌, if◌then◌else◌}
use Rattle.std.specs.FinMap as finite
use Rattle.pseudo_time.specs.StampParts.{StampParts}
use Rattle.pseudo_time.specs.TimeParts.{time_cmp}
use Rattle.effect_form.specs.declared.effects.Effect.{Effect}
use Rattle.effect_form.specs.declared.effects.Effect.TheVariants as effect
use Rattle.folder_look.specs.declared.touches.Touch.{Touch}

-- by the pseudotime of the step
abbrev pub Touched : Type 0
Touched = finite.FinMap time_cmp Touch

-- with what an effect says: a Put has the value that was written, a Stretch has none
abbrev pub with_touch : Effect → Touched → Touched
with_touch (effect.Put o x v) all = finite.insert all x (record { object = o; value = Some v })
with_touch (effect.Stretch o x) all = finite.insert all x (record { object = o; value = None })
with_touch (effect.Run n) all = all
with_touch (effect.Act i h t k c x) all = all
with_touch (effect.Try i s) all = all
with_touch (effect.Got k v) all = all
with_touch (effect.Acked k) all = all
with_touch (effect.End i o) all = all
with_touch (effect.Mark at) all = all
with_touch effect.Whole all = all
with_touch (effect.Begin s d) all = all
with_touch (effect.Decide s d) all = all
with_touch (effect.Learn s c) all = all

abbrev pub with_log : List Effect → Touched → Touched
with_log [] all = all
with_log (e ∷ es) all = with_log es (with_touch e all)

-- what a step of an attempt touched, if that is known; steps count from 1
abbrev pub touch_at : Touched → StampParts → ℕ → Option Touch
touch_at touched s k = if k == 0 then None else finite.get touched (record { stamp = s; step = k })
