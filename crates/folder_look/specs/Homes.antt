-- How the home of an attempt decided it, for versions whose own repository hasn't learned it.
use Rattle.std.specs.Prelude.{Bool, true, false, List, [], ◌∷◌, Option, Some, None, if◌then◌else◌}
use Rattle.std.specs.FinMap as finite
use Rattle.effect_form.specs.declared.effects.Effect.{Effect}
use Rattle.effect_form.specs.declared.effects.Effect.TheVariants as effect
use Rattle.object_history.specs.Kept.{Settled}
use Rattle.repository_log.specs.Logs.{is_commit}
use Rattle.folder_look.specs.declared.looks.MediumLook.{MediumLook}
use Rattle.folder_look.specs.declared.looks.VersionRow.{VersionRow}
use Rattle.folder_look.specs.Volumes.{is_log}

-- ---- what homes decided

-- with the decision that an effect is
abbrev pub with_decision : Effect → Settled → Settled
with_decision (effect.Decide s d) all = finite.insert all s (is_commit d)
with_decision (effect.Learn s c) all = all
with_decision (effect.Put o x v) all = all
with_decision (effect.Stretch o x) all = all
with_decision (effect.Run n) all = all
with_decision (effect.Act i h t k c x) all = all
with_decision (effect.Try i s) all = all
with_decision (effect.Got k v) all = all
with_decision (effect.Acked k) all = all
with_decision (effect.End i o) all = all
with_decision (effect.Mark at) all = all
with_decision effect.Whole all = all
with_decision (effect.Begin s d) all = all

abbrev pub with_decisions : List Effect → Settled → Settled
with_decisions [] all = all
with_decisions (e ∷ es) all = with_decisions es (with_decision e all)

abbrev pub with_homes : List MediumLook → Settled → Settled
with_homes [] all = all
with_homes (m ∷ ms) all = with_homes ms (if is_log m then with_decisions m.log all else all)

-- the decisions in the logs of all repositories
abbrev pub homes_of : List MediumLook → Settled
homes_of media = with_homes media finite.empty

-- ---- versions

abbrev pub is_open : Option Bool → Bool
is_open None = true
is_open (Some c) = false

-- decided so by its home, which its repository hasn't learned
abbrev pub told_as : Option Bool → VersionRow → VersionRow
told_as None v = v
told_as (Some c) v = record { start = v.start; end = v.end; state = Some c; settled = false; value = v.value; older = v.older }

-- one that is undecided in its repository, as its home decided it
abbrev pub told_at_home : Settled → VersionRow → VersionRow
told_at_home homes v = if is_open v.state then told_as (finite.get homes v.start.stamp) v else v
