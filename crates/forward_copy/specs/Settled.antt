-- What the code keeps of how attempts were decided. Logs stand newest first.
use Rattle.std.specs.Prelude.{◌≡◌, Bool, List, Option, Some, None, if◌then◌else◌}
use Rattle.std.specs.FinMap as finite
use Rattle.pseudo_time.specs.StampParts.{StampParts}
use Rattle.pseudo_time.specs.Order.{same_stamp}
use Rattle.pseudo_time.specs.declared.decisions.Decision.{Decision}
use Rattle.effect_form.specs.declared.effects.Effect.{Effect}
use Rattle.object_history.specs.History.{or_else}
use Rattle.object_history.specs.Kept.{Settled}
use Rattle.repository_log.specs.Logs.{is_commit, known}

-- how an attempt was decided, once it was: the first decision counts
abbrev pub with_decision : Option (StampParts × Decision) → StampParts → Option Bool → Option Bool
with_decision None s before = before
with_decision (Some e) s before = if same_stamp e.0 s then or_else before (is_commit e.1) else before

-- the map has each attempt as the log knows it
abbrev pub AreKnown : List Effect → Settled → Type 0
AreKnown l settled = (s : StampParts) → finite.get settled s ≡ known l s
