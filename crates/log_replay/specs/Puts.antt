-- The versions of each stamp in repositories' logs, as the code keeps them.
use Rattle.std.specs.Prelude.{List, [], ◌∷◌, reverse, Option, Some, None}
use Rattle.std.specs.BTreeMap.{BTreeMap, get}
use Rattle.std.specs.Global.{Vec}
use Rattle.pseudo_time.specs.StampParts.{StampParts, stamp_cmp}
use Rattle.effect_form.specs.declared.effects.Effect.{Effect}
use Rattle.repository_core.specs.Logs.{marks}
use Rattle.serial_model.specs.Deeds.{Version}
use Rattle.world_core.specs.Deeds.{puts_of}
use Rattle.script_replay.specs.Attempts.{versions_of}
use Rattle.script_replay.specs.declared.attempts.Put.{Put}

abbrev pub versions_in : Option (Vec Put) → List Version
versions_in None = []
versions_in (Some ps) = versions_of ps.items

-- what a map of versions has of the stamp
abbrev pub puts_at : BTreeMap StampParts (Vec Put) → StampParts → List Version
puts_at puts s = versions_in (get stamp_cmp puts s)

-- with those of these logs, each oldest effect first
unfoldable pub puts_by : StampParts → List (List Effect) → List Version → List Version
puts_by s [] ps = ps
puts_by s (log ∷ logs) ps = puts_by s logs (puts_of s (marks (reverse log)) ps)
