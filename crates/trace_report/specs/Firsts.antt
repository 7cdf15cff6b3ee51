-- What a log says first of how each attempt was decided. Logs stand newest first.
use Rattle.std.specs.Prelude.{◌≡◌, Bool, true, false, List, [], ◌∷◌, Option, Some, None}
use Rattle.std.specs.FinMap as finite
use Rattle.pseudo_time.specs.StampParts.{StampParts, stamp_cmp}
use Rattle.effect_form.specs.declared.effects.Effect.{Effect}
use Rattle.effect_form.specs.declared.effects.Effect.TheVariants as effect
use Rattle.repository_log.specs.Logs.{is_commit, first_said}
use Rattle.trace_report.specs.declared.firsts.First.{First}
use Rattle.trace_report.specs.declared.firsts.First.TheVariants.{Decided, Learned}

abbrev pub Said : Type 0
Said = finite.FinMap stamp_cmp First

abbrev pub said_by : Effect → Option (StampParts × First)
said_by (effect.Decide s d) = Some (s, Decided (is_commit d))
said_by (effect.Learn s c) = Some (s, Learned c)
said_by (effect.Begin s d) = None
said_by (effect.Put o x v) = None
said_by (effect.Stretch o x) = None
said_by (effect.Run n) = None
said_by (effect.Act i h t n c b) = None
said_by (effect.Try i s) = None
said_by (effect.Got k v) = None
said_by (effect.Acked k) = None
said_by (effect.End i e) = None
said_by (effect.Mark at) = None
said_by effect.Whole = None

unfoldable pub first_of : List Effect → StampParts → Option First
first_of [] s = None
first_of (f ∷ log) s = first_said (said_by f) (first_of log s) s

-- the map has what the log says first of each attempt
abbrev pub AreFirsts : List Effect → Said → Type 0
AreFirsts log said = (s : StampParts) → finite.get said s ≡ first_of log s

abbrev pub is_decided : Option First → Bool
is_decided (Some (Decided true)) = true
is_decided _ = false

abbrev pub is_learned : Option First → Bool
is_learned (Some (Learned true)) = true
is_learned _ = false
