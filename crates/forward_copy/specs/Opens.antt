-- How the code finds the first undecided version below a mark. Logs stand newest first.
use Rattle.std.specs.Prelude.{Bool, List, [], ◌∷◌, Option, Some, None, if◌then◌else◌}
use Rattle.std.specs.Ordering.{is_lt, ordering_then}
use Rattle.std.specs.declared.cmp.Ordering.{Ordering}
use Rattle.pseudo_time.specs.StampParts.{StampParts}
use Rattle.pseudo_time.specs.TimeParts.{TimeParts, time_cmp}
use Rattle.pseudo_time.specs.Order.{lt}
use Rattle.value_form.specs.Objects.{object_cmp}
use Rattle.effect_form.specs.declared.effects.Effect.{Effect}
use Rattle.effect_form.specs.declared.effects.Effect.TheVariants.{Put, Stretch, Begin, Decide, Learn, Run, Act, Try, Got, Acked, End, Mark, Whole}
use Rattle.forward_copy.specs.declared.versions.Version.{Version}

-- the version below the mark that an effect puts
abbrev pub put_below : TimeParts → Effect → Option Version
put_below at (Put o x v) = if lt x at then Some (record { object = o; start = x }) else None
put_below at (Stretch o x) = None
put_below at (Begin s d) = None
put_below at (Decide s d) = None
put_below at (Learn s c) = None
put_below at (Run n) = None
put_below at (Act i h t n c b) = None
put_below at (Try i s) = None
put_below at (Got k v) = None
put_below at (Acked k) = None
put_below at (End i e) = None
put_below at (Mark x) = None
put_below at Whole = None

-- by object, then start
abbrev pub version_cmp : Version → Version → Ordering
version_cmp a b = ordering_then (object_cmp a.object b.object) (time_cmp a.start b.start)

abbrev pub lesser : Version → Option Version → Version
lesser v None = v
lesser v (Some w) = if is_lt (version_cmp w v) then w else v

-- the first, with this version of an attempt that was decided so
abbrev pub when_open : Option Bool → Version → Option Version → Option Version
when_open None v first = Some (lesser v first)
when_open (Some c) v first = first

-- and with this one, if it is one
abbrev pub with_version : (StampParts → Option Bool) → Option Version → Option Version → Option Version
with_version settled None first = first
with_version settled (Some v) first = when_open (settled v.start.stamp) v first

-- the first of the undecided versions below the mark
abbrev pub first_open : (StampParts → Option Bool) → TimeParts → List Effect → Option Version
first_open settled at [] = None
first_open settled at (f ∷ l) = with_version settled (put_below at f) (first_open settled at l)
