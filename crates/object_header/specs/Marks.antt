-- The marks of a log's effects, both newest first.
use Rattle.std.specs.Prelude.{◌≡◌, ◌≤◌, length, take, ℕ, ◌+◌, Bool, true, false, List, [], ◌∷◌, Option, Some, None, ◌++◌, reverse, if◌then◌else◌, ◌&&◌}
use Rattle.std.specs.Option.{option_to_list}
use Rattle.pseudo_time.specs.TimeParts.{TimeParts}
use Rattle.value_form.specs.declared.values.Value.{Value}
use Rattle.effect_form.specs.declared.effects.Effect.{Effect}
use Rattle.effect_form.specs.declared.effects.Effect.TheVariants.{Put, Stretch, Begin, Decide, Learn, Run, Act, Try, Got, Acked, End}
use Rattle.effect_form.specs.declared.effects.Effect.TheVariants as effect
use Rattle.effect_form.specs.declared.effects.Place.{Place}
use Rattle.object_history.specs.declared.marks.Mark.{Mark}
use Rattle.object_history.specs.History.{at_put}
use Rattle.version_store.specs.Entries.{Log, effects_of, last_put, number_of}
use Rattle.value_form.specs.declared.objects.ObjectId.{ObjectId}
use Rattle.object_history.specs.Objects.{same_object}
use Rattle.repository_log.specs.Logs.{marks}
use Rattle.object_header.specs.Heads.{first_put}

-- with this mark, if there is one
abbrev pub added : Option Mark → List Mark → List Mark
added f m = option_to_list f ++ m

-- the start and the value of a Put whose start passes
abbrev pub put_found : (TimeParts → Bool) → Effect → Option (TimeParts × Value)
put_found ok (Put o x v) = if ok x then Some (x, v) else None
put_found ok (Stretch o x) = None
put_found ok (Decide s d) = None
put_found ok (Learn s c) = None
put_found ok (Begin s d) = None
put_found ok (Run n) = None
put_found ok (Act i h t n c b) = None
put_found ok (Try i s) = None
put_found ok (Got k v) = None
put_found ok (Acked k) = None
put_found ok (End i e) = None
put_found ok (effect.Mark at) = None
put_found ok effect.Whole = None

-- a mark is a version of the object whose start passes
abbrev pub is_here : (TimeParts → Bool) → ObjectId → Mark → Bool
is_here ok o f = at_put (λ a x v below. same_object a o && ok x) f false

-- the start and the value of a version
abbrev pub mark_put : Mark → Option (TimeParts × Value)
mark_put f = at_put (λ a x v below. Some (x, v)) f None

-- how far a place is from the front of the pages
abbrev pub depth : Option Place → ℕ
depth None = 0
depth (Some p) = number_of p + 1

-- ---- a walk by back places

abbrev pub marks_in : Log → List Mark
marks_in log = marks (reverse (effects_of log))

-- what is left of a log is its first entries: the object's last one there stands at this place, and those behind them don't pass
pub record Walks (ok : TimeParts → Bool) (o : ObjectId) (log : Log) (place : Option Place) : Type 0 where
  pub left : ℕ
  pub within : left ≤ length log
  pub at : place ≡ last_put (take left log) o
  pub first : first_put ok o (marks_in log) ≡ first_put ok o (marks_in (take left log))
