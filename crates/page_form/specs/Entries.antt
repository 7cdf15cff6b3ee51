-- A log: effects, each with its place and its back place.
use Rattle.std.specs.Prelude.{◌≡◌, ℕ, ◌+◌, ◌*◌, ◌<◌, List, [], ◌∷◌, length, map, Bool, true, false, ◌==◌, ◌&&◌, if◌then◌else◌, Option, Some, None, slice_index_or}
use Rattle.std.specs.Ordering.{is_eq}
use Rattle.value_form.specs.declared.objects.ObjectId.{ObjectId}
use Rattle.value_form.specs.Objects.{object_cmp}
use Rattle.effect_form.specs.declared.effects.Effect.{Effect}
use Rattle.effect_form.specs.declared.effects.Effect.TheVariants.{Put, Stretch, Begin, Decide, Learn, Run, Act, Try, Got, Acked, End, Mark, Whole}
use Rattle.effect_form.specs.declared.effects.Place.{Place}

-- an effect, where it stands, and the back place that it has there
pub record Entry : Type 0 where
  pub effect : Effect
  pub place : Place
  pub back : Option Place

abbrev pub Log : Type 0
Log = List Entry

abbrev pub effects_of : Log → List Effect
effects_of log = map (λ (e : Entry). e.effect) log

-- the entry is in the log, as its i-th
abbrev pub IsIn : Log → Entry → ℕ → Type 0
IsIn log e i = (i < length log) × (slice_index_or log i e ≡ e)

-- ---- back places

-- the object of which the effect is a Put
abbrev pub put_object : Effect → Option ObjectId
put_object (Put object start v) = Some object
put_object (Stretch object at) = None
put_object (Begin stamp deadline) = None
put_object (Decide stamp decision) = None
put_object (Learn stamp committed) = None
put_object (Run number) = None
put_object (Act index home timeout tries clock script) = None
put_object (Try index stamp) = None
put_object (Got step v) = None
put_object (Acked step) = None
put_object (End index outcome) = None
put_object (Mark at) = None
put_object Whole = None

abbrev pub is_object : Option ObjectId → ObjectId → Bool
is_object None object = false
is_object (Some put) object = is_eq (object_cmp put object)

-- the place of the object's last Put in a log, or this one where it has none
abbrev pub last_from : Option Place → Log → ObjectId → Option Place
last_from before [] object = before
last_from before (e ∷ log) object = last_from (if is_object (put_object e.effect) object then Some e.place else before) log object

abbrev pub last_put : Log → ObjectId → Option Place
last_put log object = last_from None log object

-- the back place that an effect has behind a log: where it is a Put, that of the object's last Put
abbrev pub back_of : Log → Option ObjectId → Option Place
back_of log None = None
back_of log (Some object) = last_put log object

abbrev pub back_in : Log → Effect → Option Place
back_in log effect = back_of log (put_object effect)

-- one place is before another: on an earlier page, or earlier on its page
abbrev pub number_of : Place → ℕ
number_of p = 65536 * p.page + p.offset

abbrev pub IsBefore : Place → Place → Type 0
IsBefore a b = number_of a < number_of b

-- ---- tests

abbrev pub same_back : Option Place → Option Place → Bool
same_back None None = true
same_back None (Some b) = false
same_back (Some a) None = false
same_back (Some a) (Some b) = (a.page == b.page) && (a.offset == b.offset)
