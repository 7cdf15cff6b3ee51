-- The archive of a repository: what the logs of its complete volumes say together. Logs stand in the order of the volumes, from volume 0 on, and their effects oldest first.
use Rattle.std.specs.Prelude.{ℕ, zero, suc, ℤ, Bool, true, List, [], ◌∷◌, map, reverse, slice_get, Option, Some, None, if◌then◌else◌}
use Rattle.pseudo_time.specs.TimeParts.{TimeParts}
use Rattle.value_form.specs.declared.objects.ObjectId.{ObjectId}
use Rattle.value_form.specs.declared.values.Value.{Value}
use Rattle.value_form.specs.declared.values.Value.TheVariants.{Nothing, Number, Text}
use Rattle.effect_form.specs.declared.effects.Effect.{Effect}
use Rattle.effect_form.specs.declared.effects.Effect.TheVariants.{Put, Stretch, Begin, Decide, Learn, Run, Act, Try, Got, Acked, End, Whole}
use Rattle.effect_form.specs.declared.effects.Effect.TheVariants as effect
use Rattle.object_history.specs.declared.marks.Mark.{Mark}
use Rattle.object_history.specs.Objects.{same_object}
use Rattle.repository_log.specs.Logs.{marks}
use Rattle.commit_watch.specs.declared.moved.Moved.{Moved}
use Rattle.commit_watch.specs.Lists.{or_before}
use Rattle.archive_store.specs.Joined.{holder_of, joined}
use Rattle.forward_copy.specs.Wholes.{has_whole}

-- ---- the complete volumes

-- a complete volume, and its log
pub record Complete : Type 0 where
  pub volume : ℕ
  pub log : List Effect

-- volume 0 is complete, and each whose log has a Whole
abbrev pub is_complete : ℕ → List Effect → Bool
is_complete zero log = true
is_complete (suc v) log = has_whole log

-- those among these volumes, the first of which is this one
abbrev pub complete_from : ℕ → List (List Effect) → List Complete
complete_from v [] = []
complete_from v (log ∷ logs) =
    if is_complete v log then record { volume = v; log = log } ∷ complete_from (suc v) logs else complete_from (suc v) logs

abbrev pub complete : List (List Effect) → List Complete
complete logs = complete_from 0 logs

-- ---- what they say

-- the marks of each
abbrev pub archive_of : List (List Effect) → List (List Mark)
archive_of logs = map (λ c. marks c.log) (complete logs)

-- which volumes they are
abbrev pub volumes_of : List (List Effect) → List ℕ
volumes_of logs = map (λ c. c.volume) (complete logs)

-- the marks of all of them together, oldest first
abbrev pub joined_marks : List (List Effect) → List Mark
joined_marks logs = joined (archive_of logs)

-- and newest first
abbrev pub newest_first : List (List Effect) → List Mark
newest_first logs = reverse (joined_marks logs)

abbrev pub volume_at : List ℕ → Option ℕ → Option ℕ
volume_at volumes None = None
volume_at volumes (Some place) = slice_get volumes place

-- of volumes with these marks, the last that has a put of the object with this start
abbrev pub holding_volume : List (List Mark) → List ℕ → ObjectId → TimeParts → Option ℕ
holding_volume archive volumes o x = volume_at volumes (holder_of o x archive)

-- ---- what a log of totals says

-- a number that is put for an object is its total, and the start is how far it was folded
abbrev pub number_put : ObjectId → TimeParts → Value → Option (Moved ℤ)
number_put o x Nothing = None
number_put o x (Number z) = Some (record { object = o; cursor = x; total = z })
number_put o x (Text bytes) = None

-- the total that an effect puts
abbrev pub total_put : Effect → Option (Moved ℤ)
total_put (Put o x v) = number_put o x v
total_put (Stretch o x) = None
total_put (Begin s d) = None
total_put (Decide s d) = None
total_put (Learn s c) = None
total_put (Run n) = None
total_put (Act i h t n c b) = None
total_put (Try i s) = None
total_put (Got k v) = None
total_put (Acked k) = None
total_put (End i e) = None
total_put (effect.Mark x) = None
total_put Whole = None

-- it, where it is one of the object
abbrev pub if_of : ObjectId → Option (Moved ℤ) → Option (Moved ℤ)
if_of o None = None
if_of o (Some t) = if same_object t.object o then Some t else None

-- the last total of the object that the log puts; it stands oldest first
unfoldable pub last_total : List Effect → ObjectId → Option (Moved ℤ)
last_total [] o = None
last_total (f ∷ log) o = or_before (last_total log o) (if_of o (total_put f))
