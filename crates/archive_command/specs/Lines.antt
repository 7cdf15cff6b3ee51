-- The texts that `asof` and `audit` write.
use Rattle.std.specs.Prelude.{ℕ, Bool, List, [], ◌∷◌, ◌++◌, codes, Option, Some, None}
use Rattle.std.specs.List.{flat_map}
use Rattle.pseudo_time.specs.TimeParts.{TimeParts}
use Rattle.value_form.specs.declared.objects.ObjectId.{ObjectId}
use Rattle.value_form.specs.declared.values.Value.{Value}
use Rattle.value_form.specs.declared.values.Value.TheVariants.{Nothing, Number, Text}
use Rattle.value_form.specs.ValueText.{value_text}
use Rattle.commit_watch.specs.declared.moved.Moved.{Moved}
use Rattle.report_writer.specs.Histories.{state_text}
use Rattle.report_writer.specs.Parts.{access_text, object_text, time_text}
use Rattle.report_writer.specs.Reports.{named}

-- ---- the map as of a mark

abbrev pub mark_text : TimeParts → List ℕ
mark_text at = codes " mark " ++ (time_text at ++ 10 ∷ [])

abbrev pub asof_head : ℕ → TimeParts → List ℕ
asof_head repository at = named (codes "asof repository ") repository ++ mark_text at

-- the line of an object; one whose value is Nothing has none
abbrev pub value_line : ObjectId → Value → List ℕ
value_line object Nothing = []
value_line object (Number z) = access_text (codes "value ") object (Number z)
value_line object (Text bytes) = access_text (codes "value ") object (Text bytes)

abbrev pub moved_line : Moved Value → List ℕ
moved_line w = value_line w.object w.total

abbrev pub asof_text : ℕ → TimeParts → List (Moved Value) → List ℕ
asof_text repository at list = asof_head repository at ++ flat_map moved_line list

-- ---- the versions of an object

abbrev pub audit_head : ObjectId → List ℕ
audit_head object = codes "audit " ++ (object_text object ++ 10 ∷ [])

abbrev pub volume_text : Option ℕ → List ℕ
volume_text None = []
volume_text (Some volume) = named (codes " volume ") volume

-- its start, and how it was decided
abbrev pub version_front : TimeParts → Option Bool → List ℕ
version_front start state = codes "version " ++ (time_text start ++ (32 ∷ (state_text state ++ 32 ∷ [])))

-- its value, and the volume that has it
abbrev pub version_back : Value → Option ℕ → List ℕ
version_back value volume = value_text value ++ (volume_text volume ++ 10 ∷ [])

abbrev pub version_line : TimeParts → Option Bool → Value → Option ℕ → List ℕ
version_line start state value volume = version_front start state ++ version_back value volume
