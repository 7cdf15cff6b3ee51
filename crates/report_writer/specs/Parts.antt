-- The texts of stamps, objects, lines and kinds of failures.
use Rattle.std.specs.Prelude.{ℕ, List, [], ◌∷◌, ◌++◌, codes}
use Rattle.std.specs.Fmt.{decimal}
use Rattle.pseudo_time.specs.StampParts.{StampParts}
use Rattle.pseudo_time.specs.TimeParts.{TimeParts}
use Rattle.value_form.specs.declared.fail_kinds.FailKind.{FailKind}
use Rattle.value_form.specs.declared.fail_kinds.FailKind.TheVariants as kind
use Rattle.value_form.specs.declared.objects.ObjectId.{ObjectId}
use Rattle.value_form.specs.declared.transcripts.Line.{Line}
use Rattle.value_form.specs.declared.transcripts.Line.TheVariants as line
use Rattle.value_form.specs.declared.values.Value.{Value}
use Rattle.value_form.specs.ValueText.{value_text}

-- `REPOSITORY.NUMBER`
abbrev pub object_text : ObjectId → List ℕ
object_text o = decimal o.repository ++ 46 ∷ decimal o.number

-- `CLOCK.BROKER.HOME`
abbrev pub stamp_text : StampParts → List ℕ
stamp_text s = decimal s.clock ++ 46 ∷ (decimal s.broker ++ 46 ∷ decimal s.home)

-- `CLOCK.BROKER.HOME/STEP`
abbrev pub time_text : TimeParts → List ℕ
time_text t = stamp_text t.stamp ++ 47 ∷ decimal t.step

-- a word, an object and a value
abbrev pub access_text : List ℕ → ObjectId → Value → List ℕ
access_text word object value = word ++ (object_text object ++ 32 ∷ (value_text value ++ 10 ∷ []))

-- a line of a transcript
abbrev pub line_text : Line → List ℕ
line_text (line.Read object value) = access_text (codes "read ") object value
line_text (line.Wrote object value) = access_text (codes "wrote ") object value
line_text (line.Print value) = codes "print " ++ (value_text value ++ 10 ∷ [])

abbrev pub kind_text : FailKind → List ℕ
kind_text kind.Overflow = codes "overflow"
kind_text kind.Division = codes "division"
kind_text kind.Kind = codes "kind"
kind_text kind.Long = codes "long"
kind_text kind.Object = codes "object"
kind_text kind.Count = codes "count"
kind_text kind.Budget = codes "budget"
