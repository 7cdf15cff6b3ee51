-- Which requests, and which answers to them, have bytes.
use Rattle.value_form.specs.declared.values.Value.{Value}
use Rattle.value_form.specs.ObjectBytes.{IsObject}
use Rattle.value_form.specs.ValueBytes.{IsValue}
use Rattle.script_meaning.specs.Meaning.{Answer, Got, Stored}
use Rattle.serial_model.specs.Ranges.{EndingInRange}
use Rattle.serial_model.specs.Questions.{Tree, Ends, Says, Reads, Writes}

-- where the answers have bytes, so have the objects and values of all requests, and the ending is in range
abbrev pub AsksInRange : Tree → Type 0
AsksInRange (Ends e) = EndingInRange e
AsksInRange (Says a t) = AsksInRange t
AsksInRange (Reads o k) = IsObject o × ((a : Value) → IsValue a → AsksInRange (k a))
AsksInRange (Writes o a t) = (IsObject o × IsValue a) × AsksInRange t

-- what was read has bytes
abbrev pub AnswerHasBytes : Answer → Type 0
AnswerHasBytes (Got a) = IsValue a
AnswerHasBytes Stored = Unit {0}
