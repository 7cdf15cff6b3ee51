-- Texts of pieces.
use Rattle.std.specs.Prelude.{ℕ, List}
use Rattle.std.specs.Fmt.{decimal}
use Rattle.std.specs.List.{flat_map}
use Rattle.pseudo_time.specs.StampParts.{StampParts}
use Rattle.pseudo_time.specs.TimeParts.{TimeParts}
use Rattle.value_form.specs.declared.objects.ObjectId.{ObjectId}
use Rattle.value_form.specs.declared.values.Value.{Value}
use Rattle.value_form.specs.ValueText.{value_text}
use Rattle.report_writer.specs.Parts.{object_text, stamp_text, time_text}
use Rattle.page_text.specs.Escapes.{page_text}
use Rattle.folder_look.specs.declared.parts.Part.{Part}
use Rattle.folder_look.specs.declared.parts.Part.TheVariants as part

pub data Piece : Type 0 where
  -- the page's own words
  Words : List ℕ → Piece
  Number : ℕ → Piece
  -- bytes that mean nothing to the page
  Text : List ℕ → Piece
  Stamp : StampParts → Piece
  Time : TimeParts → Piece
  Object : ObjectId → Piece
  -- a value as it prints
  Printed : Value → Piece

abbrev pub piece_text : Piece → List ℕ
piece_text (Words words) = words
piece_text (Number n) = decimal n
piece_text (Text bytes) = page_text bytes
piece_text (Stamp s) = stamp_text s
piece_text (Time t) = time_text t
piece_text (Object o) = object_text o
piece_text (Printed v) = page_text (value_text v)

-- one piece after another
abbrev pub text_of : List Piece → List ℕ
text_of pieces = flat_map piece_text pieces

-- a part as the code has it
abbrev pub piece_of : Part → Piece
piece_of (part.Words words) = Words words.now
piece_of (part.Number n) = Number n
piece_of (part.Text bytes) = Text bytes.now
piece_of (part.Stamp s) = Stamp s
piece_of (part.Time t) = Time t
piece_of (part.Object o) = Object o
piece_of (part.Printed v) = Printed v.now

abbrev pub parts_text : List Part → List ℕ
parts_text parts = flat_map (λ p. piece_text (piece_of p)) parts
