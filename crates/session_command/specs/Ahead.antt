-- What a reader of lines was given and hasn't read yet, and what it reads.
use Rattle.std.specs.Prelude.{ℕ, Bool, List, [], ◌∷◌, ◌++◌, drop, Option, Some, None}
use Rattle.std.specs.Io.KnownBytes.{Consumes}
use Rattle.session_form.specs.Sessions.{IsInLine, line_end}
use Rattle.session_command.specs.Kept.{IsKept}
use Rattle.session_command.specs.declared.line_readers.LineReader.{LineReader}

abbrev pub ahead : LineReader → List ℕ
ahead r = drop r.at r.piece.items

-- the byte, if there is one
abbrev pub byte_in : Option ℕ → List ℕ
byte_in None = []
byte_in (Some b) = b ∷ []

-- this line was read, with its end if it has one, and so much of it is kept
pub record IsRead (old new : Option (List ℕ)) (kept : List ℕ) (is_ended : Bool) (line : List ℕ) : Type 0 where
  pub all : Consumes old new (line ++ line_end is_ended)
  pub within : IsInLine line
  pub kept_is : IsKept kept line
