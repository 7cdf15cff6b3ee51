-- What deeds leave of a map of objects, one after another in the order of stamps (serial execution in that order: Bernstein et al. 1987).
use Rattle.std.specs.Prelude.{ℕ, ◌+◌, Bool, true, false, List, [], ◌∷◌, if◌then◌else◌}
use Rattle.std.specs.FinMap as finite
use Rattle.pseudo_time.specs.StampParts.{StampParts}
use Rattle.pseudo_time.specs.TimeParts.{TimeParts}
use Rattle.pseudo_time.specs.Order.{lt, same_stamp, stamp_lt}
use Rattle.value_form.specs.declared.objects.ObjectId.{ObjectId}
use Rattle.value_form.specs.declared.values.Value.{Value}
use Rattle.value_form.specs.declared.transcripts.Line.{Line}
use Rattle.value_form.specs.declared.transcripts.Line.TheVariants as line
use Rattle.value_form.specs.Objects.{Objects}
use Rattle.serial_model.specs.Questions.{Tree, left_by}

-- ---- versions

pub record Version : Type 0 where
  pub object : ObjectId
  pub start : TimeParts
  pub value : Value

-- a list of versions in the order of their starts
unfoldable pub put_in : Version → List Version → List Version
put_in w [] = w ∷ []
put_in w (p ∷ ps) = if lt w.start p.start then w ∷ p ∷ ps else p ∷ put_in w ps

-- written one after another
abbrev pub set_all : List Version → Objects → Objects
set_all [] m = m
set_all (w ∷ ws) m = set_all ws (finite.insert m w.object w.value)

-- ---- deeds

-- a script that is carried out alone, or writes that are given
pub data Deed : Type 0 where
  Alone : Tree → Deed
  Given : List Version → Deed

-- the map after it
abbrev pub after_deed : Deed → Objects → Objects
after_deed (Alone t) m = left_by t m
after_deed (Given ws) m = set_all ws m

-- and after these, one after another
abbrev pub after_deeds : List Deed → Objects → Objects
after_deeds [] m = m
after_deeds (d ∷ more) m = after_deeds more (after_deed d m)

-- ---- the order of deeds

-- stamps in rising order, each once
unfoldable pub stamp_in : StampParts → List StampParts → List StampParts
stamp_in s [] = s ∷ []
stamp_in s (t ∷ ts) = if same_stamp s t then t ∷ ts else (if stamp_lt s t then s ∷ t ∷ ts else t ∷ stamp_in s ts)

unfoldable pub stamp_if : Bool → StampParts → List StampParts → List StampParts
stamp_if true s ss = stamp_in s ss
stamp_if false s ss = ss

-- ---- transcripts

-- the Wrote lines of a transcript as versions: the n-th Read or Wrote line has step n
unfoldable pub lines_written : StampParts → ℕ → List Line → List Version
lines_written s n [] = []
lines_written s n (line.Print v ∷ ls) = lines_written s n ls
lines_written s n (line.Read o v ∷ ls) = lines_written s (n + 1) ls
lines_written s n (line.Wrote o v ∷ ls) = record { object = o; start = record { stamp = s; step = n }; value = v } ∷ lines_written s (n + 1) ls
