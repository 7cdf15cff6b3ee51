-- The lines that tell of a retirement.
use Rattle.std.specs.Prelude.{ℕ, List, [], ◌∷◌, ◌++◌, codes}
use Rattle.pseudo_time.specs.TimeParts.{TimeParts}
use Rattle.report_writer.specs.Parts.{time_text}
use Rattle.report_writer.specs.Reports.{named}

-- the repository was retired into this volume at the mark; so many effects were kept and dropped
abbrev pub retired_line : ℕ → ℕ → TimeParts → ℕ → ℕ → List ℕ
retired_line repository volume at kept dropped =
    named (codes "retired repository ") repository ++ (named (codes " volume ") volume ++ (codes " mark " ++ (time_text at
    ++ (named (codes " kept ") kept ++ (named (codes " dropped ") dropped ++ 10 ∷ [])))))

-- why it wasn't
abbrev pub old_mark_line : TimeParts → List ℕ
old_mark_line floor = codes "swallow: old mark " ++ (time_text floor ++ 10 ∷ [])

abbrev pub last_volume_line : List ℕ
last_volume_line = codes "swallow: last volume" ++ 10 ∷ []
