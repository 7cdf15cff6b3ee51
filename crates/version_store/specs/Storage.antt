-- The log that the pages of an image stand for.
use Rattle.std.specs.Prelude.{ℕ, ◌+◌, List, [], ◌∷◌, Option, Some, None, Result, Ok, Err}
use Rattle.medium_port.specs.Image.{Image}
use Rattle.page_form.specs.States.{state_of}
use Rattle.page_form.specs.Effect.{Effect}
use Rattle.page_form.specs.Entries.{Log, effects_of}
use Rattle.page_form.specs.Sheets.{Damaged, Going}
pub use Rattle.page_form.specs.Sheets.{Content, Ended, Reading, content_of, next}

-- ---- pages in order

-- the log of a reading that goes on
abbrev pub log_going : Reading → Option Log
log_going (Going c) = Some c.log
log_going (Ended c) = None
log_going (Damaged page) = None

-- the pages from the n-th on
abbrev pub scan : Reading → ℕ → Image → Reading
scan reading n [] = reading
scan reading n (page ∷ pages) = scan (next reading n (state_of page)) (n + 1) pages

abbrev pub finish : Reading → Result Log ℕ
finish (Going c) = Ok c.log
finish (Ended c) = Ok c.log
finish (Damaged page) = Err page

-- before the first page
abbrev pub begun : Reading
begun = Going (content_of [])

-- ---- an image

-- its log, or its first damaged page
abbrev pub entries : Image → Result Log ℕ
entries image = finish (scan begun 0 image)

abbrev pub effects_found : Result Log ℕ → Result (List Effect) ℕ
effects_found (Ok log) = Ok (effects_of log)
effects_found (Err page) = Err page

-- its effects in order, or its first damaged page
abbrev pub storage : Image → Result (List Effect) ℕ
storage image = effects_found (entries image)

abbrev pub log_or_none : Result Log ℕ → Log
log_or_none (Ok log) = log
log_or_none (Err page) = []

-- the log of an image that has one
abbrev pub log_of : Image → Log
log_of image = log_or_none (entries image)
