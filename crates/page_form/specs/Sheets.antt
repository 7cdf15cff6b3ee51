-- What a page has, and the log that pages stand for in order.
use Rattle.std.specs.Prelude.{ℕ, ◌+◌, ◌-◌, ◌==◌, List, [], ◌∷◌, ◌++◌, length, if◌then◌else◌, Option, Some, None, Result, Ok, Err}
use Rattle.std.specs.Option.{option_map}
use Prim.Native.Nat.{zero, suc}
use Rattle.std.specs.Int.{w16}
use Rattle.field_form.specs.Forms.{◌>>=◌}
use Rattle.field_form.specs.Numbers.{byte_at, number_at, between, front_at}
use Rattle.page_gate.specs.States.{is_blank}
use Rattle.page_gate.specs.declared.pages.PageState.{PageState}
use Rattle.page_gate.specs.declared.pages.PageState.TheVariants.{Blank, Spoiled, Gated}
use Rattle.effect_form.specs.declared.effects.Place.{Place}
use Rattle.effect_form.specs.Effects.{Written, effect_at}
use Rattle.page_form.specs.declared.pieces.Piece.{Piece}
use Rattle.page_form.specs.declared.pieces.Piece.TheVariants.{Whole, First, Middle, Last}
use Rattle.page_form.specs.Entries.{Log, back_in, same_back}

-- ---- one page

-- what a page has: whole effects or a piece of one, the offset of its first byte, and its bytes
abbrev pub Sheet : Type 0
Sheet = Piece × ℕ × List ℕ

-- the piece that a byte stands for; a first and a middle one fill their page
abbrev pub piece_of : ℕ → ℕ → Option Piece
piece_of size mark =
    if mark == 0 then Some Whole
    else if mark == 3 then Some Last
    else if size == 4091 then (if mark == 1 then Some First else if mark == 2 then Some Middle else None)
    else None

-- so many bytes, behind which all are 0
unfoldable pub padded_at : ℕ → List ℕ → Option (List ℕ)
padded_at size bytes = do
  texts ← front_at size bytes
  if is_blank texts.1 then Some texts.0 else None

-- behind the format byte 01: a length from 1 to 4,092, and so many bytes of whole effects
unfoldable pub old_sheet_at : List ℕ → Option Sheet
old_sheet_at bytes = do
  size ← between 1 4092 (number_at w16 bytes)
  texts ← padded_at size.0 size.1
  Some (Whole, 4, texts)

-- behind the format byte 02: a length from 1 to 4,091, a piece byte, and so many bytes
unfoldable pub new_sheet_at : List ℕ → Option Sheet
new_sheet_at bytes = do
  size ← between 1 4091 (number_at w16 bytes)
  mark ← byte_at size.1
  piece ← piece_of size.0 mark.0
  texts ← padded_at size.0 mark.1
  Some (piece, 5, texts)

-- what a gated page's body has
unfoldable pub sheet_of : List ℕ → Option Sheet
sheet_of body = do
  format ← byte_at body
  if format.0 == 1 then old_sheet_at format.1
      else if format.0 == 2 then new_sheet_at format.1
      else None

-- the place on this page of what begins with so many bytes before the end of the effects
abbrev pub place_before : ℕ → ℕ → ℕ → Place
place_before page end left = record { page = page; offset = end - left }

-- the place of an effect in pieces, by the page of the first
abbrev pub place_alone : ℕ → Place
place_alone page = record { page = page; offset = 5 }

-- the log with the effect that was read at this place, and what follows it; none where no effect was, or where its back place isn't that of the object's last Put
abbrev pub admitted : Log → Place → Result (Written × List ℕ) ℕ → Option (Log × List ℕ)
admitted log place (Err at) = None
admitted log place (Ok found) = if same_back found.0.1 (back_in log found.0.0) then Some (log ++ record { effect = found.0.0; place = place; back = found.0.1 } ∷ [], found.1) else None

-- the log with all effects in these bytes, at most n; the page's effects end at this offset
abbrev pub log_at : ℕ → Log → ℕ → ℕ → List ℕ → Option Log
log_at n log page end [] = Some log
log_at zero log page end (b ∷ bytes) = None
log_at (suc n) log page end (b ∷ bytes) = admitted log (place_before page end (length (b ∷ bytes))) (effect_at (b ∷ bytes)) >>= λ more. log_at n more.0 page end more.1

-- the log with an effect behind which no bytes are
abbrev pub alone : Option (Log × List ℕ) → Option Log
alone None = None
alone (Some (log, [])) = Some log
alone (Some (log, b ∷ rest)) = None

-- ---- pages in order

-- what the pages that were read stand for: a log, and the pieces of an effect that was begun on the last of them, with the page of the first
pub record Content : Type 0 where
  pub log : Log
  pub held : Option (ℕ × List ℕ)

-- a log, and nothing else
abbrev pub content_of : Log → Content
content_of log = record { log = log; held = None }

-- a middle piece, behind these
abbrev pub held_more : Log → Option (ℕ × List ℕ) → List ℕ → Option Content
held_more log None bytes = None
held_more log (Some (first, front)) bytes = Some (record { log = log; held = Some (first, front ++ bytes) })

-- a last piece, behind these: together they are one effect, which stands at offset 5 of the first's page
abbrev pub held_ends : Log → Option (ℕ × List ℕ) → List ℕ → Option Content
held_ends log None bytes = None
held_ends log (Some (first, front)) bytes = option_map content_of (alone (admitted log (place_alone first) (effect_at (front ++ bytes))))

-- the content with a gated page; none where no log has such a page there. Pieces behind which none comes give nothing.
abbrev pub with_sheet : Content → ℕ → Option Sheet → Option Content
with_sheet c page None = None
with_sheet c page (Some (Whole, from, bytes)) = option_map content_of (log_at (length bytes) c.log page (from + length bytes) bytes)
with_sheet c page (Some (First, from, bytes)) = Some (record { log = c.log; held = Some (page, bytes) })
with_sheet c page (Some (Middle, from, bytes)) = held_more c.log c.held bytes
with_sheet c page (Some (Last, from, bytes)) = held_ends c.log c.held bytes

-- how the reading of an image stands: it goes on, a blank page has ended it, or this page is damaged
pub data Reading : Type 0 where
  Going : Content → Reading
  Ended : Content → Reading
  Damaged : ℕ → Reading

abbrev pub going_or_damaged : ℕ → Option Content → Reading
going_or_damaged page None = Damaged page
going_or_damaged page (Some c) = Going c

-- a spoiled page is skipped; nothing but blank pages may stand behind a blank one
abbrev pub next : Reading → ℕ → PageState → Reading
next (Going c) page Blank = Ended c
next (Going c) page Spoiled = Going (content_of c.log)
next (Going c) page (Gated body) = going_or_damaged page (with_sheet c page (sheet_of body))
next (Ended c) page Blank = Ended c
next (Ended c) page Spoiled = Damaged page
next (Ended c) page (Gated body) = Damaged page
next (Damaged first) page state = Damaged first
