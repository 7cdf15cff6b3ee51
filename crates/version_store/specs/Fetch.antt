-- What pages show at a place.
use Rattle.std.specs.Prelude.{◌≡◌, ℕ, ◌+◌, ◌-◌, ◌<◌, ◌≤◌, ◌==◌, ◌++◌, List, [], ◌∷◌, drop, Bool, true, nat_lt, nat_le, if◌then◌else◌, Option, Some, None, Result, Ok, Err}
use Rattle.stream_port.specs.Causes.{next_count}
use Rattle.page_form.specs.States.{state_of}
use Rattle.page_form.specs.PageState.{PageState}
use Rattle.page_form.specs.PageState.TheVariants.{Blank, Spoiled, Gated}
use Rattle.page_form.specs.ObjectId.{ObjectId}
use Rattle.page_form.specs.Place.{Place}
use Rattle.page_form.specs.Effects.{Written, effect_at}
use Rattle.page_form.specs.Entries.{Entry, Log, IsIn, number_of, put_object, is_object}
use Rattle.medium_port.specs.Image.{Image, page_of}
use Rattle.page_form.specs.declared.pieces.Piece.TheVariants.{Whole, First, Middle, Last}
use Rattle.page_form.specs.Sheets.{Sheet, sheet_of}
use Rattle.version_store.specs.declared.faults.FetchFault.{FetchFault}
use Rattle.version_store.specs.declared.faults.FetchFault.TheVariants as fault

-- an effect of the log stands at the place
abbrev pub StandsAt : Log → Place → Type 0
StandsAt log place = (e : Entry) × (i : ℕ) × IsIn log e i × (e.place ≡ place)

abbrev pub is_back_before : Option Place → Place → Bool
is_back_before None place = true
is_back_before (Some back) place = nat_lt (number_of back) (number_of place)

-- a Put of the object stands there
pub record IsPutAt (log : Log) (object : ObjectId) (place : Place) : Type 0 where
  pub here : StandsAt log place
  pub put : is_object (put_object here.0.effect) object ≡ true

-- and no Put of the object stands behind it
pub record IsLastPut (log : Log) (object : ObjectId) (place : Place) : Type 0 where
  pub at : IsPutAt log object place
  pub last : (e : Entry) (i : ℕ) → IsIn log e i → is_object (put_object e.effect) object ≡ true → i ≤ at.here.1

-- where an effect has a back place, it is a Put, and a Put of its object stands there
abbrev pub BackStands : Log → Written → Type 0
BackStands log (effect, None) = Unit {0}
BackStands log (effect, Some place) = (object : ObjectId) × (put_object effect ≡ Some object) × IsPutAt log object place

-- an effect that was read at a place, where its back place is before it
abbrev pub shown : Place → Result (Written × List ℕ) ℕ → Option Written
shown place (Err at) = None
shown place (Ok found) = if is_back_before found.0.1 place then Some found.0 else None

-- what an effect shows where no bytes are behind it
abbrev pub shown_alone : Place → Result (Written × List ℕ) ℕ → Option Written
shown_alone place (Err at) = None
shown_alone place (Ok (w, [])) = shown place (Ok (w, []))
shown_alone place (Ok (w, b ∷ rest)) = None

abbrev pub sheet_on : PageState → Option Sheet
sheet_on Blank = None
sheet_on Spoiled = None
sheet_on (Gated body) = sheet_of body

-- what a page shows at a place: an effect with its back place, or that there is none, or pieces of one, behind which another is due
pub data Sight : Type 0 where
  Told : Option Written → Sight
  Due : List ℕ → Sight

-- what the place's page shows
abbrev pub first_sight : Place → Option Sheet → Sight
first_sight place None = Told None
first_sight place (Some (Whole, from, bytes)) = Told (if nat_le from place.offset then shown place (effect_at (drop (place.offset - from) bytes)) else None)
first_sight place (Some (First, from, bytes)) = if place.offset == 5 then Due bytes else Told None
first_sight place (Some (Middle, from, bytes)) = Told None
first_sight place (Some (Last, from, bytes)) = Told None

-- what a page shows behind pieces
abbrev pub next_sight : List ℕ → Place → Option Sheet → Sight
next_sight pieces place None = Told None
next_sight pieces place (Some (Whole, from, bytes)) = Told None
next_sight pieces place (Some (First, from, bytes)) = Told None
next_sight pieces place (Some (Middle, from, bytes)) = Due (pieces ++ bytes)
next_sight pieces place (Some (Last, from, bytes)) = Told (shown_alone place (effect_at (pieces ++ bytes)))

abbrev pub sight_then : (List ℕ → Option Written) → Sight → Option Written
sight_then goes_on (Told found) = found
sight_then goes_on (Due pieces) = goes_on pieces

-- what pages show behind pieces
abbrev pub shown_behind : List ℕ → Place → Image → Option Written
shown_behind pieces place [] = None
shown_behind pieces place (page ∷ pages) = sight_then (λ more. shown_behind more place pages) (next_sight pieces place (sheet_on (state_of page)))

-- the effect with its back place that an image has at a place
abbrev pub shown_in : Image → Place → Option Written
shown_in image place = sight_then (λ pieces. shown_behind pieces place (drop (place.page + 1) image)) (first_sight place (sheet_on (state_of (page_of image place.page))))

-- what a page shows behind these pieces, or as the place's where there are none
abbrev pub sight_of : Place → Option (List ℕ) → PageState → Sight
sight_of place None state = first_sight place (sheet_on state)
sight_of place (Some pieces) state = next_sight pieces place (sheet_on state)

-- so it is answered; and pieces tell that there is none where no page is behind them, of so many
abbrev pub Tells : ℕ → ℕ → Option Written → Sight → Type 0
Tells pages page found (Told told) = told ≡ found
Tells pages page found (Due pieces) = (found ≡ None) × (page + 1 ≡ pages)

-- the page is the place's, or it is behind it and pieces stand before it
abbrev pub StandsBehind : Place → ℕ → Option (List ℕ) → Type 0
StandsBehind place page None = page ≡ place.page
StandsBehind place page (Some pieces) = place.page < page

-- this page was read last, of so many, and tells this of the place
pub record LastTells (last : Option (ℕ × List ℕ)) (pages page : ℕ) (place : Place) (found : Option Written) : Type 0 where
  pub bytes : List ℕ
  pub before : Option (List ℕ)
  pub read : last ≡ Some (page, bytes)
  pub stands : StandsBehind place page before
  pub tells : Tells pages page found (sight_of place before (state_of bytes))

-- the count of damage after a fetch that gave this
abbrev pub damage_after : {T : Type 0} → ℕ → Result T FetchFault → ℕ
damage_after count (Ok x) = count
damage_after count (Err fault.Medium) = count
damage_after count (Err (fault.Damaged page)) = next_count count
damage_after count (Err fault.NoMemory) = count
