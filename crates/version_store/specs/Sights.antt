-- What a call that looks for an effect gives.
use Rattle.std.specs.Prelude.{◌≡◌, ℕ, Option, Some, None, Result, Ok, Err, IfSome}
use Rattle.page_form.specs.Forms.{IsBytes}
use Rattle.page_form.specs.Effects.{Written, IsWritten}
use Rattle.version_store.specs.Fetch as fetch
use Rattle.page_form.specs.Kept.{Stand}
use Rattle.version_store.specs.declared.fetches.Sight.{Sight}
use Rattle.version_store.specs.declared.fetches.Sight.TheVariants.{Told, Due}

-- it tells what is shown, and keeps the pieces that are
abbrev pub Sees : Sight → fetch.Sight → Type 0
Sees (Told told) (fetch.Told found) = told ≡ found
Sees (Told told) (fetch.Due pieces) = ⊥
Sees (Due kept) (fetch.Told found) = ⊥
Sees (Due kept) (fetch.Due pieces) = Stand kept.items pieces × IsBytes pieces

abbrev pub TellsRange : Sight → Type 0
TellsRange (Told found) = IfSome found (λ w. IsWritten w)
TellsRange (Due kept) = Unit {0}

-- the effect that was found, or none on this page
abbrev pub found_of : Result Written ℕ → Option Written
found_of (Ok found) = Some found
found_of (Err page) = None

-- the page that told that
abbrev pub told_of : Result Written ℕ → ℕ → Type 0
told_of (Ok found) page = Unit {0}
told_of (Err at) page = at ≡ page
