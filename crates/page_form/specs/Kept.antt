-- What a reading keeps of an effect that was begun.
use Rattle.std.specs.Prelude.{◌≡◌, ◌⊎◌, ℕ, ◌<◌, List, length, Option, Some, None, IfSome}
use Rattle.field_form.specs.Forms.{IsBytes}
use Rattle.page_form.specs.declared.page_reads.Held.{Held}

-- the bytes that are kept are those of the pieces, or both are more than an effect has
abbrev pub Stand : List ℕ → List ℕ → Type 0
Stand bytes pieces = (bytes ≡ pieces) ⊎ ((65567 < length bytes) × (65567 < length pieces))

-- what an opening keeps of an effect that was begun
abbrev pub HeldFit : Option Held → Option (ℕ × List ℕ) → Type 0
HeldFit None None = Unit {0}
HeldFit None (Some held) = ⊥
HeldFit (Some held) None = ⊥
HeldFit (Some held) (Some (first, pieces)) = (held.first ≡ first) × Stand held.bytes.items pieces × IsBytes pieces

-- the pages before this one are behind the first of the pieces
abbrev pub HeldBelow : ℕ → Option Held → Type 0
HeldBelow limit held = IfSome held (λ (h : Held). h.first < limit)
