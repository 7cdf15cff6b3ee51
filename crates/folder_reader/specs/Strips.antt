-- Which pages of an image are gated, and which are spoiled.
use Rattle.std.specs.Prelude.{ℕ, ◌+◌, Bool, true, false, List, [], ◌∷◌, ◌++◌, if◌then◌else◌}
use Prim.Native.Nat.{zero, suc}
use Rattle.medium_port.specs.Image.{Image, page_of}
use Rattle.page_gate.specs.States.{state_of}
use Rattle.page_gate.specs.declared.pages.PageState.{PageState}
use Rattle.page_gate.specs.declared.pages.PageState.TheVariants.{Blank, Spoiled, Gated}

abbrev pub is_gated : PageState → Bool
is_gated Blank = false
is_gated Spoiled = false
is_gated (Gated body) = true

abbrev pub is_spoiled : PageState → Bool
is_spoiled Blank = false
is_spoiled Spoiled = true
is_spoiled (Gated body) = false

-- how many of the first n pages are gated
abbrev pub gated_below : Image → ℕ → ℕ
gated_below image zero = 0
gated_below image (suc n) = if is_gated (state_of (page_of image n)) then gated_below image n + 1 else gated_below image n

-- those of the first n pages that are spoiled, in order
abbrev pub spoiled_below : Image → ℕ → List ℕ
spoiled_below image zero = []
spoiled_below image (suc n) = if is_spoiled (state_of (page_of image n)) then spoiled_below image n ++ n ∷ [] else spoiled_below image n
