-- What a page's bytes say.
use Rattle.std.specs.Prelude.{ℕ, ◌-◌, List, ◌∷◌, ◌++◌, Bool, length, drop, replicate, if◌then◌else◌, ◌==◌, slice_index}
use Rattle.std.specs.List.{list_all}
use Rattle.page_gate.specs.declared.pages.Gate.{Gate}
use Rattle.page_gate.specs.declared.pages.Gate.TheVariants as gate
use Rattle.page_gate.specs.declared.pages.PageState.{PageState}
use Rattle.page_gate.specs.declared.pages.PageState.TheVariants.{Blank, Spoiled, Gated}

-- all its bytes are 0
abbrev pub is_blank : List ℕ → Bool
is_blank page = list_all (λ b. b == 0) page

abbrev pub state_of : List ℕ → PageState
state_of page = if is_blank page then Blank else if slice_index page 0 == 165 then Gated (drop 1 page) else Spoiled

-- the state of a page with this gate, and this behind its first byte
abbrev pub state_with : Gate → List ℕ → PageState
state_with gate.Blank body = Blank
state_with gate.Spoiled body = Spoiled
state_with gate.Open body = Gated body

-- the page with an open gate and this body, and 0 to its end
abbrev pub gated_page : List ℕ → List ℕ
gated_page body = 165 ∷ body ++ replicate (4095 - length body) 0
