-- What a page and its image may be while a body is put there.
use Rattle.std.specs.Prelude.{◌≡◌, ◌⊎◌, ℕ, List, IsTrue, slice_set}
use Rattle.medium_port.specs.Image.{Image, page_of}
use Rattle.page_gate.specs.States.{is_blank, state_of, gated_page}
use Rattle.page_gate.specs.declared.pages.PageState.TheVariants.{Blank, Spoiled}

-- a page that was blank: blank still, spoiled, or gated with the whole body
abbrev pub IsPutPage : List ℕ → List ℕ → Type 0
IsPutPage body bytes = ((state_of bytes ≡ Blank) ⊎ (state_of bytes ≡ Spoiled)) ⊎ (bytes ≡ gated_page body)

-- other pages are as they were, and so is this one's size
pub record PutStep (page : ℕ) (body : List ℕ) (old new : Image) : Type 0 where
  pub bytes : List ℕ
  pub image : new ≡ slice_set old page bytes
  pub state : IsTrue (is_blank (page_of old page)) → IsPutPage body bytes

-- an image that was possible before, or one with the body on its way to this page
abbrev pub MayPut : ℕ → List ℕ → (Image → Type 0) → Image → Type 0
MayPut page body old new = (from : Image) × old from × PutStep page body from new
