-- What a crash leaves of the pages of a call.
use Rattle.std.specs.Prelude.{◌≡◌, ◌≢◌, ℕ, ◌+◌, ◌≤◌, List, [], ◌∷◌, ◌++◌, length, take, true, false, Ok}
use Rattle.std.specs.List.{flat_map}
use Rattle.medium_port.specs.Image.{Image, page_of}
use Rattle.page_form.specs.States.{is_blank, state_of}
use Rattle.page_form.specs.PageState.TheVariants.{Spoiled}
use Rattle.page_form.specs.Effect.{Effect}
use Rattle.version_store.specs.Storage.{storage}
pub use Rattle.page_form.specs.Filling.{filling, full_pages, own_pages}

-- how many pages effects fill where none of them shares a page
abbrev pub pages_apart : List Effect → ℕ
pages_apart [] = 0
pages_apart (e ∷ es) = own_pages e + pages_apart es

abbrev pub joined : List (List Effect) → List Effect
joined pages = flat_map (λ es. es) pages

-- the image stands for the log with the effects that stand whole in the first of a call's pages, which are the first of the call
pub record HasPrefix (log effects : List Effect) (image : Image) : Type 0 where
  pub pages : ℕ
  pub most : pages ≤ length (filling effects)
  pub kept : ℕ
  pub few : kept ≤ length effects
  pub whole : joined (take pages (filling effects)) ≡ take kept effects
  pub is : storage image ≡ Ok (log ++ take kept effects)

-- pages that weren't blank are as they were
abbrev pub KeepsPages : Image → Image → Type 0
KeepsPages old new = (page : ℕ) → is_blank (page_of old page) ≡ false → page_of new page ≡ page_of old page

-- no page that was blank is spoiled
abbrev pub StaysClean : Image → Image → Type 0
StaysClean old new = (page : ℕ) → is_blank (page_of old page) ≡ true → state_of (page_of new page) ≢ Spoiled
