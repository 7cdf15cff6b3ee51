-- What a medium's pages may hold.
use Rattle.std.specs.Prelude.{◌≡◌, ℕ, ◌+◌, ◌<◌, List, [], ◌++◌, length, take, drop, slice_set, slice_index_or}

-- the pages, each a list of its bytes
abbrev pub Image : Type 0
Image = List (List ℕ)

abbrev pub page_of : Image → ℕ → List ℕ
page_of image page = slice_index_or image page []

abbrev pub byte_of : Image → ℕ → ℕ → ℕ
byte_of image page at = slice_index_or (page_of image page) at 0

-- n pages of 4,096 bytes
pub record IsImage (n : ℕ) (image : Image) : Type 0 where
  pub count : length image ≡ n
  pub pages : (page : ℕ) → page < n → length (page_of image page) ≡ 4096
  pub bytes : (page at : ℕ) → byte_of image page at < 256

-- all bytes are 0
abbrev pub IsBlankImage : Image → Type 0
IsBlankImage image = (page at : ℕ) → byte_of image page at ≡ 0

-- the page with these bytes from this place on
abbrev pub splice : List ℕ → ℕ → List ℕ → List ℕ
splice page at bytes = take at page ++ bytes ++ drop (at + length bytes) page

-- the image with these bytes from this place of the page on
abbrev pub put_bytes : ℕ → ℕ → List ℕ → Image → Image
put_bytes page at bytes image = slice_set image page (splice (page_of image page) at bytes)

-- new is old with these bytes from this place of the page on
abbrev pub Written : ℕ → ℕ → List ℕ → Image → Image → Type 0
Written page at bytes old new = new ≡ put_bytes page at bytes old

-- n bytes of the page from this place on may be any, and all others are as they were
pub record Torn (page at n : ℕ) (old new : Image) : Type 0 where
  pub bytes : List ℕ
  pub image : new ≡ slice_set old page bytes
  pub front : take at bytes ≡ take at (page_of old page)
  pub back : drop (at + n) bytes ≡ drop (at + n) (page_of old page)
  pub size : length bytes ≡ length (page_of old page)

-- each image that may be left now is one from before, after a step
abbrev pub Follows : (Image → Image → Type 0) → (Image → Type 0) → (Image → Type 0) → Type 0
Follows step old new = (c : Image) → new c → (d : Image) × old d × step d c

-- this image and no other
abbrev pub Only : Image → (Image → Type 0) → Type 0
Only image images = (c : Image) → images c → c ≡ image

-- no image is new
abbrev pub NoMore : (Image → Type 0) → (Image → Type 0) → Type 0
NoMore old new = (c : Image) → new c → old c
