-- Pages of which the first are held.
use Rattle.medium_port.proofs.Names.{◌≡◌, ℕ, ◌+◌, ◌-◌, ◌≤◌, ◌<◌, List, [], ◌∷◌, ◌++◌, length, refl, sym, ◌∙◌, ap, subst, arith, append_assoc, length-append, slice_set, zero, suc, replicate, length-set, get_or_append_left, length-replicate, Image, IsImage, IsBlankImage, page_of, put_bytes, splice, with_blanks}
use Rattle.medium_port.proofs.Blanks.{blank_replicate, image_replicate, zero_get}

abbrev zeros : List ℕ
zeros = replicate 4096 0

set_front : {A : Type 0} (xs ys : List A) (i : ℕ) (x : A) → i < length xs → slice_set (xs ++ ys) i x ≡ slice_set xs i x ++ ys
set_front [] ys i x low = absurd (omega (arith, low))
set_front (a ∷ xs) ys zero x low = refl
set_front (a ∷ xs) ys (suc i) x low = ap (λ (l : List _). a ∷ l) (set_front xs ys i x (omega (arith, low)))

pub size_with : (count : ℕ) (front : Image) → length front ≤ count → length (with_blanks count front) ≡ count
size_with count front few = omega (arith, length-append front (replicate (count - length front) zeros), length-replicate (count - length front) zeros, few)

pub blank_with : (count : ℕ) → IsBlankImage (with_blanks count [])
blank_with count = let all : count - 0 ≡ count = omega arith in subst (λ (n : ℕ). IsBlankImage (replicate n zeros)) (sym all) (blank_replicate count zeros (length-replicate {A = ℕ} 4096 0) (zero_get 4096))

pub image_with : (count : ℕ) → IsImage count (with_blanks count [])
image_with count = let all : count - 0 ≡ count = omega arith in subst (λ (n : ℕ). IsImage count (replicate n zeros)) (sym all) (image_replicate count zeros (length-replicate {A = ℕ} 4096 0) (zero_get 4096))

-- a blank page more is held
pub with_more : (count : ℕ) (front : Image) → length front < count → with_blanks count (front ++ zeros ∷ []) ≡ with_blanks count front
with_more count front few =
    let size : count - length (front ++ zeros ∷ []) ≡ count - (length front + 1) = ap (λ (n : ℕ). count - n) (length-append front (zeros ∷ [])) in
    let next : suc (count - (length front + 1)) ≡ count - length front = omega (arith, few) in
    ap (λ (n : ℕ). (front ++ zeros ∷ []) ++ replicate n zeros) size
    ∙ append_assoc front (zeros ∷ []) (replicate (count - (length front + 1)) zeros)
    ∙ ap (λ (n : ℕ). front ++ replicate n zeros) next

-- a page, held or not
pub page_held : (count page : ℕ) (front : Image) → page < length front → page_of (with_blanks count front) page ≡ page_of front page
page_held count page front low = get_or_append_left front (replicate (count - length front) zeros) [] page low

-- bytes that are put in a held page
pub put_with : (count page at : ℕ) (bytes : List ℕ) (front : Image) → page < length front → with_blanks count (put_bytes page at bytes front) ≡ put_bytes page at bytes (with_blanks count front)
put_with count page at bytes front low =
    let rest = replicate (count - length front) zeros in
    let x = splice (page_of front page) at bytes in
    ap (λ (n : ℕ). slice_set front page x ++ replicate (count - n) zeros) (length-set front page x)
    ∙ sym (set_front front rest page x low)
    ∙ ap (λ (p : List ℕ). slice_set (front ++ rest) page (splice p at bytes)) (sym (page_held count page front low))
