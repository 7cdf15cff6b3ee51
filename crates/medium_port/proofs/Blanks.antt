-- Pages that read 0 in every byte.
use Rattle.medium_port.proofs.Names.{◌≡◌, ⊎_elim, ℕ, ◌<◌, List, [], length, get_or, refl, sym, ◌∙◌, ap, arith, zero, suc, replicate, cases_lt, get_or_past, ext_get_or, get_or-replicate, length-replicate, Image, IsImage, IsBlankImage, byte_of}

-- images with the same bytes are equal
pub same_image : (n : ℕ) (a b : Image) → IsImage n a → IsImage n b → ((page at : ℕ) → byte_of a page at ≡ byte_of b page at) → a ≡ b
same_image n a b is_a is_b same =
    ext_get_or [] a b (is_a.count ∙ sym is_b.count) (λ page within.
    let low : page < n = omega (arith, within, is_a.count) in
    ext_get_or 0 (get_or a page []) (get_or b page []) (is_a.pages page low ∙ sym (is_b.pages page low)) (λ at inside. same page at))

pub same_blank : (n : ℕ) (a b : Image) → IsImage n a → IsImage n b → IsBlankImage a → IsBlankImage b → a ≡ b
same_blank n a b is_a is_b blank_a blank_b = same_image n a b is_a is_b (λ page at. blank_a page at ∙ sym (blank_b page at))

pub zero_get : (n k : ℕ) → get_or (replicate {A = ℕ} n 0) k 0 ≡ 0
zero_get zero k = refl
zero_get (suc n) zero = refl
zero_get (suc n) (suc k) = zero_get n k

-- as many pages of 0
module _ (n : ℕ) (zeros : List ℕ) (size : length zeros ≡ 4096) (blank : (k : ℕ) → get_or zeros k 0 ≡ 0) where
  pub blank_replicate : IsBlankImage (replicate n zeros)
  blank_replicate page at = ⊎_elim
      (λ low. ap (λ (l : List ℕ). get_or l at 0) (get_or-replicate n page zeros [] low) ∙ blank at)
      (λ past. ap (λ (l : List ℕ). get_or l at 0) (get_or_past (replicate n zeros) page [] (omega (arith, past, length-replicate n zeros))))
      (cases_lt page n)

  pub image_replicate : IsImage n (replicate n zeros)
  image_replicate = record {
    count = length-replicate n zeros;
    pages = λ page low. ap (λ (l : List ℕ). length l) (get_or-replicate n page zeros [] low) ∙ size;
    bytes = λ page at. omega (arith, blank_replicate page at);
  }

  pub blank_is : (image : Image) → IsImage n image → IsBlankImage image → image ≡ replicate n zeros
  blank_is image is all = same_blank n image (replicate n zeros) is image_replicate all blank_replicate
