-- What a page and an image are after bytes were put in them.
use Rattle.medium_port.proofs.Names.{◌≡◌, ◌⊎◌, ⊎_elim, ℕ, ◌+◌, ◌-◌, ◌≤◌, ◌<◌, List, [], ◌∷◌, ◌++◌, length, take, drop, get_or, sym, ◌∙◌, ap, subst, arith, append_assoc, length-append, length-take, length-drop, slice_set, zero, suc, replicate, cases_eq, cases_lt, take_at, drop_at, length-set, get_or-set_same, get_or-set_other, set_past, get_or_append_left, get_or-append_right, get_or-take, get_or-drop, Image, IsImage, page_of, byte_of, splice, put_bytes}

-- lists of bytes
pub small_append : (xs ys : List ℕ) → ((k : ℕ) → get_or xs k 0 < 256) → ((k : ℕ) → get_or ys k 0 < 256) → (k : ℕ) → get_or (xs ++ ys) k 0 < 256
small_append [] ys a b k = b k
small_append (x ∷ xs) ys a b zero = a zero
small_append (x ∷ xs) ys a b (suc k) = small_append xs ys (λ j. a (suc j)) b k

pub small_take : (n : ℕ) (xs : List ℕ) → ((k : ℕ) → get_or xs k 0 < 256) → (k : ℕ) → get_or (take n xs) k 0 < 256
small_take zero xs a k = omega arith
small_take (suc n) [] a k = omega arith
small_take (suc n) (x ∷ xs) a zero = a zero
small_take (suc n) (x ∷ xs) a (suc k) = small_take n xs (λ j. a (suc j)) k

pub small_drop : (n : ℕ) (xs : List ℕ) → ((k : ℕ) → get_or xs k 0 < 256) → (k : ℕ) → get_or (drop n xs) k 0 < 256
small_drop n xs a k = subst (λ (b : ℕ). b < 256) (sym (get_or-drop n xs k 0)) (a (n + k))

pub small_replicate : (n b : ℕ) → b < 256 → (k : ℕ) → get_or (replicate n b) k 0 < 256
small_replicate zero b low k = omega arith
small_replicate (suc n) b low zero = low
small_replicate (suc n) b low (suc k) = small_replicate n b low k

module _ (page : List ℕ) (at : ℕ) (bytes : List ℕ) (fits : at + length bytes ≤ length page) where
  front_size : length (take at page) ≡ at
  front_size = omega (arith, length-take at page)

  long : length (take at page ++ bytes) ≡ at + length bytes
  long = omega (arith, length-append (take at page) bytes, front_size)

  pub splice_front : take at (splice page at bytes) ≡ take at page
  splice_front = ap (λ (l : List ℕ). take at l) (append_assoc (take at page) bytes (drop (at + length bytes) page)) ∙ take_at (take at page) (bytes ++ drop (at + length bytes) page) at front_size

  pub splice_back : drop (at + length bytes) (splice page at bytes) ≡ drop (at + length bytes) page
  splice_back = drop_at (take at page ++ bytes) (drop (at + length bytes) page) (at + length bytes) long

  pub splice_size : length (splice page at bytes) ≡ length page
  splice_size = omega (arith, length-append (take at page ++ bytes) (drop (at + length bytes) page), long, length-drop (at + length bytes) page)

  pub splice_outside : (k : ℕ) → (k < at) ⊎ (at + length bytes ≤ k) → get_or (splice page at bytes) k 0 ≡ get_or page k 0
  splice_outside k side = ⊎_elim
      (λ front. get_or_append_left (take at page ++ bytes) (drop (at + length bytes) page) 0 k (omega (arith, front, long)) ∙ get_or_append_left (take at page) bytes 0 k (omega (arith, front, front_size)) ∙ get_or-take at page k 0 front)
      (λ back. let sum : at + length bytes + (k - (at + length bytes)) ≡ k = omega (arith, back) in
      get_or-append_right (take at page ++ bytes) (drop (at + length bytes) page) (at + length bytes) k 0 long back ∙ get_or-drop (at + length bytes) page (k - (at + length bytes)) 0 ∙ ap (λ (j : ℕ). get_or page j 0) sum)
      side

  pub splice_inside : (k : ℕ) → at ≤ k → k < at + length bytes → get_or (splice page at bytes) k 0 ≡ get_or bytes (k - at) 0
  splice_inside k low high = get_or_append_left (take at page ++ bytes) (drop (at + length bytes) page) 0 k (omega (arith, high, long)) ∙ get_or-append_right (take at page) bytes at k 0 front_size low

pub splice_small : (page : List ℕ) (at : ℕ) (bytes : List ℕ) → ((k : ℕ) → get_or page k 0 < 256) → ((k : ℕ) → get_or bytes k 0 < 256) → (k : ℕ) → get_or (splice page at bytes) k 0 < 256
splice_small page at bytes old new = small_append (take at page ++ bytes) (drop (at + length bytes) page) (small_append (take at page) bytes (small_take at page old) new) (small_drop (at + length bytes) page old)

-- an image with another page of the same size
pub image_set : (n page : ℕ) (image : Image) (bytes : List ℕ) → IsImage n image → length bytes ≡ 4096 → ((at : ℕ) → get_or bytes at 0 < 256) → IsImage n (slice_set image page bytes)
image_set n page image bytes is size small = record {
  count = length-set image page bytes ∙ is.count;
  pages = λ p within. ⊎_elim
      (λ same. ap (λ (k : ℕ). length (get_or (slice_set image page bytes) k [])) same ∙ ap length (get_or-set_same image page bytes [] (omega (arith, within, is.count, same))) ∙ size)
      (λ other. ap length (get_or-set_other image page p bytes [] other) ∙ is.pages p within) (cases_eq p page);
  bytes = λ p at. ⊎_elim
      (λ same. ⊎_elim
      (λ inside. subst (λ (l : List ℕ). get_or l at 0 < 256) (sym (ap (λ (k : ℕ). get_or (slice_set image page bytes) k []) same ∙ get_or-set_same image page bytes [] inside)) (small at))
      (λ past. subst (λ (l : Image). get_or (get_or l p []) at 0 < 256) (sym (set_past image page bytes past)) (is.bytes p at)) (cases_lt page (length image)))
      (λ other. subst (λ (l : List ℕ). get_or l at 0 < 256) (sym (get_or-set_other image page p bytes [] other)) (is.bytes p at)) (cases_eq p page);
}

module _ (n page at : ℕ) (bytes : List ℕ) (within : page < n) (range : at + length bytes ≤ 4096) (image : Image) (is : IsImage n image) where
  fits : at + length bytes ≤ length (page_of image page)
  fits = omega (arith, range, is.pages page within)

  pub page_put : page_of (put_bytes page at bytes image) page ≡ splice (page_of image page) at bytes
  page_put = get_or-set_same image page (splice (page_of image page) at bytes) [] (omega (arith, within, is.count))

  pub image_put : ((k : ℕ) → get_or bytes k 0 < 256) → IsImage n (put_bytes page at bytes image)
  image_put small = image_set n page image (splice (page_of image page) at bytes) is (splice_size (page_of image page) at bytes fits ∙ is.pages page within) (splice_small (page_of image page) at bytes (is.bytes page) small)

  pub byte_outside : (p k : ℕ) → (p ≡ page → (k < at) ⊎ (at + length bytes ≤ k)) → byte_of (put_bytes page at bytes image) p k ≡ byte_of image p k
  byte_outside p k outside = ⊎_elim
      (λ same.
      ap (λ (j : ℕ). byte_of (put_bytes page at bytes image) j k) same
      ∙ ap (λ (l : List ℕ). get_or l k 0) page_put
      ∙ splice_outside (page_of image page) at bytes fits k (outside same)
      ∙ ap (λ (j : ℕ). byte_of image j k) (sym same))
      (λ other. ap (λ (l : List ℕ). get_or l k 0) (get_or-set_other image page p (splice (page_of image page) at bytes) [] other))
      (cases_eq p page)

  pub byte_inside : (k : ℕ) → at ≤ k → k < at + length bytes → byte_of (put_bytes page at bytes image) page k ≡ get_or bytes (k - at) 0
  byte_inside k low high = ap (λ (l : List ℕ). get_or l k 0) page_put ∙ splice_inside (page_of image page) at bytes fits k low high
