-- How the log of an image goes on from page to page.
use Rattle.version_store.proofs.Names.{some_is, Image, is_blank, state_of, Blank, Spoiled, Gated, Log, Content, content_of, Reading, Going, Ended, Damaged, log_going, begun, next, scan, finish, entries, ◌≡◌, ℕ, suc, ◌+◌, ◌<◌, List, [], ◌∷◌, ◌++◌, length, get_or, take, drop, true, Some, Ok, refl, sym, ◌∙◌, ap, arith, add-zero, add-one, length-take, slice_set, list_all, cond-true, and_parts, set_split, take_more, take_more_set, take-append-drop}

pub scan-append : (front rest : Image) (reading : Reading) (n : ℕ) → scan reading n (front ++ rest) ≡ scan (scan reading n front) (n + length front) rest
scan-append [] rest reading n = ap (λ (k : ℕ). scan reading k rest) (sym (add-zero n))
scan-append (page ∷ front) rest reading n =
    let moved : n + 1 + length front ≡ n + suc (length front) = omega arith in
    scan-append front rest (next reading n (state_of page)) (n + 1) ∙ ap (λ (k : ℕ). scan (scan (next reading n (state_of page)) (n + 1) front) k rest) moved

ended_blanks : (c : Content) (n : ℕ) (pages : Image) → list_all is_blank pages ≡ true → scan (Ended c) n pages ≡ Ended c
ended_blanks c n [] blank = refl
ended_blanks c n (page ∷ pages) blank =
    let parts = and_parts _ _ blank in
    ap (λ s. scan (next (Ended c) n s) (n + 1) pages) (cond-true (is_blank page) _ _ parts.0) ∙ ended_blanks c (n + 1) pages parts.1

-- the blank pages at the end leave the log
pub finish_blanks : (c : Content) (n : ℕ) (pages : Image) → list_all is_blank pages ≡ true → finish (scan (Going c) n pages) ≡ Ok c.log
finish_blanks c n [] blank = refl
finish_blanks c n (page ∷ pages) blank =
    let parts = and_parts _ _ blank in
    ap (λ s. finish (scan (next (Going c) n s) (n + 1) pages)) (cond-true (is_blank page) _ _ parts.0) ∙ ap finish (ended_blanks c (n + 1) pages parts.1)

-- a reading that goes on has a content with its log
pub going : (reading : Reading) (log : Log) → log_going reading ≡ Some log → (c : Content) × (reading ≡ Going c) × (c.log ≡ log)
going (Going c) log is = (c, refl, some_is c.log log is)
going (Ended c) log is = absurd (cc is)
going (Damaged page) log is = absurd (cc is)

module _ (image : Image) (n : ℕ) (c : Content) (within : n < length image) (front : scan begun 0 (take n image) ≡ Going c) (blank : list_all is_blank (drop (n + 1) image) ≡ true) where
  at_page : (page : List ℕ) → entries (slice_set image n page) ≡ finish (scan (next (Going c) n (state_of page)) (n + 1) (drop (n + 1) image))
  at_page page =
      ap entries (set_split image n page within ∙ ap (λ (k : ℕ). take n image ++ page ∷ drop k image) (sym (add-one n)))
      ∙ ap finish (scan-append (take n image) (page ∷ drop (n + 1) image) begun 0
      ∙ ap (λ r. scan r (0 + length (take n image)) (page ∷ drop (n + 1) image)) front
      ∙ ap (λ (k : ℕ). scan (Going c) k (page ∷ drop (n + 1) image)) at_n)
    where
      at_n : 0 + length (take n image) ≡ n
      at_n = omega (arith, length-take n image, within)

  pub stays_blank : (page : List ℕ) → state_of page ≡ Blank → entries (slice_set image n page) ≡ Ok c.log
  stays_blank page is = at_page page ∙ ap (λ s. finish (scan (next (Going c) n s) (n + 1) (drop (n + 1) image))) is ∙ ap finish (ended_blanks c (n + 1) (drop (n + 1) image) blank)

  pub stays_spoiled : (page : List ℕ) → state_of page ≡ Spoiled → entries (slice_set image n page) ≡ Ok c.log
  stays_spoiled page is = at_page page ∙ ap (λ s. finish (scan (next (Going c) n s) (n + 1) (drop (n + 1) image))) is ∙ finish_blanks (content_of c.log) (n + 1) (drop (n + 1) image) blank

  pub steps : (page body : List ℕ) (end : Content) → state_of page ≡ Gated body → next (Going c) n (Gated body) ≡ Going end → entries (slice_set image n page) ≡ Ok end.log
  steps page body end is step =
      at_page page ∙ ap (λ s. finish (scan (next (Going c) n s) (n + 1) (drop (n + 1) image))) is
      ∙ ap (λ r. finish (scan r (n + 1) (drop (n + 1) image))) step ∙ finish_blanks end (n + 1) (drop (n + 1) image) blank

-- the front is one page longer
pub front_steps : (image : Image) (n : ℕ) (page : List ℕ) → n < length image → scan begun 0 (take (n + 1) (slice_set image n page)) ≡ next (scan begun 0 (take n image)) n (state_of page)
front_steps image n page within =
    ap (λ (l : Image). scan begun 0 l) (take_more_set image n page within)
    ∙ scan-append (take n image) (page ∷ []) begun 0
    ∙ ap (λ (k : ℕ). scan (scan begun 0 (take n image)) k (page ∷ [])) at_n
  where
    at_n : 0 + length (take n image) ≡ n
    at_n = omega (arith, length-take n image, within)

-- a store's image stands for its log
pub log_at_rest : (image : Image) (n : ℕ) (log : Log) → log_going (scan begun 0 (take n image)) ≡ Some log → list_all is_blank (drop n image) ≡ true → entries image ≡ Ok log
log_at_rest image n log front blank =
    let on = going (scan begun 0 (take n image)) log front in
    ap entries (sym (take-append-drop n image))
    ∙ ap finish (scan-append (take n image) (drop n image) begun 0 ∙ ap (λ r. scan r (0 + length (take n image)) (drop n image)) on.1)
    ∙ finish_blanks on.0 (0 + length (take n image)) (drop n image) blank ∙ ap (λ (l : Log). Ok l) on.2

-- one page more is read
pub scan_more : (image : Image) (i : ℕ) → i < length image → scan begun 0 (take (i + 1) image) ≡ next (scan begun 0 (take i image)) i (state_of (get_or image i []))
scan_more image i within =
    ap (λ (l : Image). scan begun 0 l) (take_more image i [] within) ∙ scan-append (take i image) (get_or image i [] ∷ []) begun 0
    ∙ ap (λ (k : ℕ). next (scan begun 0 (take i image)) k (state_of (get_or image i []))) at_i
  where
    at_i : 0 + length (take i image) ≡ i
    at_i = omega (arith, length-take i image, within)

damaged_stays : (first n : ℕ) (pages : Image) → scan (Damaged first) n pages ≡ Damaged first
damaged_stays first n [] = refl
damaged_stays first n (page ∷ pages) = damaged_stays first (n + 1) pages

-- the first damaged page is told whatever stands behind it
pub scan_damaged : (image : Image) (i first : ℕ) → scan begun 0 (take i image) ≡ Damaged first → scan begun 0 image ≡ Damaged first
scan_damaged image i first is =
    ap (λ (l : Image). scan begun 0 l) (sym (take-append-drop i image)) ∙ scan-append (take i image) (drop i image) begun 0
    ∙ ap (λ r. scan r (0 + length (take i image)) (drop i image)) is ∙ damaged_stays first (0 + length (take i image)) (drop i image)
