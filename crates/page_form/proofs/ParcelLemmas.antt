-- How effects fill pages, one after another.
use Rattle.page_form.proofs.Names.{Effect, size_of, size_some, sizes, Parcel, Shared, Alone, closed, parcels_from, pieced, full_pages, pages_of, filling, reach, begun_pages, Filled, ◌≡◌, ℕ, zero, suc, ◌+◌, ◌≤◌, ◌<◌, List, [], ◌∷◌, ◌++◌, length, get_or, drop, ◌⊎◌, refl, sym, ◌∙◌, ap, subst, arith, inl, inr, append_assoc, zero-add, length-append, nat_le, ◌==◌, flat_map, cases_Bool, cond-true, cond-false, le-leb, lt-leb, leb-true, leb-false, ne_eqb, drop_more, drop_all, own_pages}

pub sizes-append : (a b : List Effect) → sizes (a ++ b) ≡ sizes a + sizes b
sizes-append [] b = sym (zero-add (sizes b))
sizes-append (e ∷ a) b = let rest = sizes-append a b in omega (arith, rest)

pub sizes-push : (a : List Effect) (e : Effect) → sizes (a ++ e ∷ []) ≡ sizes a + size_of e
sizes-push a e = let both = sizes-append a (e ∷ []) in omega (arith, both)

-- ---- the parcels of effects

module _ (page : List Effect) (e : Effect) (rest : List Effect) where
  -- the page takes one more
  pub parcels-takes : sizes page + size_of e ≤ 4091 → parcels_from page (e ∷ rest) ≡ parcels_from (page ++ e ∷ []) rest
  parcels-takes fits = cond-true (nat_le (sizes page + size_of e) 4091) _ _ (le-leb (sizes page + size_of e) 4091 fits)

  -- or it is full, and the next begins with it
  pub parcels-begins : 4091 < sizes page + size_of e → size_of e ≤ 4091 → parcels_from page (e ∷ rest) ≡ closed page ++ parcels_from (e ∷ []) rest
  parcels-begins over short =
      cond-false (nat_le (sizes page + size_of e) 4091) _ _ (lt-leb (sizes page + size_of e) 4091 over)
      ∙ cond-true (nat_le (size_of e) 4091) _ _ (le-leb (size_of e) 4091 short)

  -- or it is longer than a page
  pub parcels-alone : 4091 < size_of e → parcels_from page (e ∷ rest) ≡ closed page ++ Alone e ∷ parcels_from [] rest
  parcels-alone long =
      cond-false (nat_le (sizes page + size_of e) 4091) _ _ (lt-leb (sizes page + size_of e) 4091 (omega (arith, long)))
      ∙ cond-false (nat_le (size_of e) 4091) _ _ (lt-leb (size_of e) 4091 long)

-- what holds of parcels holds by the three cases of the next effect
abbrev ParcelCase : (page : List Effect) (e : Effect) → Type 0
ParcelCase page e = (sizes page + size_of e ≤ 4091) ⊎ ((4091 < sizes page + size_of e) × (size_of e ≤ 4091)) ⊎ (4091 < size_of e)

pub parcel_case : (page : List Effect) (e : Effect) → ParcelCase page e
parcel_case page e = elim (cases_Bool (nat_le (sizes page + size_of e) 4091)) [
  | inl fits ↦ inl (leb-true (sizes page + size_of e) 4091 fits)
  | inr over ↦ elim (cases_Bool (nat_le (size_of e) 4091)) [
    | inl short ↦ inr (inl (leb-false (sizes page + size_of e) 4091 over, leb-true (size_of e) 4091 short))
    | inr long ↦ inr (inr (leb-false (size_of e) 4091 long))
  ]
]

pub flat_map-append : {A B : Type 0} (f : A → List B) (a b : List A) → flat_map f (a ++ b) ≡ flat_map f a ++ flat_map f b
flat_map-append f [] b = refl
flat_map-append f (x ∷ a) b = ap (λ l. f x ++ l) (flat_map-append f a b) ∙ sym (append_assoc (f x) (flat_map f a) (flat_map f b))

-- ---- how many pages there are

pub length-pieced : (n : ℕ) (e : Effect) → length (pieced n e) ≡ n + 1
length-pieced zero e = refl
length-pieced (suc n) e = let rest = length-pieced n e in omega (arith, rest)

abbrev pub count_of : List Parcel → ℕ
count_of ps = length (flat_map pages_of ps)

pub count-append : (a b : List Parcel) → count_of (a ++ b) ≡ count_of a + count_of b
count-append a b = ap (λ (l : List (List Effect)). length l) (flat_map-append pages_of a b) ∙ length-append (flat_map pages_of a) (flat_map pages_of b)

pub count-closed : (page : List Effect) → count_of (closed page) ≡ begun_pages (sizes page)
count-closed [] = refl
count-closed (e ∷ page) = sym (cond-false (sizes (e ∷ page) == 0) 0 1 (ne_eqb (sizes (e ∷ page)) 0 (λ none. let some = size_some e in omega (arith, some, none))))

pub count-alone : (e : Effect) → count_of (Alone e ∷ []) ≡ full_pages e + 1
count-alone e = length-append (pieced (full_pages e) e) [] ∙ (let size = length-pieced (full_pages e) e in omega (arith, size))

pub count-first : (p : Parcel) (ps : List Parcel) → count_of (p ∷ ps) ≡ count_of (p ∷ []) + count_of ps
count-first p ps = count-append (p ∷ []) ps

-- the pages of the effect at hand are among them
count-some : (page rest : List Effect) → 1 ≤ length page → 1 ≤ count_of (parcels_from page rest)
count-some [] rest some = absurd (omega (arith, some))
count-some (e ∷ page) [] some = omega arith
count-some (x ∷ page) (e ∷ rest) some = elim (parcel_case (x ∷ page) e) [
  | inl fits ↦ subst (λ (l : List Parcel). 1 ≤ count_of l) (sym (parcels-takes (x ∷ page) e rest fits)) (count-some (x ∷ page ++ e ∷ []) rest (omega arith))
  | inr other ↦ elim other [
    | inl short ↦ subst (λ (l : List Parcel). 1 ≤ count_of l) (sym (parcels-begins (x ∷ page) e rest short.0 short.1)) (omega (arith, count-first (Shared (x ∷ page)) (parcels_from (e ∷ []) rest)))
    | inr long ↦ subst (λ (l : List Parcel). 1 ≤ count_of l) (sym (parcels-alone (x ∷ page) e rest long)) (omega (arith, count-first (Shared (x ∷ page)) (Alone e ∷ parcels_from [] rest)))
  ]
]

-- an effect fills some pages
pub own-some : (e : Effect) → 1 ≤ own_pages e
own-some e = elim (cases_Bool (nat_le (size_of e) 4091)) [
  | inl short ↦ subst (λ (n : ℕ). 1 ≤ n) (sym (cond-true (nat_le (size_of e) 4091) 1 (full_pages e + 1) short)) (omega arith)
  | inr long ↦ subst (λ (n : ℕ). 1 ≤ n) (sym (cond-false (nat_le (size_of e) 4091) 1 (full_pages e + 1) long)) (omega arith)
]

pub filled_none : (effects : List Effect) → Filled effects 0 0 0
filled_none effects = record { page = []; size_is = refl; count = zero-add (length (filling effects)) }

some_length : (page : List Effect) (e : Effect) → 1 ≤ length (page ++ e ∷ [])
some_length page e = omega (arith, length-append page (e ∷ []))

module _ (effects : List Effect) (i full size : ℕ) (was : Filled effects i full size) (e : Effect) (within : i < length effects) (here : get_or effects i e ≡ e) where
  at_hand : full + count_of (parcels_from was.page (e ∷ drop (i + 1) effects)) ≡ length (filling effects)
  at_hand = ap (λ (x : Effect). full + count_of (parcels_from was.page (x ∷ drop (i + 1) effects))) (sym here) ∙ ap (λ (l : List Effect). full + count_of (parcels_from was.page l)) (sym (drop_more effects i e within)) ∙ was.count

  takes_count : size + size_of e ≤ 4091 → full + count_of (parcels_from (was.page ++ e ∷ []) (drop (i + 1) effects)) ≡ length (filling effects)
  takes_count fits = ap (λ (l : List Parcel). full + count_of l) (sym (parcels-takes was.page e (drop (i + 1) effects) (omega (arith, fits, was.size_is)))) ∙ at_hand

  pub filled_takes : size + size_of e ≤ 4091 → Filled effects (i + 1) full (size + size_of e)
  filled_takes fits = record { page = was.page ++ e ∷ []; size_is = sizes-push was.page e ∙ omega (arith, was.size_is); count = takes_count fits }

  begun_is : count_of (closed was.page) ≡ begun_pages size
  begun_is = count-closed was.page ∙ ap begun_pages was.size_is

  begins_count : 4091 < size + size_of e → size_of e ≤ 4091 → full + begun_pages size + count_of (parcels_from (e ∷ []) (drop (i + 1) effects)) ≡ length (filling effects)
  begins_count over short =
      let all = at_hand in
      let is = ap count_of (parcels-begins was.page e (drop (i + 1) effects) (omega (arith, over, was.size_is)) short) ∙ count-append (closed was.page) (parcels_from (e ∷ []) (drop (i + 1) effects)) in
      let first = begun_is in
      omega (arith, all, is, first)

  pub filled_begins : 4091 < size + size_of e → size_of e ≤ 4091 → Filled effects (i + 1) (full + begun_pages size) (size_of e)
  filled_begins over short = record { page = e ∷ []; size_is = omega arith; count = begins_count over short }

  alone_count : 4091 < size_of e → full + begun_pages size + (full_pages e + 1) + count_of (parcels_from [] (drop (i + 1) effects)) ≡ length (filling effects)
  alone_count long =
      let all = at_hand in
      let rest = parcels_from [] (drop (i + 1) effects) in
      let is = ap count_of (parcels-alone was.page e (drop (i + 1) effects) long) ∙ count-append (closed was.page) (Alone e ∷ rest) in
      let first = begun_is in
      let one = count-first (Alone e) rest in
      let size_here = count-alone e in
      omega (arith, all, is, first, one, size_here)

  pub filled_alone : 4091 < size_of e → Filled effects (i + 1) (full + begun_pages size + (full_pages e + 1)) 0
  filled_alone long = record { page = []; size_is = refl; count = alone_count long }

  -- the effect's pages are among those that the effects fill
  pub filled_reach : full + reach size e ≤ length (filling effects)
  filled_reach = elim (parcel_case was.page e) [
    | inl fits ↦
        let fits_here : size + size_of e ≤ 4091 = omega (arith, fits, was.size_is) in
        let some = count-some (was.page ++ e ∷ []) (drop (i + 1) effects) (some_length was.page e) in
        let all = takes_count fits_here in
        subst (λ (n : ℕ). full + n ≤ length (filling effects)) (sym (cond-true (nat_le (size + size_of e) 4091) 1 (begun_pages size + own_pages e) (le-leb (size + size_of e) 4091 fits_here))) (omega (arith, some, all))
    | inr other ↦ elim other [
      | inl short ↦
          let over_here : 4091 < size + size_of e = omega (arith, short.0, was.size_is) in
          let some = count-some (e ∷ []) (drop (i + 1) effects) (omega arith) in
          let all = begins_count over_here short.1 in
          let own : own_pages e ≡ 1 = cond-true (nat_le (size_of e) 4091) 1 (full_pages e + 1) (le-leb (size_of e) 4091 short.1) in
          subst (λ (n : ℕ). full + n ≤ length (filling effects)) (sym (cond-false (nat_le (size + size_of e) 4091) 1 (begun_pages size + own_pages e) (lt-leb (size + size_of e) 4091 over_here))) (omega (arith, some, all, own))
      | inr long ↦
          let over_here : 4091 < size + size_of e = omega (arith, long) in
          let all = alone_count long in
          let own : own_pages e ≡ full_pages e + 1 = cond-false (nat_le (size_of e) 4091) 1 (full_pages e + 1) (lt-leb (size_of e) 4091 long) in
          subst (λ (n : ℕ). full + n ≤ length (filling effects)) (sym (cond-false (nat_le (size + size_of e) 4091) 1 (begun_pages size + own_pages e) (lt-leb (size + size_of e) 4091 over_here))) (omega (arith, all, own))
    ]
  ]

pub reach-some : (size : ℕ) (e : Effect) → 1 ≤ reach size e
reach-some size e = elim (cases_Bool (nat_le (size + size_of e) 4091)) [
  | inl fits ↦ subst (λ (n : ℕ). 1 ≤ n) (sym (cond-true (nat_le (size + size_of e) 4091) 1 (begun_pages size + own_pages e) fits)) (omega arith)
  | inr over ↦ subst (λ (n : ℕ). 1 ≤ n) (sym (cond-false (nat_le (size + size_of e) 4091) 1 (begun_pages size + own_pages e) over)) (let some = own-some e in omega (arith, some))
]

pub reach-begins : (size : ℕ) (e : Effect) → 4091 < size + size_of e → begun_pages size + 1 ≤ reach size e
reach-begins size e over = subst (λ (n : ℕ). begun_pages size + 1 ≤ n) (sym (cond-false (nat_le (size + size_of e) 4091) 1 (begun_pages size + own_pages e) (lt-leb (size + size_of e) 4091 over))) (let some = own-some e in omega (arith, some))

pub filled_all : (effects : List Effect) (i full size : ℕ) → length effects ≤ i → Filled effects i full size → full + begun_pages size ≡ length (filling effects)
filled_all effects i full size done was =
    let all = ap (λ (l : List Effect). full + count_of (parcels_from was.page l)) (sym (drop_all i effects done)) ∙ was.count in
    let first = count-closed was.page ∙ ap begun_pages was.size_is in
    omega (arith, all, first)
