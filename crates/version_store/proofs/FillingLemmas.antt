-- What the pages that effects fill have, and how many they are at most.
use Rattle.version_store.proofs.Names.{Every, Effect, IsEffect, AreEffects, size_of, size_most, sizes, Parcel, Shared, Alone, closed, parcels_from, parcels, pieced, full_pages, pages_of, filling, joined, ◌≡◌, ℕ, zero, suc, ◌+◌, ◌≤◌, ◌<◌, List, [], ◌∷◌, ◌++◌, length, refl, sym, ◌∙◌, ap, subst, arith, inl, inr, append_assoc, zero-add, nat_le, ◌*◌, flat_map, cases_Bool, cond-true, cond-false, lt-leb, append-nil, own_pages, pages_apart}
use Rattle.pseudo_time.proofs.ListLemmas.{every-append}
use Rattle.page_form.proofs.ParcelLemmas.{count-alone, count-append, count-first, count_of, flat_map-append, own-some, parcel_case, parcels-alone, parcels-begins, parcels-takes, sizes-push}

-- the effects of parcels
abbrev pub effects_in : Parcel → List Effect
effects_in (Shared es) = es
effects_in (Alone e) = e ∷ []

abbrev pub effects_in_all : List Parcel → List Effect
effects_in_all ps = flat_map effects_in ps

effects_in-closed : (page : List Effect) → effects_in_all (closed page) ≡ page
effects_in-closed [] = refl
effects_in-closed (e ∷ page) = append-nil (e ∷ page)

effects_in-parcels_from : (page rest : List Effect) → effects_in_all (parcels_from page rest) ≡ page ++ rest
effects_in-parcels_from page [] = effects_in-closed page ∙ sym (append-nil page)
effects_in-parcels_from page (e ∷ rest) = elim (parcel_case page e) [
  | inl fits ↦ ap effects_in_all (parcels-takes page e rest fits) ∙ effects_in-parcels_from (page ++ e ∷ []) rest ∙ append_assoc page (e ∷ []) rest
  | inr other ↦ elim other [
    | inl short ↦
        ap effects_in_all (parcels-begins page e rest short.0 short.1) ∙ flat_map-append effects_in (closed page) (parcels_from (e ∷ []) rest)
        ∙ ap (λ (l : List Effect). l ++ effects_in_all (parcels_from (e ∷ []) rest)) (effects_in-closed page) ∙ ap (λ (l : List Effect). page ++ l) (effects_in-parcels_from (e ∷ []) rest)
    | inr long ↦
        ap effects_in_all (parcels-alone page e rest long) ∙ flat_map-append effects_in (closed page) (Alone e ∷ parcels_from [] rest)
        ∙ ap (λ (l : List Effect). l ++ effects_in_all (Alone e ∷ parcels_from [] rest)) (effects_in-closed page) ∙ ap (λ (l : List Effect). page ++ e ∷ l) (effects_in-parcels_from [] rest)
  ]
]

joined-append : (a b : List (List Effect)) → joined (a ++ b) ≡ joined a ++ joined b
joined-append a b = flat_map-append (λ (es : List Effect). es) a b

joined-pieced : (n : ℕ) (e : Effect) → joined (pieced n e) ≡ e ∷ []
joined-pieced zero e = refl
joined-pieced (suc n) e = joined-pieced n e

joined-pages_of : (p : Parcel) → joined (pages_of p) ≡ effects_in p
joined-pages_of (Shared es) = append-nil es
joined-pages_of (Alone e) = joined-pieced (full_pages e) e

joined-all : (ps : List Parcel) → joined (flat_map pages_of ps) ≡ effects_in_all ps
joined-all [] = refl
joined-all (p ∷ ps) = joined-append (pages_of p) (flat_map pages_of ps) ∙ ap (λ (l : List Effect). l ++ joined (flat_map pages_of ps)) (joined-pages_of p) ∙ ap (λ (l : List Effect). effects_in p ++ l) (joined-all ps)

-- the pages have the effects in order
pub joined-filling : (effects : List Effect) → joined (filling effects) ≡ effects
joined-filling effects = joined-all (parcels effects) ∙ effects_in-parcels_from [] effects

-- ---- how many pages there are

-- an effect that is no longer than a page fills one
pub filling-one : (e : Effect) → size_of e ≤ 4091 → length (filling (e ∷ [])) ≡ 1
filling-one e short = ap count_of (parcels-takes [] e [] (omega (arith, short)))

-- no more pages than the effects have alone
closed-most : (page : List Effect) → count_of (closed page) ≤ 1
closed-most [] = omega arith
closed-most (e ∷ page) = omega arith

parcels-apart : (page rest : List Effect) → count_of (parcels_from page rest) ≤ count_of (closed page) + pages_apart rest
parcels-apart page [] = omega arith
parcels-apart page (e ∷ rest) = elim (parcel_case page e) [
  | inl fits ↦
      let same = ap count_of (parcels-takes page e rest fits) in
      let more = parcels-apart (page ++ e ∷ []) rest in
      let one = closed-most (page ++ e ∷ []) in
      let some = own-some e in
      omega (arith, same, more, one, some)
  | inr other ↦ elim other [
    | inl short ↦
        let same = ap count_of (parcels-begins page e rest short.0 short.1) ∙ count-append (closed page) (parcels_from (e ∷ []) rest) in
        let more = parcels-apart (e ∷ []) rest in
        let some = own-some e in
        omega (arith, same, more, some)
    | inr long ↦
        let same = ap count_of (parcels-alone page e rest long) ∙ count-append (closed page) (Alone e ∷ parcels_from [] rest) in
        let one = count-first (Alone e) (parcels_from [] rest) in
        let alone = count-alone e in
        let own : own_pages e ≡ full_pages e + 1 = cond-false (nat_le (size_of e) 4091) 1 (full_pages e + 1) (lt-leb (size_of e) 4091 long) in
        let more = parcels-apart [] rest in
        omega (arith, same, one, alone, own, more)
  ]
]

pub filling-apart : (effects : List Effect) → length (filling effects) ≤ pages_apart effects
filling-apart effects = let few = parcels-apart [] effects in omega (arith, few)

pub apart-append : (a b : List Effect) → pages_apart (a ++ b) ≡ pages_apart a + pages_apart b
apart-append [] b = sym (zero-add (pages_apart b))
apart-append (e ∷ a) b = let rest = apart-append a b in omega (arith, rest)

-- each effect fills seventeen pages at most
pub own-most : (e : Effect) → IsEffect e → own_pages e ≤ 17
own-most e good = elim (cases_Bool (nat_le (size_of e) 4091)) [
  | inl short ↦ subst (λ (n : ℕ). n ≤ 17) (sym (cond-true (nat_le (size_of e) 4091) 1 (full_pages e + 1) short)) (omega arith)
  | inr long ↦ subst (λ (n : ℕ). n ≤ 17) (sym (cond-false (nat_le (size_of e) 4091) 1 (full_pages e + 1) long)) (let most = size_most e good in omega (arith, most))
]

apart-most : (effects : List Effect) → AreEffects effects → pages_apart effects ≤ 17 * length effects
apart-most [] good = omega arith
apart-most (e ∷ effects) good = let first = own-most e good.0 in let rest = apart-most effects good.1 in omega (arith, first, rest)

pub filling-most : (effects : List Effect) → AreEffects effects → length (filling effects) ≤ 17 * length effects
filling-most effects good = let few = filling-apart effects in let most = apart-most effects good in omega (arith, few, most)

-- ---- each parcel has some effects, and they fit

pub record FitsPage (es : List Effect) : Type 0 where
  pub some : 1 ≤ length es
  pub most : sizes es ≤ 4091
  pub ranges : AreEffects es

abbrev pub FitsPages : Parcel → Type 0
FitsPages (Shared es) = FitsPage es
FitsPages (Alone e) = (4091 < size_of e) × IsEffect e

closed-fits : (page : List Effect) → sizes page ≤ 4091 → AreEffects page → Every FitsPages (closed page)
closed-fits [] most ranges = tt
closed-fits (e ∷ page) most ranges = (record { some = omega arith; most = most; ranges = ranges }, tt)

parcels-fit : (page rest : List Effect) → sizes page ≤ 4091 → AreEffects page → AreEffects rest → Every FitsPages (parcels_from page rest)
parcels-fit page [] most ranges good = closed-fits page most ranges
parcels-fit page (e ∷ rest) most ranges good = elim (parcel_case page e) [
  | inl fits ↦
      let both = sizes-push page e in
      subst (λ (l : List Parcel). Every FitsPages l) (sym (parcels-takes page e rest fits))
      (parcels-fit (page ++ e ∷ []) rest (omega (arith, fits, both)) (every-append IsEffect page (e ∷ []) ranges (good.0, tt)) good.1)
  | inr other ↦ elim other [
    | inl short ↦
        subst (λ (l : List Parcel). Every FitsPages l) (sym (parcels-begins page e rest short.0 short.1))
        (every-append FitsPages (closed page) (parcels_from (e ∷ []) rest) (closed-fits page most ranges) (parcels-fit (e ∷ []) rest (omega (arith, short.1)) (good.0, tt) good.1))
    | inr long ↦
        subst (λ (l : List Parcel). Every FitsPages l) (sym (parcels-alone page e rest long))
        (every-append FitsPages (closed page) (Alone e ∷ parcels_from [] rest) (closed-fits page most ranges) ((long, good.0), parcels-fit [] rest (omega arith) tt good.1))
  ]
]

pub filling-fits : (effects : List Effect) → AreEffects effects → Every FitsPages (parcels effects)
filling-fits effects good = parcels-fit [] effects (omega arith) tt good
